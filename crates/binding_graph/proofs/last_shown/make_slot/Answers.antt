use Rattle.binding_graph.proofs.LastShownLemmas.{more_slots}
use Rattle.binding_graph.proofs.last_shown.make_slot.Goals as goal

pub returns-in_err-make_slots-clause-same : goal.returns-in_err-make_slots-clause-same
returns-in_err-make_slots-clause-same c = more_slots c.in_ok-place.ensures.same c.in_ok-place.ensures.place c.index_mut-of.result.now
    c.index_mut-of.ensures.value c.make_slots.new.self c.make_slots.ensures.more

pub returns-clause-same : goal.returns-clause-same
returns-clause-same c = more_slots c.in_ok-place.ensures.same c.in_ok-place.ensures.place c.index_mut-of.result.now c.index_mut-of.ensures.value
    c.make_slots.new.self c.make_slots.ensures.more
