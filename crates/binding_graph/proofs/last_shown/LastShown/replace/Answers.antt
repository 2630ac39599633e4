use Rattle.shared_rows.proofs.ForCallers.{on_err}
use Rattle.binding_graph.proofs.LastShownLemmas.{joined_same, joined_shown}
use Rattle.binding_graph.proofs.last_shown.LastShown.replace.Goals as goal

pub returns-in_err-make_slots-clause-err : goal.returns-in_err-make_slots-clause-err
returns-in_err-make_slots-clause-err c = rw (← c.self.view_is)
    (on_err c.from_residual.result (joined_same c.make_slots.new.objects.items c.self.inside.objects.items c.make_slots.ensures.same.sound
    c.self.invariant c.make_slots.ensures.same.same))

pub returns-clause-sound : goal.returns-clause-sound
returns-clause-sound c = joined_shown c.remove_all.new.objects.items c.remove_all.ensures.sound
