use Rattle.binding_graph.proofs.LastShownLemmas.{insert_same}
use Rattle.binding_graph.proofs.last_shown.make_object.Goals as goal

pub returns-in_ok-insert-in-Err-clause-same : goal.returns-in_ok-insert-in-Err-clause-same
returns-in_ok-insert-in-Err-clause-same c = rw c.in_ok-insert-in-Err.ensures.items
    (insert_same c.requires (record { object = c.args.object; slots = c.new-slots.result })
    (rw c.as_slice.ensures.value at c.in-Err.ensures.gap) c.new-slots.ensures.items)
