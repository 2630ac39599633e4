use Rattle.std.proofs.Common.{◌≡◌, ◌≤◌, ℕ, None, length}
use Rattle.binding_graph.specs.LastShown.{slot_at}
use Rattle.binding_graph.proofs.shown_object.count_used.Given as goal

abbrev pub invariant-used : goal.invariant-used
invariant-used l = (l.count ≤ length l.slots) × ((k : ℕ) → l.count ≤ k → slot_at l.slots k ≡ None)

abbrev pub decreases-used : goal.decreases-used
decreases-used l = l.count
