use Rattle.std.proofs.Common.{◌≡◌, map, take}
use Rattle.stored_slots.proofs.table.Functors.rows.Given as goal

abbrev pub invariant-loop-one : goal.invariant-loop-one
invariant-loop-one g l = l.rows ≡ map (λ stored. stored.functor) (take l.one-index l.self.stored.items)
