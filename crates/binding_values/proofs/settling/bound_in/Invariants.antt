use Rattle.std.proofs.Common.{◌≡◌, map, take}
use Rattle.binding_values.proofs.settling.bound_in.Given as goal

abbrev pub invariant-loop-binding : goal.invariant-loop-binding
invariant-loop-binding l = l.bound.items ≡ map (λ binding. binding.at) (take l.binding-index l.binding-items)
