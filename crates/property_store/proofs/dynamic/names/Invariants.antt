use Rattle.std.proofs.Common.{◌≡◌, map, take}
use Rattle.property_store.proofs.dynamic.names.Given as goal

abbrev pub invariant-loop-named : goal.invariant-loop-named
invariant-loop-named l = l.names.items ≡ map (λ named. named.name) (take l.named-index l.dynamic)
