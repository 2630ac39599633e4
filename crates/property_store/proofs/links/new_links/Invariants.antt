use Rattle.std.proofs.Common.{◌≡◌, ◌<◌, ℕ, Some, length}
use Rattle.std.specs.List.{slice_get}
use Rattle.property_store.specs.Chain.{new_link}
use Rattle.property_store.proofs.links.new_links.Given as goal

abbrev pub invariant-loop-number : goal.invariant-loop-number
invariant-loop-number l = (length l.links.items ≡ l.number) ×
    ((number : ℕ) → number < l.number → slice_get l.links.items number ≡ Some (new_link l.object l.count l.head number))
