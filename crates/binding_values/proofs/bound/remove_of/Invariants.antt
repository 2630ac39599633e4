use Rattle.std.proofs.Common.{◌≡◌, ◌==◌, filter, length, not}
use Rattle.binding_values.specs.declared.binding.Binding.{Binding}
use Rattle.binding_values.specs.Sorted.{IsCountBefore, IsRising}
use Rattle.binding_values.proofs.bound.remove_of.Given as goal

abbrev pub invariant-rows : goal.invariant-rows
invariant-rows l = record {
  rising : IsRising (λ (binding : Binding). binding.at) l.rows.items;
  count : IsCountBefore (λ (binding : Binding). binding.at) l.rows.items (record { object = l.object; number = 0 }) l.place;
  same : filter (λ (binding : Binding). not (binding.at.object == l.object)) l.rows.items
      ≡ filter (λ (binding : Binding). not (binding.at.object == l.object)) l.initial.rows.items;
}

abbrev pub decreases-rows : goal.decreases-rows
decreases-rows l = length l.rows.items
