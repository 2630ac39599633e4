use Rattle.std.proofs.Common.{◌≡◌, Some}
use Rattle.std.specs.Option.{option_map_or}
use Rattle.std.specs.Vec.Iter.{into_iter_items}
use Rattle.property_store.specs.declared.property.Property.{Property}
use Rattle.binding_values.specs.Graph.{AreShown, shown_at}
use Rattle.binding_graph.specs.LastShown.{AreByObject, HaveSlots, joined}
use Rattle.binding_graph.proofs.last_shown.put_all.Given as goal

-- what is shown with those rows that are left
abbrev pub invariant-loop-row : goal.invariant-loop-row
invariant-loop-row l =
    (goal.iterator-loop-row).can_next l.row-iterator ×
    (goal.iterator-loop-row).is_finite l.row-iterator ×
    (AreByObject l.objects.items × AreShown (into_iter_items l.row-iterator) × HaveSlots l.objects.items (into_iter_items l.row-iterator) ×
    ((q : Property) → option_map_or Some (shown_at (into_iter_items l.row-iterator) q) (shown_at (joined l.objects.items) q)
    ≡ option_map_or Some (shown_at l.fn.rest.items q) (shown_at (joined l.fn.objects.items) q)))
