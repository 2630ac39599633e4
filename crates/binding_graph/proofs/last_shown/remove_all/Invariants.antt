use Rattle.std.proofs.Common.{◌≡◌, if◌then◌else◌, None, take}
use Rattle.property_store.specs.declared.property.Property.{Property}
use Rattle.property_store.specs.Property.{among}
use Rattle.binding_values.specs.Graph.{shown_at}
use Rattle.binding_graph.specs.LastShown.{AreByObject, joined}
use Rattle.binding_graph.proofs.last_shown.remove_all.Given as goal

abbrev pub invariant-loop-at : goal.invariant-loop-at
invariant-loop-at l = record {
  sound : AreByObject l.objects.items;
  removed : (q : Property) → shown_at (joined l.objects.items) q
      ≡ (if among q (take l.at-index l.gone) then None else shown_at (joined l.initial.objects.items) q);
}
