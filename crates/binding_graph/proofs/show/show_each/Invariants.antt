use Rattle.std.proofs.Common.{◌≡◌, if◌then◌else◌, None, take}
use Rattle.property_store.specs.declared.property.Property.{Property}
use Rattle.property_store.specs.Property.{among}
use Rattle.property_store.specs.Table.{store_at}
use Rattle.binding_values.specs.Graph.{shown_at, shown_now}
use Rattle.binding_graph.specs.Rows.{AreAbsent}
use Rattle.binding_graph.proofs.show.show_each.Given as goal

abbrev pub invariant-loop-at : goal.invariant-loop-at
invariant-loop-at l = record {
  shown : (q : Property) → shown_at l.now q
      ≡ (if among q (take l.at-index l.touched) then shown_now (store_at l.stores.shelves l.place) l.bindings q else None);
  absent : AreAbsent (store_at l.stores.shelves l.place) l.bindings (take l.at-index l.touched) l.initial.absent.items l.absent.items;
}
