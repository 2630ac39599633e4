use Rattle.std.proofs.Common.{◌≡◌, filter_map, take}
use Rattle.std.specs.List.{flat_map}
use Rattle.property_store.specs.Table.{store_at}
use Rattle.binding_values.specs.Graph.{shown_now}
use Rattle.binding_values.specs.Stored.{properties_of_object}
use Rattle.binding_graph.proofs.show.show_all.Given as goal

abbrev pub invariant-loop-position : goal.invariant-loop-position
invariant-loop-position l = l.rows.items ≡ filter_map (shown_now (store_at l.stores.shelves l.place) l.bindings)
    (flat_map properties_of_object (take l.position (store_at l.stores.shelves l.place)))
