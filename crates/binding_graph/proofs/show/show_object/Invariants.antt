use Rattle.std.proofs.Common.{◌≡◌, ◌++◌, ◌-◌, drop, filter_map, length}
use Rattle.property_store.specs.Table.{store_at}
use Rattle.binding_values.specs.Graph.{shown_now}
use Rattle.binding_values.specs.Stored.{numbered}
use Rattle.binding_graph.proofs.show.show_object.Given as goal

abbrev pub invariant-loop-number : goal.invariant-loop-number
invariant-loop-number l = l.rows.items ++ filter_map (shown_now (store_at l.stores.shelves l.place) l.bindings)
    (numbered l.object l.number (drop l.number l.fields)) ≡ l.initial.rows.items
    ++ filter_map (shown_now (store_at l.stores.shelves l.place) l.bindings) (numbered l.object 0 l.fields)

abbrev pub decreases-loop-number : goal.decreases-loop-number
decreases-loop-number l = length l.fields - l.number
