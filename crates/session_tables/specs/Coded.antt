-- How the logic stores the values of properties and their bindings.
use Rattle.std.specs.Prelude.{[], refl}
use Rattle.std.specs.Coded.{Coded, code_by, coded×}
use Rattle.shared_rows.specs.Table.{Table, table_code}
use Rattle.property_store.specs.contracts.stores.Stores as stores
use Rattle.property_store.specs.Table.{StoresView}
use Rattle.binding_graph.specs.Coded.{coded_graph}
use Rattle.binding_values.specs.Graph.{Graph}
use Rattle.session_tables.specs.Bound.{BoundShelves}

abbrev pub coded_bound : Coded BoundShelves
coded_bound =
    code_by (StoresView × Table Graph) (coded× stores.the_row.coded (table_code coded_graph))
    (λ bound. (record { shelves = bound.shelves; marks = [] }, bound.graphs)) (λ p. record { shelves = p.0.shelves; graphs = p.1 }) (λ _. refl)
