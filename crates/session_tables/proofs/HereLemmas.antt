-- The tables of these columns, where the stores and the bindings of one place have changed.
use Rattle.std.proofs.Common.{◌≡◌, ◌∙◌, ℕ, Bool, List, Option, Result, IfOk, OnOk, Some, refl, sym, ap, subst}
use Rattle.shared_rows.specs.Table.{IsPlace, Table}
use Rattle.property_store.specs.declared.property.Property.{Property}
use Rattle.property_store.specs.Store.{Store}
use Rattle.property_store.specs.Table.{StoreTable, store_at}
use Rattle.binding_values.specs.declared.binding.Binding.{Binding}
use Rattle.binding_values.specs.declared.change.Change.{Change}
use Rattle.binding_values.specs.Graph.{Graph, no_graph}
use Rattle.binding_graph.specs.Table.{Graphs, graph_at}
use Rattle.connection_list.specs.Rows.{Rows}
use Rattle.event_queue.specs.Queue.{Queue}
use Rattle.object_tree.specs.Forest.{Forest}
use Rattle.publish_board.specs.Desk.{Desk}
use Rattle.session_model.specs.Showing.{changes}
use Rattle.session_model.specs.State.{closed}
use Rattle.session_tables.specs.declared.tables.Tables.{Tables}
use Rattle.session_tables.specs.Bound.{BoundShelves, all_closed, seen_of, with_bound}
use Rattle.session_tables.specs.Named.{Tells}
use Rattle.session_tables.specs.Settled.{IsNoted}
use Rattle.session_tables.specs.Tables.{IsPlaced, KeepsOthers, state_at, with_state}
use Rattle.binding_graph.specs.declared.write_changes.WriteChanges.{WriteChanges}
use Rattle.session_tables.specs.Told.{told_at}
use Rattle.session_tables.proofs.BoundLemmas.{graph_there, put_state, shelf_there, told_here}
use Rattle.session_tables.proofs.DeclaredLemmas.{TellsWritten}
use Rattle.session_tables.proofs.PlaceLemmas.{Settles, by_result, cleared_to, if_ok_too, settled_to, told_noted, where_ok_too}
use Rattle.session_tables.proofs.SeenLemmas.{seen_alike, with_bindings}
use Rattle.session_tables.proofs.TablesLemmas.{keeps_with, of_columns}

module _ {forests : Table Forest} {connections : Table Rows} {queues : Table Queue} {desks : Table Desk} {failed : Table Bool} {tables : Tables} {place : ℕ}
    (stores : StoreTable) (bindings : Graphs) (view_is : of_columns forests (seen_of stores bindings) connections queues desks failed ≡ tables)
    (placed : IsPlaced tables place) where
  abbrev old : Tables
  old = of_columns forests (seen_of stores bindings) connections queues desks failed

  there : IsPlaced old place
  there = subst (λ (tables : Tables). IsPlaced tables place) (sym view_is) placed

  -- the place stands in both
  pub shelf_stands : IsPlace stores.table place
  shelf_stands = shelf_there old place stores bindings refl there

  pub graph_stands : IsPlace bindings.graphs place
  graph_stands = graph_there old place stores bindings refl there

  -- what is put there is put into the state
  pub state_put : (store : BoundShelves → Store) (graph : BoundShelves → Graph) (new : BoundShelves)
      → new ≡ with_bound (seen_of stores bindings) place (store (seen_of stores bindings)) (graph (seen_of stores bindings))
      → of_columns forests new connections queues desks failed
      ≡ with_state tables place (record (state_at tables place) { store = store tables.stores; graph = graph tables.stores })
  state_put store graph new put =
      subst (λ (tables : Tables). of_columns forests new connections queues desks failed
      ≡ with_state tables place (record (state_at tables place) { store = store tables.stores; graph = graph tables.stores })) view_is
      (put_state old place stores bindings refl there store graph new put)

  module _ (new : StoreTable) (after : Graphs) where
    -- and what is told of it
    told_there : (written : Option Property) → told_at place (seen_of stores bindings) (seen_of new after) written
        ≡ changes (state_at tables place) (state_at (of_columns forests (seen_of new after) connections queues desks failed) place) written
    told_there written =
        subst (λ (tables : Tables). told_at place (seen_of stores bindings) (seen_of new after) written
        ≡ changes (state_at tables place) (state_at (of_columns forests (seen_of new after) connections queues desks failed) place) written) view_is
        (told_here old place stores bindings refl there (seen_of new after) written)

    pub tells_there : (at : Property) (told other : WriteChanges) → other ≡ told → TellsWritten place at (seen_of stores bindings) (seen_of new after) told
        → Tells at (state_at tables place) (state_at (of_columns forests (seen_of new after) connections queues desks failed) place) other
    tells_there at told other same tells =
        subst (Tells at (state_at tables place) (state_at (of_columns forests (seen_of new after) connections queues desks failed) place)) (sym same)
        (tells ∙ told_there (Some at))

    -- where contracts see no change, the tables are the same
    pub same_there : new ≡ stores → all_closed after.graphs ≡ all_closed bindings.graphs
        → of_columns forests (seen_of new after) connections queues desks failed ≡ tables
    same_there first second =
        ap (λ bound. of_columns forests bound connections queues desks failed) (seen_alike stores new bindings after place first second) ∙ view_is

    -- a place that was settled, or whose bindings were forgotten
    module _ {T E : Type 0} {result : Result T E} {told : T → List Change} {written : Option Property} {store : Store} {graph : Graph}
        (its : Settles place result told written stores new bindings after store graph) where
      pub state_settled : (store_of : BoundShelves → Store) (graph_of : BoundShelves → Graph) → store ≡ store_of (seen_of stores bindings)
          → closed graph ≡ graph_of (seen_of stores bindings)
          → OnOk result (of_columns forests (seen_of new after) connections queues desks failed
          ≡ with_state tables place (record (state_at tables place) { store = store_of tables.stores; graph = graph_of tables.stores }))
      state_settled store_of graph_of stored bound =
          where_ok_too result
          (λ is. state_put store_of graph_of (seen_of new after) (settled_to its (graph_of (seen_of stores bindings)) bound is
          ∙ ap (λ store. with_bound (seen_of stores bindings) place store (graph_of (seen_of stores bindings))) stored))
          its.ok

      pub keeps_settled : KeepsOthers place tables (of_columns forests (seen_of new after) connections queues desks failed)
      keeps_settled =
          by_result result (λ is. keeps (closed graph) (settled_to its (closed graph) refl is)) (λ is. keeps no_graph (cleared_to its is)) its.ok its.cleared
        where
          keeps : (graph : Graph) → seen_of new after ≡ with_bound (seen_of stores bindings) place store graph
              → KeepsOthers place tables (of_columns forests (seen_of new after) connections queues desks failed)
          keeps graph is =
              keeps_with tables (of_columns forests (seen_of new after) connections queues desks failed) place
              (record (state_at tables place) { store = store; graph = graph }) placed (state_put (λ of. store) (λ of. graph) (seen_of new after) is)

      -- and what is told where the place was noted
      pub told_settled : (change : List Binding → List Binding) → IsNoted (store_at stores place) (graph_at bindings.graphs place)
          → graph ≡ with_bindings change (graph_at bindings.graphs place)
          → IfOk result (λ value. told value
          ≡ changes (state_at tables place) (state_at (of_columns forests (seen_of new after) connections queues desks failed) place) written)
      told_settled change noted same = if_ok_too result (λ value is. is ∙ told_there written) (told_noted its change shelf_stands graph_stands noted same)
