-- The tables, where the stores and the bindings of one place have changed.
use Rattle.std.proofs.Common.{◌≡◌, ◌∙◌, ℕ, Option, refl, sym, ap, subst, arith}
use Rattle.std.proofs.lemmas.List.{length-map}
use Rattle.shared_rows.specs.Table.{IsPlace, Table}
use Rattle.shared_rows.proofs.ForCallers as column
use Rattle.property_store.specs.declared.property.Property.{Property}
use Rattle.property_store.specs.Store.{Store}
use Rattle.property_store.specs.Table.{StoreTable}
use Rattle.connection_list.specs.Rows.{no_rows}
use Rattle.event_queue.specs.Queue.{empty_queue}
use Rattle.object_tree.specs.Forest.{empty_forest}
use Rattle.publish_board.specs.Desk.{no_desk}
use Rattle.binding_values.specs.Graph.{Graph}
use Rattle.binding_graph.specs.Table.{Graphs}
use Rattle.session_model.specs.Showing.{changes}
use Rattle.session_tables.specs.declared.tables.Tables.{Tables}
use Rattle.session_tables.specs.Bound.{BoundShelves, all_closed, seen_of, with_bound}
use Rattle.session_tables.specs.Tables.{IsPlaced, state_at, with_state}
use Rattle.session_tables.specs.Told.{told_at}
use Rattle.session_tables.proofs.TablesLemmas.{columns}

-- where the stores alone have changed
abbrev pub with_stores : Tables → BoundShelves → Tables
with_stores tables stores = record tables { stores = stores }

pub state_with_stores : (tables : Tables) (place : ℕ) (store : Store) (graph : Graph)
    → with_stores tables (with_bound tables.stores place store graph)
    ≡ with_state tables place (record (state_at tables place) { store = store; graph = graph })
state_with_stores tables place store graph =
    sym (columns (with_stores tables (with_bound tables.stores place store graph))
    (with_state tables place (record (state_at tables place) { store = store; graph = graph }))
    (column.with_same empty_forest tables.forests place) refl (column.with_same no_rows tables.connections place)
    (column.with_same empty_queue tables.queues place) (column.with_same no_desk tables.desks place) refl)

-- a place of what is seen of the graphs is one of these
pub closed_place : (graphs : Table Graph) (place : ℕ) → IsPlace (all_closed graphs) place → IsPlace graphs place
closed_place graphs place closed = omega (arith, closed, length-map {A = Graph} {B = Graph})

module _ (tables : Tables) (place : ℕ) (stores : StoreTable) (bindings : Graphs) (is : seen_of stores bindings ≡ tables.stores)
    (placed : IsPlaced tables place) where
  abbrev seen : BoundShelves
  seen = seen_of stores bindings

  -- the place stands in both
  pub shelf_there : IsPlace stores.table place
  shelf_there = subst (λ (bound : BoundShelves). IsPlace bound.shelves.table place) (sym is) placed.1

  pub graph_there : IsPlace bindings.graphs place
  graph_there = closed_place bindings.graphs place (subst (λ (bound : BoundShelves). IsPlace bound.graphs place) (sym is) placed.6)

  -- what is put there is put into the state
  pub put_state : (store : BoundShelves → Store) (graph : BoundShelves → Graph) (new : BoundShelves) → new ≡ with_bound seen place (store seen) (graph seen)
      → with_stores tables new ≡ with_state tables place (record (state_at tables place) { store = store tables.stores; graph = graph tables.stores })
  put_state store graph new put =
      ap (with_stores tables) (put ∙ ap (λ bound. with_bound bound place (store bound) (graph bound)) is)
      ∙ state_with_stores tables place (store tables.stores) (graph tables.stores)

  -- and what is told is told of the states
  pub told_here : (new : BoundShelves) (written : Option Property)
      → told_at place seen new written ≡ changes (state_at tables place) (state_at (with_stores tables new) place) written
  told_here new written = ap (λ bound. told_at place bound new written) is
