-- What contracts see of the properties of all places.
use Rattle.std.specs.Prelude.{◌≡◌, ℕ, [], map}
use Rattle.shared_rows.specs.Table.{ChangesAt, Table}
use Rattle.property_store.specs.Store.{Store}
use Rattle.property_store.specs.Table.{StoreTable, store_at, with_store}
use Rattle.binding_values.specs.Graph.{Graph, no_graph}
use Rattle.binding_graph.specs.Table.{Graphs, graph_at, with_graph}
use Rattle.session_model.specs.State.{closed}

pub record BoundShelves : Type 0 where
  -- The stored values.
  pub shelves : StoreTable
  -- The bindings and groups, without what properties showed unless a group is open.
  pub graphs : Table Graph

-- The graphs, without what properties showed unless a group is open.
abbrev pub all_closed : Table Graph → Table Graph
all_closed graphs = record { places = map closed graphs.places; room = graphs.room }

-- Stores and bindings as contracts see them, without marks.
abbrev pub seen_of : StoreTable → Graphs → BoundShelves
seen_of shelves bindings = record { shelves = shelves; graphs = all_closed bindings.graphs }

-- The store of a place.
abbrev pub stored_at : BoundShelves → ℕ → Store
stored_at bound place = store_at bound.shelves place

-- The graph of a place.
abbrev pub bound_at : BoundShelves → ℕ → Graph
bound_at bound place = graph_at bound.graphs place

-- The tables with a different store and a different graph at a place.
abbrev pub with_bound : BoundShelves → ℕ → Store → Graph → BoundShelves
with_bound bound place store graph = record { shelves = with_store bound.shelves place store; graphs = with_graph bound.graphs place graph }

-- Only this place has changed, and not what classes declare.
pub record ChangesBound (place : ℕ) (old new : BoundShelves) : Type 0 where
  pub layouts : new.shelves.layouts ≡ old.shelves.layouts
  pub stores : ChangesAt [] place old.shelves.table new.shelves.table
  pub graphs : ChangesAt no_graph place old.graphs new.graphs
