-- What contracts see of the tables: a session for each place.
use Rattle.std.specs.Prelude.{◌≡◌, ◌≤◌, ℕ, Bool, false, List, [], length, map, slice_index_or}
use Rattle.shared_rows.specs.Table as places
use Rattle.shared_rows.specs.Table.{ChangesAt, IsPlace, with_place}
use Rattle.binding_values.specs.Graph.{no_graph}
use Rattle.binding_graph.specs.Table.{graph_at}
use Rattle.session_tables.specs.Bound.{with_bound}
use Rattle.class_table.specs.declared.class.Class.{Class}
use Rattle.connection_list.specs.Rows.{no_rows}
use Rattle.connection_list.specs.Table.{rows_at, with_rows}
use Rattle.event_queue.specs.Queue.{empty_queue}
use Rattle.event_queue.specs.Table.{queue_at, with_queue}
use Rattle.object_tree.specs.Forest.{empty_forest}
use Rattle.object_tree.specs.Rows.{numbers}
use Rattle.object_tree.specs.Table.{forest_at, with_forest}
use Rattle.publish_board.specs.Desk.{no_desk}
use Rattle.publish_board.specs.Table.{desk_at, with_desk}
use Rattle.property_store.specs.Table as shelves
use Rattle.property_store.specs.Table.{store_at}
use Rattle.session_model.specs.State.{State, fields_of}
use Rattle.session_tables.specs.declared.tables.Tables.{Tables}
use Rattle.session_tables.specs.Session.{Session}

-- All tables have equally many places.
pub record AreEven (tables : Tables) : Type 0 where
  pub forests : length tables.forests.places ≡ length tables.failed.places
  pub stores : length tables.stores.shelves.table.places ≡ length tables.failed.places
  pub graphs : length tables.stores.graphs.places ≡ length tables.failed.places
  pub connections : length tables.connections.places ≡ length tables.failed.places
  pub queues : length tables.queues.places ≡ length tables.failed.places
  pub desks : length tables.desks.places ≡ length tables.failed.places

-- The place has been opened in each table, and so has every place of any of them.
abbrev pub IsPlaced : Tables → ℕ → Type 0
IsPlaced tables place = IsPlace tables.forests place × IsPlace tables.stores.shelves.table place × IsPlace tables.connections place
    × IsPlace tables.queues place × IsPlace tables.failed place × IsPlace tables.desks place × IsPlace tables.stores.graphs place × AreEven tables

-- Another place can be opened in each table without memory.
abbrev pub HasRoom : Tables → Type 0
HasRoom tables = (1 ≤ tables.forests.room) × (1 ≤ tables.stores.shelves.table.room) × (1 ≤ tables.stores.graphs.room)
    × (1 ≤ tables.connections.room) × (1 ≤ tables.queues.room) × (1 ≤ tables.desks.room) × (1 ≤ tables.failed.room)

-- The tables with another place, for a session that has had no command.
abbrev pub opened : Tables → Tables
opened tables = record {
  forests = places.opened tables.forests empty_forest;
  stores = record {
    shelves = record tables.stores.shelves { table = places.opened tables.stores.shelves.table [] };
    graphs = places.opened tables.stores.graphs no_graph;
  };
  connections = places.opened tables.connections no_rows;
  queues = places.opened tables.queues empty_queue;
  desks = places.opened tables.desks no_desk;
  failed = places.opened tables.failed false;
}

-- The state of the session at a place.
abbrev pub state_at : Tables → ℕ → State
state_at tables place = record {
  forest = forest_at tables.forests place;
  store = store_at tables.stores.shelves place;
  graph = graph_at tables.stores.graphs place;
  connections = rows_at tables.connections place;
  queue = queue_at tables.queues place;
  desk = desk_at tables.desks place;
}

-- Whether the session at a place has failed.
abbrev pub failed_at : Tables → ℕ → Bool
failed_at tables place = slice_index_or tables.failed.places place false

-- The session at a place.
abbrev pub session_at : Tables → ℕ → Session
session_at tables place = record { state = state_at tables place; failed = failed_at tables place }

-- The tables with a different state at a place.
abbrev pub with_state : Tables → ℕ → State → Tables
with_state tables place state = record {
  forests = with_forest tables.forests place state.forest;
  stores = with_bound tables.stores place state.store state.graph;
  connections = with_rows tables.connections place state.connections;
  queues = with_queue tables.queues place state.queue;
  desks = with_desk tables.desks place state.desk;
  failed = tables.failed;
}

-- The tables with a different session at a place.
abbrev pub with_session : Tables → ℕ → Session → Tables
with_session tables place session = record (with_state tables place session.state) { failed = with_place tables.failed place session.failed }

-- Only the session at this place has changed.
pub record ChangesOnly (place : ℕ) (old new : Tables) : Type 0 where
  pub forests : ChangesAt empty_forest place old.forests new.forests
  -- What classes declare is unchanged.
  pub layouts : new.stores.shelves.layouts ≡ old.stores.shelves.layouts
  pub stores : ChangesAt [] place old.stores.shelves.table new.stores.shelves.table
  pub graphs : ChangesAt no_graph place old.stores.graphs new.stores.graphs
  pub connections : ChangesAt no_rows place old.connections new.connections
  pub queues : ChangesAt empty_queue place old.queues new.queues
  pub desks : ChangesAt no_desk place old.desks new.desks
  pub failed : ChangesAt false place old.failed new.failed

-- No other session has changed, and none has failed or was restored.
pub record KeepsOthers (place : ℕ) (old new : Tables) : Type 0 where
  pub only : ChangesOnly place old new
  pub failed : new.failed ≡ old.failed

-- Each place is unchanged, and there may be more room.
pub record AreSame (old new : Tables) : Type 0 where
  pub forests : new.forests.places ≡ old.forests.places
  pub layouts : new.stores.shelves.layouts ≡ old.stores.shelves.layouts
  pub stores : new.stores.shelves.table.places ≡ old.stores.shelves.table.places
  pub graphs : new.stores.graphs.places ≡ old.stores.graphs.places
  pub connections : new.connections.places ≡ old.connections.places
  pub queues : new.queues.places ≡ old.queues.places
  pub desks : new.desks.places ≡ old.desks.places
  pub failed : new.failed.places ≡ old.failed.places

-- The tables know the properties that each class declares.
abbrev pub AreLaid : List Class → Tables → Type 0
AreLaid classes tables = (class : ℕ) → shelves.fields_of tables.stores.shelves class ≡ fields_of classes class

-- Exactly the objects of a session have properties.
abbrev pub AreStored : State → Type 0
AreStored state = map (λ of. of.object) state.store ≡ numbers state.forest.rows
