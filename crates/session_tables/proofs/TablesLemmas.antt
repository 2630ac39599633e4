-- Tables with another session at a place.
use Rattle.std.proofs.Common.{◌≡◌, ◌<◌, ◌≤◌, ℕ, Bool, false, [], length, get_or, sym, ap, ◌∙◌, arith}
use Rattle.std.proofs.lemmas.Grind.{common_steps}
use Rattle.std.proofs.lemmas.List.{get_or_past}
use Rattle.shared_rows.specs.Table.{Table}
use Rattle.shared_rows.proofs.ForCallers as column
use Rattle.connection_list.specs.Rows.{Rows, no_rows}
use Rattle.event_queue.specs.Queue.{Queue, empty_queue}
use Rattle.object_tree.specs.Forest.{Forest, empty_forest}
use Rattle.property_store.specs.Store.{Store}
use Rattle.binding_values.specs.Graph.{Graph, no_graph}
use Rattle.session_tables.specs.Bound.{BoundShelves}
use Rattle.publish_board.specs.Desk.{Desk, no_desk}
use Rattle.session_model.specs.State.{State}
use Rattle.session_tables.specs.declared.tables.Tables.{Tables}
use Rattle.session_tables.specs.Session.{Session, fresh}
use Rattle.session_tables.specs.Tables.{AreEven, AreSame, ChangesOnly, IsPlaced, KeepsOthers, opened, session_at, state_at, with_session, with_state}

-- tables of these columns
abbrev pub of_columns : Table Forest → BoundShelves → Table Rows → Table Queue → Table Desk → Table Bool → Tables
of_columns forests stores connections queues desks failed = record
    { forests = forests; stores = stores; connections = connections; queues = queues; desks = desks; failed = failed }

-- the session that these make
abbrev made : Forest → Store → Graph → Rows → Queue → Desk → Bool → Session
made forest store graph connections queue desk failed = record
    { state = record { forest = forest; store = store; graph = graph; connections = connections; queue = queue; desk = desk }; failed = failed }

-- equal columns make equal tables
pub columns : (old new : Tables) → new.forests ≡ old.forests → new.stores ≡ old.stores → new.connections ≡ old.connections → new.queues ≡ old.queues
    → new.desks ≡ old.desks → new.failed ≡ old.failed → new ≡ old
columns old new forests stores connections queues desks failed =
    λ i. of_columns (forests i) (stores i) (connections i) (queues i) (desks i) (failed i)

-- equal parts make equal sessions
pub session_of : {a b : Forest} {c d : Store} {m n : Graph} {e f : Rows} {g h : Queue} {k l : Desk} {i j : Bool} → a ≡ b → c ≡ d → m ≡ n → e ≡ f → g ≡ h → k ≡ l
    → i ≡ j
    → made a c m e g k i ≡ made b d n f h l j
session_of forest store graph connections queue desk failed =
    λ i. made (forest i) (store i) (graph i) (connections i) (queue i) (desk i) (failed i)

-- with another session at a place, it stands there
pub session_there : (tables : Tables) (place : ℕ) (session : Session) → IsPlaced tables place → session_at (with_session tables place session) place ≡ session
session_there tables place session placed = session_of
    (column.with_there empty_forest tables.forests place session.state.forest placed.0)
    (column.with_there [] tables.stores.shelves.table place session.state.store placed.1)
    (column.with_there no_graph tables.stores.graphs place session.state.graph placed.6)
    (column.with_there no_rows tables.connections place session.state.connections placed.2)
    (column.with_there empty_queue tables.queues place session.state.queue placed.3)
    (column.with_there no_desk tables.desks place session.state.desk placed.5)
    (column.with_there false tables.failed place session.failed placed.4)

pub with_state_there : (tables : Tables) (place : ℕ) (state : State) → IsPlaced tables place → state_at (with_state tables place state) place ≡ state
with_state_there tables place state placed =
    ap (λ (session : Session). session.state) (session_there tables place (record { state = state; failed = false }) placed)

-- so where a state was put, it stands
pub state_with : (old new : Tables) (place : ℕ) (state : State) → IsPlaced old place → new ≡ with_state old place state → state_at new place ≡ state
state_with old new place state placed e = ap (λ tables. state_at tables place) e ∙ with_state_there old place state placed

-- and no other place has changed
pub changes_with : (old new : Tables) (place : ℕ) (state : State) → IsPlaced old place → new ≡ with_state old place state → ChangesOnly place old new
changes_with old new place state placed e = record {
  forests = column.changes_with empty_forest old.forests new.forests place state.forest placed.0 (ap (λ tables. tables.forests) e);
  layouts = ap (λ tables. tables.stores.shelves.layouts) e;
  stores = column.changes_with [] old.stores.shelves.table new.stores.shelves.table place state.store placed.1 (ap (λ tables. tables.stores.shelves.table) e);
  graphs = column.changes_with no_graph old.stores.graphs new.stores.graphs place state.graph placed.6 (ap (λ tables. tables.stores.graphs) e);
  connections = column.changes_with no_rows old.connections new.connections place state.connections placed.2 (ap (λ tables. tables.connections) e);
  queues = column.changes_with empty_queue old.queues new.queues place state.queue placed.3 (ap (λ tables. tables.queues) e);
  desks = column.changes_with no_desk old.desks new.desks place state.desk placed.5 (ap (λ tables. tables.desks) e);
  failed = column.changes_same false old.failed new.failed place (ap (λ tables. tables.failed) e);
}

pub changes_same : (old new : Tables) (place : ℕ) → new ≡ old → ChangesOnly place old new
changes_same old new place e = record {
  forests = column.changes_same empty_forest old.forests new.forests place (ap (λ tables. tables.forests) e);
  layouts = ap (λ tables. tables.stores.shelves.layouts) e;
  stores = column.changes_same [] old.stores.shelves.table new.stores.shelves.table place (ap (λ tables. tables.stores.shelves.table) e);
  graphs = column.changes_same no_graph old.stores.graphs new.stores.graphs place (ap (λ tables. tables.stores.graphs) e);
  connections = column.changes_same no_rows old.connections new.connections place (ap (λ tables. tables.connections) e);
  queues = column.changes_same empty_queue old.queues new.queues place (ap (λ tables. tables.queues) e);
  desks = column.changes_same no_desk old.desks new.desks place (ap (λ tables. tables.desks) e);
  failed = column.changes_same false old.failed new.failed place (ap (λ tables. tables.failed) e);
}

pub changes_twice : (old middle new : Tables) (place : ℕ) → ChangesOnly place old middle → ChangesOnly place middle new → ChangesOnly place old new
changes_twice old middle new place first second = record {
  forests = column.changes_twice empty_forest old.forests middle.forests new.forests place first.forests second.forests;
  layouts = second.layouts ∙ first.layouts;
  stores = column.changes_twice [] old.stores.shelves.table middle.stores.shelves.table new.stores.shelves.table place first.stores second.stores;
  graphs = column.changes_twice no_graph old.stores.graphs middle.stores.graphs new.stores.graphs place first.graphs second.graphs;
  connections = column.changes_twice no_rows old.connections middle.connections new.connections place first.connections second.connections;
  queues = column.changes_twice empty_queue old.queues middle.queues new.queues place first.queues second.queues;
  desks = column.changes_twice no_desk old.desks middle.desks new.desks place first.desks second.desks;
  failed = column.changes_twice false old.failed middle.failed new.failed place first.failed second.failed;
}

-- the tables stay even
pub even_changed : (old new : Tables) (place : ℕ) → ChangesOnly place old new → AreEven old → AreEven new
even_changed old new place changes even =
    let marks = column.changes_length false old.failed new.failed place changes.failed in record {
      forests = column.changes_length empty_forest old.forests new.forests place changes.forests ∙ even.forests ∙ sym marks;
      stores = column.changes_length [] old.stores.shelves.table new.stores.shelves.table place changes.stores ∙ even.stores ∙ sym marks;
      graphs = column.changes_length no_graph old.stores.graphs new.stores.graphs place changes.graphs ∙ even.graphs ∙ sym marks;
      connections = column.changes_length no_rows old.connections new.connections place changes.connections ∙ even.connections ∙ sym marks;
      queues = column.changes_length empty_queue old.queues new.queues place changes.queues ∙ even.queues ∙ sym marks;
      desks = column.changes_length no_desk old.desks new.desks place changes.desks ∙ even.desks ∙ sym marks;
    }

-- a place stays one
pub placed_after : (old new : Tables) (place : ℕ) → ChangesOnly place old new → IsPlaced old place → IsPlaced new place
placed_after old new place changes placed = (
  column.changes_open empty_forest old.forests new.forests place changes.forests placed.0,
  column.changes_open [] old.stores.shelves.table new.stores.shelves.table place changes.stores placed.1,
  column.changes_open no_rows old.connections new.connections place changes.connections placed.2,
  column.changes_open empty_queue old.queues new.queues place changes.queues placed.3,
  column.changes_open false old.failed new.failed place changes.failed placed.4,
  column.changes_open no_desk old.desks new.desks place changes.desks placed.5,
  column.changes_open no_graph old.stores.graphs new.stores.graphs place changes.graphs placed.6,
  even_changed old new place changes placed.7,
)

-- so it is where no session has failed or was restored either
pub keeps_same : (old new : Tables) (place : ℕ) → new ≡ old → KeepsOthers place old new
keeps_same old new place e = record { only = changes_same old new place e; failed = ap (λ tables. tables.failed) e }

pub keeps_with : (old new : Tables) (place : ℕ) (state : State) → IsPlaced old place → new ≡ with_state old place state → KeepsOthers place old new
keeps_with old new place state placed e = record { only = changes_with old new place state placed e; failed = ap (λ tables. tables.failed) e }

pub keeps_twice : (old middle new : Tables) (place : ℕ) → KeepsOthers place old middle → KeepsOthers place middle new → KeepsOthers place old new
keeps_twice old middle new place first second =
    record { only = changes_twice old middle new place first.only second.only; failed = second.failed ∙ first.failed }

pub placed_kept : (old new : Tables) (place : ℕ) → KeepsOthers place old new → IsPlaced old place → IsPlaced new place
placed_kept old new place keeps placed = placed_after old new place keeps.only placed

-- past the last place every session is as one that has had no command
pub session_past : (tables : Tables) (place : ℕ) → AreEven tables → length tables.failed.places ≤ place → session_at tables place ≡ fresh
session_past tables place even past = session_of
    (get_or_past tables.forests.places place empty_forest (omega (arith, even.forests, past)))
    (get_or_past tables.stores.shelves.table.places place [] (omega (arith, even.stores, past)))
    (get_or_past tables.stores.graphs.places place no_graph (omega (arith, even.graphs, past)))
    (get_or_past tables.connections.places place no_rows (omega (arith, even.connections, past)))
    (get_or_past tables.queues.places place empty_queue (omega (arith, even.queues, past)))
    (get_or_past tables.desks.places place no_desk (omega (arith, even.desks, past)))
    (get_or_past tables.failed.places place false past)

-- so opening a place changes no session
pub session_opened : (tables : Tables) (place : ℕ) → session_at (opened tables) place ≡ session_at tables place
session_opened tables place = session_of
    (column.default_pushed empty_forest tables.forests.places place) (column.default_pushed [] tables.stores.shelves.table.places place)
    (column.default_pushed no_graph tables.stores.graphs.places place) (column.default_pushed no_rows tables.connections.places place)
    (column.default_pushed empty_queue tables.queues.places place) (column.default_pushed no_desk tables.desks.places place)
    (column.default_pushed false tables.failed.places place)

-- nor does room for it
pub session_same : (old new : Tables) (place : ℕ) → AreSame old new → session_at new place ≡ session_at old place
session_same old new place same = session_of
    (ap (λ places. get_or places place empty_forest) same.forests) (ap (λ places. get_or places place []) same.stores)
    (ap (λ places. get_or places place no_graph) same.graphs) (ap (λ places. get_or places place no_rows) same.connections)
    (ap (λ places. get_or places place empty_queue) same.queues) (ap (λ places. get_or places place no_desk) same.desks)
    (ap (λ places. get_or places place false) same.failed)

-- the tables stay even where a place is opened, and where there is room for one
pub even_opened : (tables : Tables) → AreEven tables → AreEven (opened tables)
even_opened tables even = record {
  forests = grind (arith, common_steps, even.forests);
  stores = grind (arith, common_steps, even.stores);
  graphs = grind (arith, common_steps, even.graphs);
  connections = grind (arith, common_steps, even.connections);
  queues = grind (arith, common_steps, even.queues);
  desks = grind (arith, common_steps, even.desks);
}

pub even_same : (old new : Tables) → AreSame old new → AreEven old → AreEven new
even_same old new same even = record {
  forests = ap length same.forests ∙ even.forests ∙ sym (ap length same.failed);
  stores = ap length same.stores ∙ even.stores ∙ sym (ap length same.failed);
  graphs = ap length same.graphs ∙ even.graphs ∙ sym (ap length same.failed);
  connections = ap length same.connections ∙ even.connections ∙ sym (ap length same.failed);
  queues = ap length same.queues ∙ even.queues ∙ sym (ap length same.failed);
  desks = ap length same.desks ∙ even.desks ∙ sym (ap length same.failed);
}

-- a place of one table is one of all
pub placed_by : (tables : Tables) (place : ℕ) → AreEven tables → place < length tables.failed.places → IsPlaced tables place
placed_by tables place even within = (
  omega (arith, even.forests, within),
  omega (arith, even.stores, within),
  omega (arith, even.connections, within),
  omega (arith, even.queues, within),
  within,
  omega (arith, even.desks, within),
  omega (arith, even.graphs, within),
  even,
)
