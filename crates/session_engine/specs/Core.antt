-- What contracts see of an engine.
use Rattle.std.specs.Prelude.{◌≡◌, ℕ, Bool, List, [], Option, Some, IsFalse, All, bytes_eq, length, map, position, ◌<◌, slice_index_or as get_or}
use Rattle.std.specs.List.{list_any}
use Rattle.std.specs.Option.{option_map_or}
use Rattle.session_model.specs.Fitting.{AreSettings}
use Rattle.session_model.specs.State.{State}
use Rattle.session_model.specs.Thread.{Settings, joins_name}
use Rattle.session_tables.specs.declared.tables.Tables.{Tables}
use Rattle.session_tables.specs.Joining.{AreJoiners}
use Rattle.session_tables.specs.Session.{Session, fresh}
use Rattle.session_tables.specs.Tables.{AreEven, AreLaid, session_at}
use Rattle.session_effects.specs.declared.setup.Setup.{Setup}
use Rattle.session_engine.specs.Sessions.{IsSoundSession, Sessions}
use Rattle.session_effects.specs.Setup.{settings_of}

pub record EngineState : Type 0 where
  -- The settings of the engine, which never change.
  pub settings : Settings
  -- The name of each place.
  pub names : List (List ℕ)
  -- The session at each place.
  pub tables : Tables
  -- Whether memory has ever run out in a call of the engine.
  pub memory_refused : Bool

-- The state of an engine with these parts.
abbrev pub engine_state : Setup → List (List ℕ) → Tables → Bool → EngineState
engine_state setup names tables memory_refused = record { settings = settings_of setup; names = names; tables = tables; memory_refused = memory_refused }

abbrev pub settings : EngineState → Settings
settings engine = engine.settings

abbrev pub was_refused : EngineState → Bool
was_refused engine = engine.memory_refused

-- The names of the sessions, by place.
abbrev pub names : EngineState → List (List ℕ)
names engine = engine.names

abbrev pub place : EngineState → List ℕ → Option ℕ
place engine name = position (bytes_eq name) engine.names

-- The session with each name; a fresh one if it has no place.
abbrev pub sessions : EngineState → List ℕ → Session
sessions engine name = option_map_or (session_at engine.tables) (place engine name) fresh

abbrev pub states : EngineState → List ℕ → State
states engine name = (sessions engine name).state

abbrev pub failed : EngineState → List ℕ → Bool
failed engine name = (sessions engine name).failed

-- The name of a place.
abbrev pub name_at : EngineState → ℕ → List ℕ
name_at engine at = get_or engine.names at []

-- The names of these places.
abbrev pub names_at : EngineState → List ℕ → List (List ℕ)
names_at engine places = map (name_at engine) places

-- These places join the session with this name.
pub record AreJoinersOf (engine : EngineState) (from : List ℕ) (places : List ℕ) : Type 0 where
  -- Exactly these, in ascending order.
  pub joiners : AreJoiners engine.tables from places
  -- Their names are exactly those of the sessions that join it.
  pub named : (name : List ℕ) → list_any (bytes_eq name) (names_at engine places) ≡ joins_name (states engine name) from
  pub within : All (λ at. at < length engine.names) places

-- Everything that is seen by names.
abbrev pub seen_by_name : EngineState → Sessions
seen_by_name engine = record { settings = settings engine; session = sessions engine; memory_refused = was_refused engine }

-- A session has this place.
abbrev pub IsPlace : EngineState → ℕ → Type 0
IsPlace engine at = (name : List ℕ) × (place engine name ≡ Some at)

-- Each name still has its place, and this place has a name.
pub record KeepsPlaces (old new : EngineState) (at : ℕ) : Type 0 where
  pub names : names new ≡ names old
  pub there : IsPlace new at

-- A fact about the session at a place, by its name.
abbrev pub OfSession : EngineState → ℕ → (List ℕ → Type 0) → Type 0
OfSession engine at P = (name : List ℕ) → place engine name ≡ Some at → P name

-- What holds for every session: it has failed only if memory was refused, and it is sound.
pub record IsKept (settings : Settings) (memory_refused : Bool) (session : Session) : Type 0 where
  pub well : IsFalse memory_refused → IsFalse session.failed
  pub sound : IsSoundSession settings session

-- The classes and functors are sound, each name has its place in every table, the tables know the classes, and what must
-- hold for every session does.
pub record IsWhole (engine : EngineState) : Type 0 where
  pub settings : AreSettings engine.settings
  pub even : AreEven engine.tables
  pub paired : length engine.names ≡ length engine.tables.failed.places
  -- No two places have the same name.
  pub named : (at : ℕ) → at < length engine.names → place engine (get_or engine.names at []) ≡ Some at
  pub laid : AreLaid engine.settings.classes engine.tables
  pub kept : (at : ℕ) → IsKept engine.settings engine.memory_refused (session_at engine.tables at)
