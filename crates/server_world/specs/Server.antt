-- What contracts see of a server: a state for each name, and whether memory was refused.
use Rattle.std.specs.Prelude.{◌≡◌, ◌⊎◌, ◌||◌, ℕ, Bool, List, [], None, IsTrue, IsFalse}
use Rattle.isolation.specs.Influence.{KnowsAll}
use Rattle.session_model.specs.State.{State}
use Rattle.session_model.specs.Thread.{Settings}
use Rattle.session_model.specs.Machine.{machine}
use Rattle.session_tables.specs.Session.{Session, failed_session}
use Rattle.server_world.specs.declared.server.Server as code
use Rattle.session_engine.specs.Core as engine
use Rattle.session_engine.specs.Core.{EngineState, place}
use Rattle.session_engine.specs.Engine.{seen_engine}
use Rattle.session_engine.specs.Sessions.{Sessions}
use Rattle.server_world.specs.Names.{with_name}

-- A server, without its functor table.
pub record Server : Type 0 where
  pub engine : EngineState
  -- Whether memory ran out outside the engine.
  pub memory_refused : Bool

abbrev pub seen_as : {x : _} {f : _} {g : _} → code.Server x f g → Server
seen_as server = record { engine = seen_engine server.engine; memory_refused = server.memory_refused }

-- The settings of the server, which never change.
abbrev pub settings : Server → Settings
settings server = engine.settings server.engine

-- Whether memory has ever run out, in the server or its engine.
unfoldable pub was_refused : Server → Bool
was_refused server = engine.was_refused server.engine || server.memory_refused

-- The names of the sessions that exist, in the order of their first commands.
abbrev pub names : Server → List (List ℕ)
names server = engine.names server.engine

-- The session with each name; a fresh one if it does not exist.
abbrev pub sessions : Server → List ℕ → Session
sessions server = engine.sessions server.engine

-- The state of the session with each name; empty if it does not exist.
abbrev pub states : Server → List ℕ → State
states server = engine.states server.engine

-- Whether the session with a name has failed because memory ran out.
abbrev pub failed : Server → List ℕ → Bool
failed server = engine.failed server.engine

-- Everything that is seen by names.
abbrev pub seen_by_name : Server → Sessions
seen_by_name server = record { settings = settings server; session = sessions server; memory_refused = was_refused server }

-- There was no memory for a new name: the session does not exist, and no session has changed.
pub record StaysOut (old new : EngineState) (name : List ℕ) : Type 0 where
  pub absent : place new name ≡ None
  pub names : engine.names new ≡ engine.names old
  pub sessions : engine.sessions new ≡ engine.sessions old
  pub settings : engine.settings new ≡ engine.settings old
  pub refused : IsTrue (engine.was_refused new)

-- The result of a command for which memory ran out: its session has failed, or could not be entered.
abbrev pub IsLost : Server → Server → List ℕ → Type 0
IsLost old new name = (sessions new name ≡ failed_session) ⊎ StaysOut old.engine new.engine name

-- The names are unchanged, or this one was added.
abbrev pub KnowsAtMost : Server → Server → List ℕ → Type 0
KnowsAtMost old new name = (names new ≡ names old) ⊎ (names new ≡ with_name (names old) name)

-- Every session that may have a join is known by name.
abbrev pub KnowsItsSessions : Server → Type 0
KnowsItsSessions server = KnowsAll (machine (settings server)) (states server) (names server)

-- A server that has had no command.
pub record IsNew (server : Server) : Type 0 where
  pub names : names server ≡ []
  pub found : IsFalse (was_refused server)

-- Nothing has changed, except that memory was refused.
pub record OnlyRefused (old new : Server) : Type 0 where
  pub names : names new ≡ names old
  pub sessions : sessions new ≡ sessions old
  pub refused : IsTrue (was_refused new)
