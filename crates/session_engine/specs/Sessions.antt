-- The sessions of an engine or a server, by name, and what a command of one of them does to all.
use Rattle.std.specs.Prelude.{◌≡◌, ◌⊎◌, ◌&&◌, ℕ, Bool, true, false, not, List, Option, Some, None}
use Rattle.std.specs.Prelude.{IfSome, OnSome, IsSome, IsTrue, IsFalse, bytes_eq, if◌then◌else◌}
use Rattle.isolation.specs.Machine.{Effect, Tagged}
use Rattle.isolation.specs.World.{effect, after}
use Rattle.plain_types.specs.declared.code.Code.{Code}
use Rattle.plain_types.specs.declared.code.Code.TheVariants.{SessionFailed}
use Rattle.session_model.specs.declared.line.Line.{Line}
use Rattle.session_model.specs.declared.post.Post.{Post}
use Rattle.session_model.specs.Asked.{Asked, Reset}
use Rattle.session_model.specs.Effects.{unless}
use Rattle.session_model.specs.Fitting.{IsFitting}
use Rattle.session_model.specs.Machine.{machine}
use Rattle.session_model.specs.Named.{AreNamed, IsNamedAsked}
use Rattle.session_model.specs.Refusing.{refusal}
use Rattle.session_model.specs.State.{IsDeclared, IsSound, State}
use Rattle.session_model.specs.Thread.{Settings, performs}
use Rattle.session_tables.specs.Reaching.{ReceivesPosts}
use Rattle.session_tables.specs.Session.{Session, failed_session}
use Rattle.dispatch.specs.Prefix.{IsPrefix}

-- All sessions, as contracts see them.
pub record Sessions : Type 0 where
  -- Their settings, which never change.
  pub settings : Settings
  -- The session with each name; a fresh one if it does not exist.
  pub session : List ℕ → Session
  -- Whether memory has ever run out.
  pub memory_refused : Bool

-- The state of the session with each name.
abbrev pub states_of : Sessions → List ℕ → State
states_of sessions name = (sessions.session name).state

-- Whether a command is `reset`.
abbrev pub is_reset : Asked → Bool
is_reset Reset = true
is_reset _ = false

-- Whether a session refuses a command because it has failed: all but `reset`.
abbrev pub is_shut : Session → Asked → Bool
is_shut session asked = session.failed && not (is_reset asked)

-- Why a session refuses a command: the session has failed, or the command is refused.
abbrev pub session_refusal : Settings → List ℕ → Session → Asked → Option Code
session_refusal settings name session asked = if is_shut session asked then Some SessionFailed else refusal settings name session.state asked

-- The effect of a command in a session.
abbrev pub session_does : Settings → List ℕ → Session → Asked → Effect State Line Post
session_does settings name session asked = unless (session_refusal settings name session asked) session.state (performs settings name session.state asked)

-- The session after a command. No command makes it fail, and only `reset` restores a failed one.
abbrev pub session_after : Settings → List ℕ → Session → Asked → Session
session_after settings name session asked = record { state = (session_does settings name session asked).state; failed = is_shut session asked }

abbrev pub given_by : List ℕ → Asked → Tagged (List ℕ) Asked
given_by name asked = record { session = name; command = asked }

-- Every session but this one is unchanged.
abbrev pub OthersStay : Sessions → Sessions → List ℕ → Type 0
OthersStay old new name = (other : List ℕ) → IsFalse (bytes_eq other name) → new.session other ≡ old.session other

-- A session other than this one has failed, and had not before.
abbrev pub AnotherFails : Sessions → Sessions → List ℕ → Type 0
AnotherFails old new name = (other : List ℕ) × IsFalse (bytes_eq other name) × IsFalse (old.session other).failed × IsTrue (new.session other).failed

-- No session has failed, unless memory was refused.
abbrev pub AreWell : Sessions → Type 0
AreWell sessions = IsFalse sessions.memory_refused → (name : List ℕ) → IsFalse (sessions.session name).failed

-- What holds for every session between commands, even if memory was refused.
pub record IsSoundSession (settings : Settings) (session : Session) : Type 0 where
  pub sound : IsSound session.state
  -- Each object has the properties that its class declares.
  pub declared : IsDeclared settings.classes session.state
  -- Its contents fit the classes and the functors.
  pub fitting : IsFitting settings session.state
  -- A failed session holds nothing.
  pub empty : IsTrue session.failed → session ≡ failed_session

-- All sessions are sound.
abbrev pub AreSound : Sessions → Type 0
AreSound sessions = (name : List ℕ) → IsSoundSession sessions.settings (sessions.session name)

-- All names in all sessions are valid: of dynamic properties, of publications, and in joins.
abbrev pub AllAreNamed : Sessions → Type 0
AllAreNamed sessions = (name : List ℕ) → AreNamed (sessions.session name).state

-- The session with this name has failed because memory was refused.
pub record Fails (old new : Sessions) (name : List ℕ) : Type 0 where
  pub fails : new.session name ≡ failed_session
  pub others : OthersStay old new name
  pub settings : new.settings ≡ old.settings
  pub memory : IsTrue new.memory_refused
  pub sound : AreSound new

-- A command of the session with this name: its lines, unless memory ran out, and the sessions after it.
pub record IsStep (old new : Sessions) (name : List ℕ) (asked : Asked) (told : Option (List Line)) : Type 0 where
  -- If memory was never refused, it is the step of the theory: its lines, and the states of all sessions.
  pub lines : IsFalse new.memory_refused → told ≡ Some (effect (machine old.settings) (states_of old) (given_by name asked)).lines
  pub states : IsFalse new.memory_refused → states_of new ≡ after (machine old.settings) (states_of old) (given_by name asked)
  -- In any case the session receives the lines of the command's effect, and has the state that this leaves.
  pub tells : IfSome told (λ lines. lines ≡ (session_does old.settings name (old.session name) asked).lines)
  pub leaves : OnSome told (new.session name ≡ session_after old.settings name (old.session name) asked)
  -- A refused command changes nothing.
  pub refused : IsSome (session_refusal old.settings name (old.session name) asked) → OnSome told (new.session ≡ old.session)
  -- Its posts; if memory ran out, a prefix of them.
  pub posts : List Post
  pub posted : OnSome told (posts ≡ (session_does old.settings name (old.session name) asked).posts)
  pub front : told ≡ None → IsPrefix posts (session_does old.settings name (old.session name) asked).posts
  -- The posts have reached every other session, or that has failed because memory ran out.
  pub others : (other : List ℕ) → IsFalse (bytes_eq other name) → ReceivesPosts old.settings.classes name posts (old.session other) (new.session other)
  pub settings : new.settings ≡ old.settings
  -- That memory was refused stays noted.
  pub kept : IsTrue old.memory_refused → IsTrue new.memory_refused
  pub memory : told ≡ None → IsTrue new.memory_refused
  -- It is noted only if memory ran out for this command, or another session has failed by its posts.
  pub blame : IsFalse old.memory_refused → IsTrue new.memory_refused → (told ≡ None) ⊎ AnotherFails old new name
  -- Before the command no session had failed unless memory was refused, and after it every session is sound.
  pub well : AreWell old
  pub sound : AreSound new
  -- All names stay valid after a command that uses valid names for what it sets, publishes and joins.
  pub named : IsNamedAsked asked → AllAreNamed old → AllAreNamed new
