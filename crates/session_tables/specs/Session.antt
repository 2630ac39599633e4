-- A session.
use Rattle.std.specs.Prelude.{Bool, true, false}
use Rattle.session_model.specs.State.{State, empty}

pub record Session : Type 0 where
  pub state : State
  -- Whether memory ran out for the session; then it refuses every command except `reset`.
  pub failed : Bool

-- A session that has had no command.
abbrev pub fresh : Session
fresh = record { state = empty; failed = false }

-- A session that has failed because memory ran out.
abbrev pub failed_session : Session
failed_session = record { state = empty; failed = true }
