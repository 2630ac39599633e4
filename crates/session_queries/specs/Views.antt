-- The session that a query reads.
use Rattle.session_model.specs.Settings.{Settings}
use Rattle.session_model.specs.State.{State}
use Rattle.session_tables.specs.Tables.{state_at}
use Rattle.session_effects.specs.Setup.{settings_of}
use Rattle.session_queries.specs.declared.session_view.SessionView.{SessionView}

-- The settings of its engine.
abbrev pub its_settings : SessionView → Settings
its_settings session = settings_of session.caller.now.setup.now

-- Its state.
abbrev pub its_state : SessionView → State
its_state session = state_at session.tables.now session.caller.now.place
