use Rattle.session_tables.specs.Tables.{state_at}
use Rattle.session_effects.specs.Setup.{settings_of}
use Rattle.session_effects.proofs.FoundLemmas.{answers_refused, connected}
use Rattle.session_effects.proofs.connections.asked_connection.Goals as goal

pub returns-in_err-to_method : goal.returns-in_err-to_method
returns-in_err-to_method c = answers_refused _ _ _ c.from_residual-in_err-to_method.ensures.1 (connected (settings_of c.args.caller.now.setup.now)
    (state_at c.args.tables.now c.args.caller.now.place) c.args.sender _ c.args.receiver _
    c.args.options.mode c.args.options.single c.in_ok-signal.signal c.in_ok-method.method _
    c.in_ok-signal.ensures c.in_ok-method.ensures c.in_err-to_method.ensures)

pub returns : goal.returns
returns c = connected (settings_of c.args.caller.now.setup.now) (state_at c.args.tables.now c.args.caller.now.place) c.args.sender _ c.args.receiver _
    c.args.options.mode c.args.options.single c.in_ok-signal.signal c.in_ok-method.method _
    c.in_ok-signal.ensures c.in_ok-method.ensures c.in_ok-to_method.ensures
