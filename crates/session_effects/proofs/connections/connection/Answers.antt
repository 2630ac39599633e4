use Rattle.std.proofs.Common.{sym}
use Rattle.session_tables.specs.Tables.{state_at}
use Rattle.session_effects.specs.Setup.{settings_of}
use Rattle.session_effects.proofs.FoundLemmas.{connected}
use Rattle.session_effects.proofs.connections.connection.Goals as goal

pub returns : goal.returns
returns c = sym (connected (settings_of c.args.caller.now.setup.now) (state_at c.args.tables.now c.args.caller.now.place) c.args.sender _ c.args.receiver _
    c.args.options.mode c.args.options.single c.in_ok-signal.signal c.in_ok-method.method _
    (sym c.in_ok-signal.ensures) (sym c.in_ok-method.ensures) c.to_method.ensures)
