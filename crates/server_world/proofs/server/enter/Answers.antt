use Rattle.std.proofs.Common.{sym, ◌∙◌}
use Rattle.std.proofs.lemmas.Result.{on_ok_weaker}
use Rattle.session_engine.specs.Engine.{seen_engine}
use Rattle.server_world.proofs.ServerLemmas.{with_name-new, with_name-there}
use Rattle.server_world.proofs.server.enter.Goals as goal

pub returns-in-Some-clause-there : goal.returns-in-Some-clause-there
returns-in-Some-clause-there g c = with_name-there (seen_engine c.args.sessions.now) c.args.name.now c.in-Some.place (sym c.in-Some.ensures)

pub returns-in-None-clause-there : goal.returns-in-None-clause-there
returns-in-None-clause-there g c = on_ok_weaker c.open.result
    (λ names. names ∙ with_name-new (seen_engine c.args.sessions.now) c.args.name.now (sym c.in-None.ensures)) c.open.ensures.names
