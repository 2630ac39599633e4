use Rattle.std.proofs.Common.{sym, ◌∙◌}
use Rattle.std.proofs.lemmas.Result.{on_ok_weaker}
use Rattle.server_world.proofs.ServerLemmas.{with_name-new, with_name-there}
use Rattle.server_world.proofs.bare.enter.Goals as goal

pub returns-in-Some-clause-there : goal.returns-in-Some-clause-there
returns-in-Some-clause-there c = with_name-there c.args.core.now c.args.name.now c.in-Some.place (sym c.in-Some.ensures)

pub returns-in-None-clause-there : goal.returns-in-None-clause-there
returns-in-None-clause-there c = on_ok_weaker c.open.result
    (λ names. names ∙ with_name-new c.args.core.now c.args.name.now (sym c.in-None.ensures)) c.open.ensures.names
