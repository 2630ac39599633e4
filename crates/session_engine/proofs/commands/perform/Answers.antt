use Rattle.std.proofs.Common.{subst, sym}
use Rattle.session_engine.proofs.Common.{asked, Performs, reply_after}
use Rattle.session_engine.proofs.CommandsLemmas.{reads}
use Rattle.session_engine.proofs.commands.perform.Goals as goal

pub returns-in-Ask : goal.returns-in-Ask
returns-in-Ask g c =
    subst (λ command. Performs c.args.actor.now.caller (asked command) c.args.tables.now c.args.tables.now c.args.output.now.failing
    (reply_after c.args.output.now.lines) c.answer.result) (sym c.in-Ask.is)
    (reads c.args.actor.now.caller c.in-Ask.query c.args.tables.now c.args.output.now c.answer.result c.requires.fresh c.answer.ensures)
