use Rattle.std.proofs.Common.{arith}
use Rattle.std.proofs.lemmas.Grind.{common_steps}
use Rattle.dispatch.proofs.agenda.is_queued.Goals as goal

pub returns-in-Queued : goal.returns-in-Queued
returns-in-Queued c = grind (arith, common_steps)
