use Rattle.std.proofs.Common.{arith}
use Rattle.std.proofs.lemmas.Grind.{common_steps}
use Rattle.dispatch.proofs.agenda.first.Goals as goal

pub returns-then-wanted-values : goal.returns-then-wanted-values
returns-then-wanted-values c = grind (arith, common_steps)
