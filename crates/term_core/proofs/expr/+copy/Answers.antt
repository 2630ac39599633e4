use Rattle.std.proofs.Common.{arith}
use Rattle.std.proofs.lemmas.Grind.{common_steps}
use Rattle.term_core.proofs.expr.+copy.Goals as goal

pub Expr::copy-returns-in-Choice : goal.Expr::copy-returns-in-Choice
Expr::copy-returns-in-Choice t c = grind (arith, common_steps)
