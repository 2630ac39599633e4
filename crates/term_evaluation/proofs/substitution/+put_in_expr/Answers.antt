use Rattle.std.proofs.Common.{arith}
use Rattle.std.proofs.lemmas.Grind.{common_steps}
use Rattle.term_evaluation.proofs.substitution.+put_in_expr.Goals as goal

pub put_in_binary-returns : goal.put_in_binary-returns
put_in_binary-returns t c = grind (arith, common_steps)
