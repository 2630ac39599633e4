use Rattle.std.proofs.Common.{arith}
use Rattle.std.proofs.lemmas.Grind.{common_steps}
use Rattle.term_evaluation.proofs.reading.+gather.Goals as goal

pub returns-in_ok-gather-in-Choice-2 : goal.returns-in_ok-gather-in-Choice-2
returns-in_ok-gather-in-Choice-2 t c = grind (arith, common_steps)
