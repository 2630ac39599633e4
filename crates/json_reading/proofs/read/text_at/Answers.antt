use Rattle.std.proofs.Common.{arith}
use Rattle.std.proofs.lemmas.Grind.{common_steps}
use Rattle.json_reading.specs.Fields.{text_at}
use Rattle.json_reading.proofs.read.text_at.Goals as goal

pub returns-in_err-value_at : goal.returns-in_err-value_at
unfolding text_at
returns-in_err-value_at c = grind (arith, common_steps)

pub returns : goal.returns
unfolding text_at
returns c = grind (arith, common_steps)
