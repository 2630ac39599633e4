use Rattle.std.proofs.Common.{arith}
use Rattle.std.proofs.lemmas.Grind.{common_steps}
use Rattle.json_reading.proofs.token.whole_number.Goals as goal

pub returns-then-end-text : goal.returns-then-end-text
returns-then-end-text c = grind (arith, common_steps)
