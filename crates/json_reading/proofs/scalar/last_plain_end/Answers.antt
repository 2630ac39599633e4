use Rattle.std.proofs.Common.{arith}
use Rattle.std.proofs.lemmas.Grind.{common_steps}
use Rattle.json_reading.proofs.scalar.last_plain_end.Goals as goal

pub plain-preserved : goal.plain-preserved
plain-preserved c = grind (arith, common_steps)

pub returns-else-is_plain-clause-value : goal.returns-else-is_plain-clause-value
returns-else-is_plain-clause-value c = grind (arith, common_steps)

pub returns-after-plain-clause-value : goal.returns-after-plain-clause-value
returns-after-plain-clause-value c = grind (arith, common_steps)
