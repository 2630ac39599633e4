use Rattle.std.proofs.Common.{arith}
use Rattle.std.proofs.lemmas.Grind.{common_steps}
use Rattle.json_reading.specs.Fields.{name_at}
use Rattle.json_reading.proofs.read.name_at.Goals as goal

pub returns-then-is_name : goal.returns-then-is_name
unfolding name_at
returns-then-is_name c = grind (arith, common_steps)
