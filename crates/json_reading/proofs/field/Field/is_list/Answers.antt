use Rattle.std.proofs.Common.{arith}
use Rattle.std.proofs.lemmas.Grind.{common_steps}
use Rattle.json_reading.proofs.field.Field.is_list.Goals as goal

pub returns-in-Tree : goal.returns-in-Tree
returns-in-Tree c = grind (arith, common_steps)
