use Rattle.std.proofs.Common.{arith}
use Rattle.std.proofs.lemmas.Grind.{common_steps}
use Rattle.json_reading.proofs.field.Field.as_number.Goals as goal

pub returns-in-Plain-Number : goal.returns-in-Plain-Number
returns-in-Plain-Number c = grind (arith, common_steps)
