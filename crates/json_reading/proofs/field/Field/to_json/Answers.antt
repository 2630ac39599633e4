use Rattle.std.proofs.Common.{arith}
use Rattle.std.proofs.lemmas.Grind.{common_steps}
use Rattle.json_reading.proofs.field.Field.to_json.Goals as goal

pub returns-in-List : goal.returns-in-List
returns-in-List c = grind (arith, common_steps)
