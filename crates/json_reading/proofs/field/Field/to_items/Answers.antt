use Rattle.std.proofs.Common.{arith}
use Rattle.std.proofs.lemmas.Grind.{common_steps}
use Rattle.json_reading.proofs.CopyLemmas.{elements_of_array}
use Rattle.json_reading.proofs.field.Field.to_items.Goals as goal

pub returns-in-Array : goal.returns-in-Array
returns-in-Array c = grind (arith, common_steps, elements_of_array)
