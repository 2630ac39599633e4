use Rattle.std.proofs.Common.{arith}
use Rattle.std.proofs.lemmas.Grind.{common_steps}
use Rattle.session_tables.proofs.tables.Tables.is_of_class.Goals as goal

pub returns-in-Some-row : goal.returns-in-Some-row
returns-in-Some-row c = grind (arith, common_steps)
