use Rattle.std.proofs.Common.{arith}
use Rattle.std.proofs.lemmas.Grind.{common_steps}
use Rattle.session_tables.proofs.tables.Tables.break_single_shot.Goals as goal

pub returns-then-connection : goal.returns-then-connection
returns-then-connection c = grind (arith, common_steps)
