use Rattle.std.proofs.Common.{arith}
use Rattle.std.proofs.lemmas.Grind.{common_steps}
use Rattle.session_tables.proofs.tables.Tables.class_there.Goals as goal

pub returns-in-Some-clause-class : goal.returns-in-Some-clause-class
returns-in-Some-clause-class c = grind (arith, common_steps)
