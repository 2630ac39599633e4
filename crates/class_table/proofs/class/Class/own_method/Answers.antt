use Rattle.std.proofs.Common.{arith}
use Rattle.std.proofs.lemmas.Grind.{common_steps}
use Rattle.class_table.proofs.class.Class.own_method.Goals as goal

pub returns : goal.returns
returns c = grind (arith, common_steps)
