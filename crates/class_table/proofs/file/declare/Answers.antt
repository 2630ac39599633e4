use Rattle.std.proofs.Common.{arith}
use Rattle.std.proofs.lemmas.Grind.{common_steps}
use Rattle.class_table.specs.ClassFile.{declared}
use Rattle.class_table.proofs.file.declare.Goals as goal

pub returns-in-Err : goal.returns-in-Err
unfolding declared
returns-in-Err c = grind (arith, common_steps)

pub loop-index-preserved : goal.loop-index-preserved
unfolding declared
loop-index-preserved c = grind (arith, common_steps)

pub returns : goal.returns
unfolding declared
returns c = grind (arith, common_steps)
