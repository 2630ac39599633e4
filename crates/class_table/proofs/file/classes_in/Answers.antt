use Rattle.std.proofs.Common.{arith}
use Rattle.std.proofs.lemmas.Grind.{common_steps}
use Rattle.class_table.specs.ClassFile.{classes_in}
use Rattle.class_table.proofs.file.classes_in.Goals as goal

pub returns-clause-exact : goal.returns-clause-exact
unfolding classes_in
returns-clause-exact c = grind (arith, common_steps)
