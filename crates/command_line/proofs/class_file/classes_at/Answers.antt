use Rattle.std.proofs.Common.{arith}
use Rattle.std.proofs.lemmas.Grind.{common_steps}
use Rattle.command_line.proofs.class_file.classes_at.Goals as goal

pub returns : goal.returns
returns g c = grind (arith, common_steps)
