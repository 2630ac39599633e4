use Rattle.std.proofs.Common.{arith}
use Rattle.std.proofs.lemmas.Grind.{common_steps}
use Rattle.dispatch.proofs.command_output.CommandOutput.use_up.Goals as goal

pub returns : goal.returns
returns c = grind (arith, common_steps)
