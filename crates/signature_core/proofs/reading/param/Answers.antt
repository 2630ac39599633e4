use Rattle.std.proofs.Common.{arith}
use Rattle.std.proofs.lemmas.Grind.{common_steps}
use Rattle.signature_core.specs.Reading.{param_at}
use Rattle.signature_core.proofs.reading.param.Goals as goal

pub returns : goal.returns
unfolding param_at
returns c = grind (arith, common_steps)
