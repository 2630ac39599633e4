use Rattle.std.proofs.Common.{arith}
use Rattle.std.proofs.lemmas.Grind.{common_steps}
use Rattle.variant_value.proofs.value.Value.copy.Goals as goal

pub returns : goal.returns
returns c = grind (arith, common_steps)
