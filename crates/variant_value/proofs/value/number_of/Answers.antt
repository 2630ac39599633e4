use Rattle.std.proofs.Common.{arith}
use Rattle.std.proofs.lemmas.Grind.{common_steps}
use Rattle.variant_value.proofs.value.number_of.Goals as goal

pub returns-in-Int : goal.returns-in-Int
returns-in-Int c = grind (arith, common_steps)
