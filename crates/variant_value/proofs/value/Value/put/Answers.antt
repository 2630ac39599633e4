use Rattle.std.proofs.Common.{arith}
use Rattle.std.proofs.lemmas.Grind.{common_steps}
use Rattle.variant_value.proofs.value.Value.put.Goals as goal

pub returns-in-Int-Int-clause-changed : goal.returns-in-Int-Int-clause-changed
returns-in-Int-Int-clause-changed c = grind (arith, common_steps)
