use Rattle.std.proofs.Common.{arith}
use Rattle.std.proofs.lemmas.Grind.{common_steps}
use Rattle.property_store.proofs.dynamic.set.Goals as goal

pub returns-in_ok-push-in-None-2-clause-refused : goal.returns-in_ok-push-in-None-2-clause-refused
returns-in_ok-push-in-None-2-clause-refused c = grind (arith, common_steps)
