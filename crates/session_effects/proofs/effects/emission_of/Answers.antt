use Rattle.std.proofs.Common.{arith}
use Rattle.std.proofs.lemmas.Grind.{common_steps}
use Rattle.session_effects.proofs.effects.emission_of.Goals as goal

pub returns-in_err-values : goal.returns-in_err-values
returns-in_err-values c = grind (arith, common_steps)
