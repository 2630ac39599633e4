use Rattle.std.proofs.Common.{arith}
use Rattle.std.proofs.lemmas.Grind.{common_steps}
use Rattle.session_engine.proofs.engine.Core.find.Goals as goal

pub returns : goal.returns
returns c = grind (arith, common_steps)
