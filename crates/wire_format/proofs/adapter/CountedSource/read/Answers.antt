use Rattle.std.proofs.Common.{arith}
use Rattle.std.proofs.lemmas.Grind.{common_steps}
use Rattle.wire_format.proofs.adapter.CountedSource.read.Goals as goal

pub returns-in-Err-clause-counted : goal.returns-in-Err-clause-counted
returns-in-Err-clause-counted g c = grind (arith, common_steps)
