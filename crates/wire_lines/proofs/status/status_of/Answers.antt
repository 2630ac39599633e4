use Rattle.std.proofs.Common.{arith}
use Rattle.std.proofs.lemmas.Grind.{common_steps}
use Rattle.wire_lines.proofs.status.status_of.Goals as goal

pub returns-in-Err-Write-clause-status : goal.returns-in-Err-Write-clause-status
returns-in-Err-Write-clause-status c = grind (arith, common_steps)
