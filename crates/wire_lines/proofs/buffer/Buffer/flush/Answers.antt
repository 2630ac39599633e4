use Rattle.std.proofs.Common.{arith}
use Rattle.std.proofs.lemmas.Grind.{common_steps}
use Rattle.wire_lines.proofs.buffer.Buffer.flush.Goals as goal

pub returns-clause-bytes : goal.returns-clause-bytes
returns-clause-bytes g c = grind (arith, common_steps)

pub returns-clause-counted : goal.returns-clause-counted
returns-clause-counted g c = grind (arith, common_steps)
