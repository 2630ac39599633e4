use Rattle.std.proofs.Common.{arith}
use Rattle.std.proofs.lemmas.Grind.{common_steps}
use Rattle.wire_lines.proofs.buffer.Buffer.send.Goals as goal

pub returns-then-text-room-clause-bytes : goal.returns-then-text-room-clause-bytes
returns-then-text-room-clause-bytes g c = grind (arith, common_steps)
