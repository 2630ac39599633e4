use Rattle.std.proofs.Common.{arith}
use Rattle.std.proofs.lemmas.Grind.{common_steps}
use Rattle.wire_format.proofs.line.is_blank_byte.Goals as goal

pub returns-else-byte-eq9 : goal.returns-else-byte-eq9
returns-else-byte-eq9 c = grind (arith, common_steps)
