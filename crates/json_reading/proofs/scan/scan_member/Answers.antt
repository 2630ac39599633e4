use Rattle.std.proofs.Common.{arith}
use Rattle.std.proofs.lemmas.Grind.{common_steps}
use Rattle.json_reading.proofs.scan.scan_member.Goals as goal

pub returns : goal.returns
returns c = grind (arith, common_steps)
