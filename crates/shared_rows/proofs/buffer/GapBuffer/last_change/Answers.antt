use Rattle.std.proofs.Common.{rules}
use Rattle.shared_rows.proofs.GapLemmas.{length-without}
use Rattle.shared_rows.proofs.buffer.GapBuffer.last_change.Goals as goal

pub returns : goal.returns
returns g c = search (rules, length-without)
