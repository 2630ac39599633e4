use Rattle.std.proofs.Common.{rules}
use Rattle.shared_rows.proofs.GapLemmas.{without_none}
use Rattle.shared_rows.proofs.buffer.GapBuffer.clear.Goals as goal

pub returns : goal.returns
returns g c = search (rules, without_none)
