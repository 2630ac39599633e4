use Rattle.std.proofs.Common.{rules}
use Rattle.shared_rows.proofs.GapLemmas.{length-without}
use Rattle.shared_rows.proofs.gap.filled.Goals as goal

pub returns-clause-fits : goal.returns-clause-fits
returns-clause-fits g c = search (rules, length-without)
