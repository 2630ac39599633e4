use Rattle.std.proofs.Common.{rules}
use Rattle.property_store.proofs.StoreLemmas.{row_stands}
use Rattle.property_store.proofs.row.row_of.Goals as goal

pub returns : goal.returns
returns c = search (rules, row_stands)
