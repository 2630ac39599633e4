use Rattle.std.proofs.Common.{rules}
use Rattle.property_store.proofs.ListLemmas.{found_at, position_none}
use Rattle.property_store.proofs.dynamic.value_of.Goals as goal

pub returns-in_err-number : goal.returns-in_err-number
returns-in_err-number c = search (rules, position_none)

pub returns : goal.returns
returns c = search (rules, found_at)
