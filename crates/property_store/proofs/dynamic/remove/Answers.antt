use Rattle.std.proofs.Common.{rules}
use Rattle.property_store.proofs.DynamicLemmas.{kept_without, left_without}
use Rattle.property_store.proofs.dynamic.remove.Goals as goal

pub returns-in-Some : goal.returns-in-Some
returns-in-Some c = search (rules, left_without)

pub returns-in_default : goal.returns-in_default
returns-in_default c = search (rules, kept_without)
