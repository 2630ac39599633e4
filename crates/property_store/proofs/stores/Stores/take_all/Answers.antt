use Rattle.std.proofs.Common.{rules}
use Rattle.property_store.proofs.MarkLemmas.{fewer}
use Rattle.property_store.proofs.stores.Stores.take_all.Goals as goal

pub marks-smaller : goal.marks-smaller
marks-smaller c = search (rules, fewer)
