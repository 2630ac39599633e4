use Rattle.property_store.proofs.DrainLemmas.{drain_law}
use Rattle.property_store.proofs.laws.law_drains.Goals as goal

pub returns : goal.returns
returns c = drain_law
