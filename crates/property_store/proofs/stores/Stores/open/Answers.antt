use Rattle.property_store.proofs.ComeLemmas.{opened_kept, opened_marks}
use Rattle.property_store.proofs.stores.Stores.open.Goals as goal

pub invariant_of-self : goal.invariant_of-self
invariant_of-self c = opened_kept c.self.invariant c.self.view_is c.open-2.new.self c.open.new.self c.open-2.ensures.opened c.open.ensures.opened

pub returns-clause-marks : goal.returns-clause-marks
returns-clause-marks c = opened_marks c.self.invariant c.self.view_is c.open-2.new.self c.open.new.self c.open-2.ensures.opened c.open.ensures.opened
