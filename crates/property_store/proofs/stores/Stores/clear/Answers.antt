use Rattle.std.proofs.Common.{arith}
use Rattle.std.proofs.lemmas.Grind.{common_steps}
use Rattle.property_store.proofs.ComeLemmas.{all_gone}
use Rattle.property_store.proofs.stores.Stores.clear.Goals as goal

pub invariant_of-self : goal.invariant_of-self
invariant_of-self c = (all_gone c.self.invariant c.self.view_is c.args.place c.requires c.clear.new.self c.clear.ensures).kept_still

pub returns-clause-stores : goal.returns-clause-stores
returns-clause-stores c = (all_gone c.self.invariant c.self.view_is c.args.place c.requires c.clear.new.self c.clear.ensures).stores

pub returns-clause-marks : goal.returns-clause-marks
returns-clause-marks c = (all_gone c.self.invariant c.self.view_is c.args.place c.requires c.clear.new.self c.clear.ensures).marks

pub clear-requires : goal.clear-requires
clear-requires c = grind (arith, common_steps)
