use Rattle.object_tree.proofs.KeptLemmas.{cleared, in_kinships, in_rows}
use Rattle.object_tree.proofs.forests.Forests.clear.Goals as goal

pub clear-requires : goal.clear-requires
clear-requires c = in_rows c.self.invariant c.self.view_is c.args.place c.requires

pub get_mut-requires : goal.get_mut-requires
get_mut-requires c = in_kinships c.self.invariant c.self.view_is c.args.place c.requires

pub invariant_of-self : goal.invariant_of-self
invariant_of-self c = (cleared c.self.invariant c.self.view_is c.args.place c.requires c.no_kinship.result c.clear.ensures c.no_kinship.ensures.number
    c.no_kinship.ensures.stamp c.no_kinship.ensures.children).kept

pub returns : goal.returns
returns c = (cleared c.self.invariant c.self.view_is c.args.place c.requires c.no_kinship.result c.clear.ensures c.no_kinship.ensures.number
    c.no_kinship.ensures.stamp c.no_kinship.ensures.children).seen
