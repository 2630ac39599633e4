use Rattle.std.proofs.Common.{sym, ap}
use Rattle.object_tree.specs.Forest.{Forest}
use Rattle.object_tree.proofs.KeptLemmas.{forest_is, in_kinships}
use Rattle.object_tree.proofs.forests.Forests.kinship.Goals as goal

pub get-requires : goal.get-requires
get-requires c = in_kinships c.self.invariant c.self.view_is c.args.place c.requires

pub returns : goal.returns
returns c =
    let is = forest_is c.self.invariant c.self.view_is c.args.place c.requires c.get.result.now c.get.ensures in
    record { number = ap (λ (forest : Forest). forest.last_number) (sym is); stamp = ap (λ (forest : Forest). forest.last_stamp) (sym is) }
