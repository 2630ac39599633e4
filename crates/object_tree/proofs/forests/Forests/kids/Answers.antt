use Rattle.std.proofs.Common.{◌==◌, ◌∙◌, map, filter, sym, ap}
use Rattle.object_tree.specs.declared.child.Child.{Child}
use Rattle.object_tree.specs.Table.{forest_at}
use Rattle.object_tree.proofs.ChildLemmas.{none_below}
use Rattle.object_tree.proofs.KeptLemmas.{in_kinships, kids_now, sound_anyhow}
use Rattle.object_tree.proofs.forests.Forests.kids.Goals as goal

pub returns-then-eq-clause-kids : goal.returns-then-eq-clause-kids
returns-then-eq-clause-kids c = sym (none_below (forest_at c.args.self.now c.args.place)
    (sound_anyhow c.self.invariant c.self.view_is c.args.place c.requires) c.args.parent (sym c.eq.ensures ∙ c.if-eq.true))

pub get-requires : goal.get-requires
get-requires c = in_kinships c.self.invariant c.self.view_is c.args.place c.requires

pub returns-clause-kids : goal.returns-clause-kids
returns-clause-kids c =
    ap (map (λ (child : Child). child.number))
    (c.group.ensures.kids ∙ λ i. filter (λ (child : Child). child.parent == c.order_of.ensures i) (c.as_buffer-all.ensures.links i))
    ∙ kids_now c.self.invariant c.self.view_is c.args.place c.requires c.get.result.now c.get.ensures c.as_buffer-all.ensures.sound c.args.parent
    (sym c.eq.ensures ∙ c.if-eq.false)
