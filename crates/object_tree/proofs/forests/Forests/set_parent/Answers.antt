use Rattle.std.proofs.Common.{◌∙◌, cond, sym, ap, arith}
use Rattle.object_tree.specs.Forest.{Forest}
use Rattle.object_tree.specs.Changes.{moved}
use Rattle.object_tree.specs.Table.{forest_at, with_forest}
use Rattle.object_tree.proofs.RefusingLemmas.{move_allowed}
use Rattle.object_tree.proofs.KeptLemmas.{forest_is, here, in_kinships, in_rows, moved_to}
use Rattle.object_tree.proofs.forests.Forests.set_parent.Goals as goal

pub get_mut-kinship-requires : goal.get_mut-kinship-requires
get_mut-kinship-requires c = in_kinships c.self.invariant c.self.view_is c.args.place c.requires

pub overflow_add-kinship : goal.overflow_add-kinship
overflow_add-kinship c = omega (
  arith,
  (move_allowed (forest_at c.args.self.now c.args.place) c.args.object c.args.parent (sym c.in_ok-check_set_parent.ensures)
      (sym c.if-not-keeps_parent.ensures)).stamp,
  ap (λ (forest : Forest). forest.last_stamp)
      (forest_is c.self.invariant c.self.view_is c.args.place c.requires c.get_mut-kinship.result.now c.get_mut-kinship.ensures.value),
)

pub hang-requires : goal.hang-requires
hang-requires c = record {
  place = in_rows c.self.invariant c.self.view_is c.args.place c.requires;
  linked = (here c.self.invariant c.self.view_is c.args.place c.requires c.get_mut-kinship.result.now c.get_mut-kinship.ensures.value).linked;
}

pub invariant_of-self : goal.invariant_of-self
invariant_of-self c = (moved_to c.self.invariant c.self.view_is c.args.place c.requires c.get_mut-kinship.result.now c.get_mut-kinship.ensures.value
    c.hang.new.children c.args.object c.args.parent (sym c.in_ok-check_set_parent.ensures)
    (sym c.if-not-keeps_parent.ensures) c.hang.ensures.elsewhere c.hang.ensures.rows c.hang.ensures.linked).kept

pub returns-then-not-keeps_parent-clause-ok : goal.returns-then-not-keeps_parent-clause-ok
returns-then-not-keeps_parent-clause-ok c =
    (moved_to c.self.invariant c.self.view_is c.args.place c.requires c.get_mut-kinship.result.now c.get_mut-kinship.ensures.value c.hang.new.children
    c.args.object c.args.parent (sym c.in_ok-check_set_parent.ensures)
    (sym c.if-not-keeps_parent.ensures) c.hang.ensures.elsewhere c.hang.ensures.rows c.hang.ensures.linked).seen
    ∙ λ i. with_forest c.args.self.now c.args.place
    (cond (c.if-not-keeps_parent.ensures i) (forest_at c.args.self.now c.args.place)
    (moved (forest_at c.args.self.now c.args.place) c.args.object c.args.parent))
