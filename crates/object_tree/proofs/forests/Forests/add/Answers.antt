use Rattle.std.proofs.Common.{◌+◌, ◌∙◌, refl, sym, ap, arith}
use Rattle.shared_rows.specs.Links.{Linked, with_link}
use Rattle.shared_rows.proofs.ForCallers.{on_err}
use Rattle.object_tree.specs.declared.child.Child.{Child}
use Rattle.object_tree.specs.Forest.{Forest}
use Rattle.object_tree.specs.Table.{forest_at}
use Rattle.object_tree.specs.Children.{child_cmp}
use Rattle.object_tree.proofs.RefusingLemmas.{add_allowed}
use Rattle.object_tree.proofs.KeptLemmas.{below_next, forest_is, in_kinships, in_rows, one_more, same_forest, unchanged_seen}
use Rattle.object_tree.proofs.forests.Forests.add.Goals as goal

pub get_mut-kinship-requires : goal.get_mut-kinship-requires
get_mut-kinship-requires c = in_kinships c.self.invariant c.self.view_is c.args.place c.requires

pub overflow_add-row : goal.overflow_add-row
overflow_add-row c = omega (
  arith,
  (add_allowed (forest_at c.args.self.now c.args.place) c.args.parent (sym c.in_ok-check_add.ensures)).number,
  ap (λ (forest : Forest). forest.last_number)
      (forest_is c.self.invariant c.self.view_is c.args.place c.requires c.get_mut-kinship.result.now c.get_mut-kinship.ensures.value),
)

pub overflow_add-row-2 : goal.overflow_add-row-2
overflow_add-row-2 c = omega (
  arith,
  (add_allowed (forest_at c.args.self.now c.args.place) c.args.parent (sym c.in_ok-check_add.ensures)).stamp,
  ap (λ (forest : Forest). forest.last_stamp)
      (forest_is c.self.invariant c.self.view_is c.args.place c.requires c.get_mut-kinship.result.now c.get_mut-kinship.ensures.value),
)

pub invariant_of-self : goal.invariant_of-self
invariant_of-self c = (same_forest c.self.invariant c.self.view_is c.args.place c.requires c.get_mut-kinship.result.now c.get_mut-kinship.ensures.value
    c.reserve.new.self refl c.reserve.ensures.links).kept

pub returns-in_err-reserve-clause-err : goal.returns-in_err-reserve-clause-err
returns-in_err-reserve-clause-err c = on_err c.from_residual-in_err-reserve.result
    (unchanged_seen (same_forest c.self.invariant c.self.view_is c.args.place c.requires c.get_mut-kinship.result.now c.get_mut-kinship.ensures.value
    c.reserve.new.self refl c.reserve.ensures.links))

pub push-requires-clause-place : goal.push-requires-clause-place
push-requires-clause-place c = in_rows c.self.invariant c.self.view_is c.args.place c.requires

pub push-requires-clause-number : goal.push-requires-clause-number
push-requires-clause-number c = below_next c.self.invariant c.self.view_is c.args.place c.requires c.get_mut-kinship.result.now c.get_mut-kinship.ensures.value

pub invariant_of-self-in_err-push : goal.invariant_of-self-in_err-push
invariant_of-self-in_err-push c = (same_forest c.self.invariant c.self.view_is c.args.place c.requires c.get_mut-kinship.result.now
    c.get_mut-kinship.ensures.value c.reserve.new.self c.in_err-push.ensures.err c.reserve.ensures.links).kept

pub returns-in_err-push-clause-err : goal.returns-in_err-push-clause-err
returns-in_err-push-clause-err c = on_err c.from_residual-in_err-push.result
    (unchanged_seen (same_forest c.self.invariant c.self.view_is c.args.place c.requires c.get_mut-kinship.result.now c.get_mut-kinship.ensures.value
    c.reserve.new.self c.in_err-push.ensures.err c.reserve.ensures.links))

pub invariant_of-self-2 : goal.invariant_of-self-2
invariant_of-self-2 c = (one_more c.self.invariant c.self.view_is c.args.place c.requires c.get_mut-kinship.result.now c.get_mut-kinship.ensures.value
    c.in_ok-push.field-0 c.insert_reserved.new.self c.args.parent c.args.class (sym c.in_ok-check_add.ensures) c.in_ok-push.ensures.added
    (ap (λ (l : Linked Child). l.links) c.insert_reserved.ensures ∙ λ i. with_link child_cmp (c.reserve.ensures.links i) (c.child_of.ensures i))).kept

pub returns-clause-number : goal.returns-clause-number
returns-clause-number c = ap (λ (forest : Forest). forest.last_number + 1)
    (sym (forest_is c.self.invariant c.self.view_is c.args.place c.requires c.get_mut-kinship.result.now c.get_mut-kinship.ensures.value))

pub returns-clause-ok : goal.returns-clause-ok
returns-clause-ok c = (one_more c.self.invariant c.self.view_is c.args.place c.requires c.get_mut-kinship.result.now c.get_mut-kinship.ensures.value
    c.in_ok-push.field-0 c.insert_reserved.new.self c.args.parent c.args.class (sym c.in_ok-check_add.ensures) c.in_ok-push.ensures.added
    (ap (λ (l : Linked Child). l.links) c.insert_reserved.ensures ∙ λ i. with_link child_cmp (c.reserve.ensures.links i) (c.child_of.ensures i))).seen
