use Rattle.std.proofs.Common.{◌∙◌, arith, sym, ap}
use Rattle.std.proofs.lemmas.Bool.{leb-true, leb-false}
use Rattle.object_tree.specs.declared.child.Child.{Child}
use Rattle.object_tree.proofs.ChildLemmas.{count_from_ends}
use Rattle.object_tree.proofs.child.is_count_from.Goals.{then-count-len-2, else-count-len-2}
use Rattle.object_tree.proofs.child.is_count_from.Goals as goal

pub returns-then-count-eq0 : goal.returns-then-count-eq0
returns-then-count-eq0 c = λ _.
    count_from_ends c.args.children.now.items c.requires c.args.parent c.args.count (omega arith)
    (λ lt d. elim c.if-count-len-2.branch [
      | then-count-len-2 w ↦ omega (arith, leb-false _ _ (sym w.value-is ∙ c.if-parent-get.false), ap (λ (child : Child). child.parent) (w.get.ensures d))
      | else-count-len-2 w ↦ absurd (omega arith)
    ])
    (λ lt d. absurd (omega arith))

pub returns-else-count-eq0 : goal.returns-else-count-eq0
returns-else-count-eq0 c = λ passes.
    count_from_ends c.args.children.now.items c.requires c.args.parent c.args.count (omega arith)
    (λ lt d. elim c.if-count-len-2.branch [
      | then-count-len-2 w ↦ omega (arith, leb-false _ _ (sym w.value-is ∙ c.if-parent-get.false), ap (λ (child : Child). child.parent) (w.get.ensures d))
      | else-count-len-2 w ↦ absurd (omega arith)
    ])
    (λ lt d. omega (arith, leb-true _ _ passes, ap (λ (child : Child). child.parent) (c.get-else-count-eq0.ensures d)))
