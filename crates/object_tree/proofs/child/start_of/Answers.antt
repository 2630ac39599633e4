use Rattle.std.proofs.Common.{◌+◌, arith, ap}
use Rattle.object_tree.specs.declared.child.Child.{Child}
use Rattle.object_tree.proofs.ChildLemmas.{count_from_ends}
use Rattle.object_tree.proofs.child.start_of.Goals.{then-end-eq0-via-then-end-eq0, then-end-eq0-via-else-end-eq0+then-parent-get}
use Rattle.object_tree.proofs.child.start_of.Goals as goal

pub returns-then-end-eq0 : goal.returns-then-end-eq0
returns-then-end-eq0 c = count_from_ends c.args.children.now.items c.requires.order (c.args.parent + 1) c.args.end c.requires.end.within
    (λ lt d. omega (arith, c.requires.end.behind c.args.end d (omega arith) lt))
    (λ lt d. elim c.then-end-eq0.branch [
      | then-end-eq0-via-then-end-eq0 w ↦ absurd (omega arith)
      | then-end-eq0-via-else-end-eq0+then-parent-get w ↦ omega (arith, ap (λ (child : Child). child.parent) (w.get.ensures d))
    ])
