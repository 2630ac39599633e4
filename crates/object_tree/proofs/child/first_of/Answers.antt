use Rattle.std.proofs.Common.{◌∙◌, ap}
use Rattle.object_tree.specs.declared.child.Child.{Child}
use Rattle.object_tree.proofs.ChildLemmas.{none_of}
use Rattle.object_tree.proofs.child.first_of.Goals as goal

pub returns-else-child-parent-clause-none : goal.returns-else-child-parent-clause-none
returns-else-child-parent-clause-none c =
    none_of c.args.all.now.items c.requires c.args.parent c.count_from-at.result c.count_from-at.ensures
    (λ inside d. λ same. c.if-child-parent.false (ap (λ (child : Child). child.parent) (c.get-child.ensures d) ∙ same))
