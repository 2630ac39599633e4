use Rattle.std.proofs.Common.{◌∙◌, ◌++◌, ◌∷◌, [], sym}
use Rattle.class_table.specs.declared.class.Class.{Class}
use Rattle.class_table.proofs.ForCallers.{map-taken}
use Rattle.session_queries.proofs.descriptions.classes.class_names.Goals as goal

pub classes-preserved : goal.classes-preserved
classes-preserved c =
    let rows = c.args.setup.now.classes in
    let said = c.in_ok-copy.ensures in
    c.in_ok-push.ensures.ok
    ∙ ((λ i. c.classes.invariant i ++ said i ∷ [])
    ∙ sym (map-taken (λ (class : Class). class.name) rows c.classes.index c.in-Some.row.now c.in-Some.ensures.value))
