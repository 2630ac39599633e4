use Rattle.std.proofs.Common.{◌∙◌, ◌++◌, ◌∷◌, ◌≤◌, [], sym, ap, arith, length, map}
use Rattle.class_table.specs.Lookup.{properties}
use Rattle.class_table.proofs.ForCallers.{map-taken, taken-whole}
use Rattle.session_model.specs.State.{field_of}
use Rattle.session_effects.proofs.class_layouts.fields.Goals as goal

pub loop-number-preserved : goal.loop-number-preserved
loop-number-preserved c =
    let rows = properties c.args.classes.now c.args.class in
    rw c.in_ok-push.ensures.ok
    ((λ i. c.loop-number.invariant i ++ c.in_ok-field.ensures i ∷ [])
    ∙ sym (map-taken field_of rows c.loop-number.number c.in-Some.property.now c.in-Some.ensures.value))

pub returns : goal.returns
returns c =
    let rows = properties c.args.classes.now c.args.class in
    let whole : length rows ≤ c.loop-number.number = omega (arith, c.property_count-number-end.ensures.value) in
    c.loop-number.invariant ∙ ap (map field_of) (taken-whole rows c.loop-number.number whole)
