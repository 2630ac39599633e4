use Rattle.std.proofs.Common.{◌∙◌, ◌++◌, ◌∷◌, ◌≤◌, [], sym, ap, arith, length, map}
use Rattle.class_table.specs.Lookup.{properties}
use Rattle.class_table.proofs.ForCallers.{map-taken, taken-whole}
use Rattle.session_effects.proofs.setup.Setup.property_names.Goals as goal

pub loop-number-preserved : goal.loop-number-preserved
loop-number-preserved c =
    let rows = properties c.args.self.now.classes c.args.class in
    let said = c.in_ok-copy.ensures in
    c.in_ok-push.ensures.ok
    ∙ ((λ i. c.loop-number.invariant i ++ said i ∷ [])
    ∙ sym (map-taken (λ property. property.name) rows c.loop-number.number c.in-Some.property.now c.in-Some.ensures.value))

pub returns : goal.returns
returns c =
    let rows = properties c.args.self.now.classes c.args.class in
    let whole : length rows ≤ c.loop-number.number = omega (arith, c.property_count-number-end.ensures.value) in
    c.loop-number.invariant ∙ ap (map (λ property. property.name)) (taken-whole rows c.loop-number.number whole)
