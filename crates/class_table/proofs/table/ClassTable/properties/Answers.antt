use Rattle.std.proofs.Common.{◌∙◌, ◌++◌, ◌∷◌, ◌≤◌, [], sym, ap, arith, length, map, string_bytes}
use Rattle.std.proofs.lemmas.List.{map-append}
use Rattle.class_table.specs.Lookup.{properties}
use Rattle.class_table.proofs.ListLemmas.{map-taken, taken-whole}
use Rattle.class_table.proofs.table.ClassTable.properties.Goals as goal

pub loop-number-preserved : goal.loop-number-preserved
loop-number-preserved c =
    let rows = properties c.args.self.now c.args.class in
    let said = c.in_ok-from_str.ensures.ok ∙ c.as_str.ensures in
    rw c.in_ok-push.ensures.items
    (map-append (λ text. string_bytes text) c.loop-number.texts.items (c.in_ok-from_str.field-0 ∷ [])
    ∙ ((λ i. c.loop-number.invariant i ++ said i ∷ [])
    ∙ sym (map-taken (λ property. property.name) rows c.loop-number.number c.in-Some.property.now c.in-Some.ensures.value)))

pub returns : goal.returns
returns c =
    let rows = properties c.args.self.now c.args.class in
    let whole : length rows ≤ c.loop-number.number = omega (arith, c.property_count-number-end.ensures.value) in
    c.loop-number.invariant ∙ ap (map (λ property. property.name)) (taken-whole rows c.loop-number.number whole)
