use Rattle.std.proofs.Common.{◌∙◌, ◌++◌, ◌∷◌, ◌≤◌, [], sym, ap, arith, length, map, string_bytes}
use Rattle.std.proofs.lemmas.Grind.{common_steps}
use Rattle.std.proofs.lemmas.List.{map-append}
use Rattle.class_table.specs.Lookup.{method_text, methods}
use Rattle.class_table.proofs.ListLemmas.{map-taken, taken-whole}
use Rattle.class_table.proofs.table.ClassTable.methods.Goals as goal

pub loop-number-preserved : goal.loop-number-preserved
loop-number-preserved c =
    let rows = methods c.args.self.now c.args.class in
    let said = c.in_ok-from_str.ensures.ok ∙ c.as_str.ensures ∙ c.in-Some.ensures.sound.text in
    rw c.in_ok-push.ensures.items
    (map-append (λ text. string_bytes text) c.loop-number.texts.items (c.in_ok-from_str.field-0 ∷ [])
    ∙ ((λ i. c.loop-number.invariant i ++ said i ∷ [])
    ∙ sym (map-taken method_text rows c.loop-number.number c.in-Some.method.now c.in-Some.ensures.value)))

pub returns : goal.returns
returns c =
    let rows = methods c.args.self.now c.args.class in
    let whole : length rows ≤ c.loop-number.number = omega (arith, c.method_count-number-end.ensures.value) in
    c.loop-number.invariant ∙ ap (map method_text) (taken-whole rows c.loop-number.number whole)

pub loop-number-init : goal.loop-number-init
loop-number-init c = grind (arith, common_steps)
