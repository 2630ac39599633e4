use Rattle.std.proofs.Common.{◌∙◌, ◌++◌, ◌∷◌, ◌≤◌, [], sym, ap, arith, length, map}
use Rattle.class_table.specs.Lookup.{method_text, methods}
use Rattle.class_table.proofs.ForCallers.{map-taken, taken-whole}
use Rattle.session_effects.proofs.setup.Setup.method_texts.Goals as goal

pub loop-number-preserved : goal.loop-number-preserved
loop-number-preserved c =
    let rows = methods c.args.self.now.classes c.args.class in
    let said = c.in_ok-copy.ensures ∙ c.in-Some.ensures.sound.text in
    c.in_ok-push.ensures.ok
    ∙ ((λ i. c.loop-number.invariant i ++ said i ∷ [])
    ∙ sym (map-taken method_text rows c.loop-number.number c.in-Some.method.now c.in-Some.ensures.value))

pub returns : goal.returns
returns c =
    let rows = methods c.args.self.now.classes c.args.class in
    let whole : length rows ≤ c.loop-number.number = omega (arith, c.method_count-number-end.ensures.value) in
    c.loop-number.invariant ∙ ap (map method_text) (taken-whole rows c.loop-number.number whole)
