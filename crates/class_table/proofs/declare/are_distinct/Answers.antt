use Rattle.std.proofs.Common.{rules, ◌≡◌, ◌∙◌, ◌++◌, ◌∷◌, [], Bool, ◌+◌, Ok, Some, true, false, not, sym, ap, subst, bytes_eq, slice_get, take, arith, length}
use Rattle.std.proofs.Common.{refl}
use Rattle.std.specs.List.{list_any}
use Rattle.std.proofs.lemmas.Grind.{common_steps}
use Rattle.std.proofs.lemmas.Option.{slice_get_read}
use Rattle.class_table.specs.Lookup.{is_distinct}
use Rattle.class_table.proofs.ListLemmas.{taken}
use Rattle.class_table.proofs.OnceLemmas.{HasSeen, once_more, seen_more, seen_twice}
use Rattle.class_table.proofs.declare.are_distinct.Goals as goal

turned : (b c : Bool) → c ≡ not b → (c ≡ false → b ≡ true) × (c ≡ true → b ≡ false)
turned true c e = (λ h. cc, λ h. absurd (cc))
turned false c e = (λ h. absurd (cc), λ h. cc)

pub returns-then-not-branch : goal.returns-then-not-branch
returns-then-not-branch c =
    let texts = c.args.texts.now in
    let index = c.loop-text.text-index in
    let text = c.text-item.result in
    let same : c.as_str.result.now ≡ text = search rules in
    let seen : list_any (bytes_eq c.as_str.result.now) (take index texts) ≡ true = sym (c.loop-text.invariant.0 c.as_str.result)
    ∙ (turned _ c.in_ok-insert.field-0 c.in_ok-insert.ensures.added).0 c.if-not-branch.true in
    ap Ok (seen_twice texts index text (sym (slice_get_read texts (length texts) index text refl c.loop-text-test.true c.text-item.is))
    c.loop-text.invariant.1 (subst (λ t. list_any (bytes_eq t) (take index texts) ≡ true) same seen))

pub loop-text-preserved : goal.loop-text-preserved
loop-text-preserved c =
    let texts = c.args.texts.now in
    let index = c.loop-text.text-index in
    let text = c.text-item.result in
    let at : Some text ≡ slice_get texts index = sym (slice_get_read texts (length texts) index text refl c.loop-text-test.true c.text-item.is) in
    let same : c.as_str.result.now ≡ text = search rules in
    let new : list_any (bytes_eq c.as_str.result.now) (take index texts) ≡ false = sym (c.loop-text.invariant.0 c.as_str.result)
    ∙ (turned _ c.in_ok-insert.field-0 c.in_ok-insert.ensures.added).1 c.if-not-branch.false in
    let more : take (index + 1) texts ≡ take index texts ++ c.as_str.result.now ∷ [] = taken texts index text at
    ∙ ap (λ t. take index texts ++ t ∷ []) (sym same) in (
      subst (HasSeen (λ key. key.now) c.insert.new.self) (sym more)
          (seen_more (λ key. key.now) c.loop-text.seen c.insert.new.self
          (take index texts) c.as_str.result c.loop-text.invariant.0 c.in_ok-insert.ensures.updates),
      ap (is_distinct bytes_eq) more ∙ once_more (take index texts) c.as_str.result.now c.loop-text.invariant.1 new,
    )

pub returns : goal.returns
returns c = grind (arith, common_steps)
