use Rattle.std.proofs.Common.{◌≡◌, ◌<◌, ◌+◌, length, ◌∷◌, get_or, drop, map, ap, sym, ◌∙◌, arith}
use Rattle.std.proofs.lemmas.Grind.{common_steps}
use Rattle.std.proofs.lemmas.List.{drop_all, drop_more}
use Rattle.serde_json.specs.View.{view}
use Rattle.signature_core.specs.declared.kind.Kind.TheVariants as k
use Rattle.session_effects.proofs.ValuesLemmas.{values_refused, values_short}
use Rattle.session_effects.proofs.values.values_of.Goals as goal

pub returns-then-at-kinds : goal.returns-then-at-kinds
returns-then-at-kinds c =
    sym c.loop-json.invariant.rest ∙ values_short c.loop-json.is_long _ (get_or c.args.kinds.now c.loop-json.at k.Text) _ _ _
    (drop_more c.args.kinds.now c.loop-json.at k.Text (omega arith))
    (ap (map view) (drop_all c.loop-json.json-index c.args.args.now (omega arith)))

pub returns-then-not-is_limit : goal.returns-then-not-is_limit
returns-then-not-is_limit c =
    let kinds = c.args.kinds.now in
    let args = c.args.args.now in
    let at = c.loop-json.at in
    let i = c.loop-json.json-index in
    let x = c.json-item.result in
    let within : at < length kinds = grind (arith, common_steps) in
    let is : get_or kinds at k.Text ≡ c.in-Some.kind.now = grind (arith, common_steps) in
    let here : drop at kinds ≡ c.in-Some.kind.now ∷ drop (at + 1) kinds = drop_more kinds at k.Text within ∙ ap (λ kind. kind ∷ drop (at + 1) kinds) is in
    let there : drop i args ≡ x ∷ drop (i + 1) args = drop_more args i x (omega arith) ∙ ap (λ y. y ∷ drop (i + 1) args) (sym c.json-item.is) in
    sym c.loop-json.invariant.rest
    ∙ values_refused c.loop-json.is_long _ _ _ _ _ _ _ _ here (ap (map view) there) (rw c.in-Err-Refused.field-0-is at c.in-Err-Refused.ensures.exact)
    (sym c.if-not-is_limit.ensures)

pub returns-in_default : goal.returns-in_default
returns-in_default c = grind (arith, common_steps)

pub loop-json-preserved : goal.loop-json-preserved
loop-json-preserved c = grind (arith, common_steps)

pub returns-then-is_long : goal.returns-then-is_long
returns-then-is_long c = grind (arith, common_steps)

pub returns : goal.returns
returns c = grind (arith, common_steps)
