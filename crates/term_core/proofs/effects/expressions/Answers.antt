use Rattle.std.proofs.Common.{◌∙◌, refl, arith}
use Rattle.std.proofs.lemmas.Grind.{common_steps}
use Rattle.term_core.specs.Effects.{terms_in}
use Rattle.term_core.specs.Forms.{term_in}
use Rattle.term_core.proofs.Concatenated.{concatenated_step}
use Rattle.term_core.proofs.effects.expressions.Goals as goal

pub loop-json-preserved : goal.loop-json-preserved
loop-json-preserved c = rw c.in_ok-push.ensures.items (concatenated_step (term_in c.args.scope) (terms_in c.args.scope) (λ json rest. refl) _ _
    c.json-item.result c.args.list.now c.loop-json.json-index (omega arith) c.json-item.is c.in_ok-expression.ensures ∙ c.loop-json.invariant)

pub returns-in_err-expression : goal.returns-in_err-expression
returns-in_err-expression c = grind (arith, common_steps)

pub returns : goal.returns
returns c = grind (arith, common_steps)
