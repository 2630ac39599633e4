use Rattle.std.proofs.Common.{◌≡◌, ◌+◌, [], ◌∷◌, get_or, drop, sym, ◌∙◌, ap, arith}
use Rattle.std.proofs.lemmas.Grind.{common_steps}
use Rattle.std.proofs.lemmas.List.{drop_more}
use Rattle.signature_core.specs.declared.kind.Kind.TheVariants as k
use Rattle.session_model.specs.Targets.{all_converted}
use Rattle.session_effects.proofs.FoundLemmas.{answers_refused, behind, converted_more, converted_refused, converted_short, kind_within}
use Rattle.session_effects.proofs.evaluation.all_converted.Goals as goal

pub returns-then-at-kinds : goal.returns-then-at-kinds
returns-then-at-kinds c =
    let none : c.loop-value.value-iterator.rest.items ≡ [] = grind (arith, common_steps) in
    sym c.loop-value.invariant.rest ∙ converted_short _ (get_or c.args.kinds.now c.loop-value.at k.Text) _ _ _
    (drop_more c.args.kinds.now c.loop-value.at k.Text (omega arith)) none

pub loop-value-preserved : goal.loop-value-preserved
loop-value-preserved c =
    let next : c.loop-value.value-iterator.rest.items ≡ c.in-Some.value ∷ c.next.new.self.rest.items = grind (arith, common_steps) in
    let kinds = c.args.kinds.now in
    let at = c.loop-value.at in
    let met = c.get.ensures.lookup.3 in
    record {
      can_next = tt;
      is_finite = tt;
      within = kind_within kinds at c.in-Some.value _ c.get.result met c.in_ok-value_as.ensures;
      rest =
          ap (λ done. behind done (all_converted (drop (at + 1) kinds) c.next.new.self.rest.items)) c.in_ok-push.ensures.ok
          ∙ converted_more c.loop-value.converted kinds at c.in-Some.value c.next.new.self.rest.items c.get.result met _ c.in_ok-value_as.ensures
          ∙ ap (λ values. behind c.loop-value.converted (all_converted (drop at kinds) values)) (sym next)
          ∙ c.loop-value.invariant.rest;
    }

pub returns-in_err-value_as : goal.returns-in_err-value_as
returns-in_err-value_as c =
    let next : c.loop-value.value-iterator.rest.items ≡ c.in-Some.value ∷ c.next.new.self.rest.items = grind (arith, common_steps) in
    answers_refused _ _ _ c.from_residual.ensures.1 (
    sym c.loop-value.invariant.rest
    ∙ ap (λ values. behind c.loop-value.converted (all_converted (drop c.loop-value.at c.args.kinds.now) values)) next
    ∙ converted_refused c.loop-value.converted c.args.kinds.now c.loop-value.at c.in-Some.value c.next.new.self.rest.items c.get.result c.get.ensures.lookup.3 _
    c.in_err-value_as.ensures
    )

pub returns : goal.returns
returns c = grind (arith, common_steps)
