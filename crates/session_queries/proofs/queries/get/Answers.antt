use Rattle.std.proofs.Common.{Ok, refl, sym, ap, ◌∙◌}
use Rattle.session_model.specs.declared.line.Answer.TheVariants as a
use Rattle.session_queries.proofs.ReadingLemmas.{behind_second, refused_first}
use Rattle.session_queries.proofs.queries.get.Goals as goal

pub returns-in_err-check_object : goal.returns-in_err-check_object
returns-in_err-check_object c = refused_first _ _ _ c.in_err-check_object.field-0.0 _ _ _ c.from_residual.ensures.1 refl c.in_err-check_object.ensures

pub returns : goal.returns
returns c = record {
  returns = behind_second _ _ c.in_ok-check_object.ensures
      ∙ ap (λ value. Ok (a.Value value)) (sym (rw c.as_str.ensures at c.in_ok-value.ensures));
}
