use Rattle.std.proofs.Common.{Ok, Option, ap, sym, ◌∙◌}
use Rattle.variant_value.specs.declared.value.Value.{Value}
use Rattle.binding_values.specs.declared.property.BindingError.{BindingError}
use Rattle.session_model.specs.declared.line.Answer.TheVariants as a
use Rattle.session_queries.proofs.ReadingLemmas.{found_refused, found_there, refused_reading}
use Rattle.session_queries.proofs.queries.binding_error.Goals as goal

pub returns-in_err-at : goal.returns-in_err-at
returns-in_err-at c = refused_reading _ _ _ c.in_err-at.field-0.0 _ c.from_residual.ensures.1
    (found_refused _ _ _ (rw c.as_str.ensures at c.in_err-at.ensures))

pub returns : goal.returns
returns c = record {
  returns = found_there _ _ _ (rw c.as_str.ensures at c.in_ok-at.ensures)
      ∙ ap (λ (shown : Value × Option BindingError). Ok (a.BindingError shown.1)) (sym c.in_ok-error.ensures.shown);
}
