use Rattle.std.proofs.Common.{Ok, sym, ap, ◌∙◌}
use Rattle.session_model.specs.declared.line.Answer.TheVariants as a
use Rattle.session_queries.proofs.ReadingLemmas.{object_missing, object_there}
use Rattle.session_queries.proofs.describing.describe_object.Goals as goal

pub returns-in_default : goal.returns-in_default
returns-in_default c = record { returns = object_missing _ _ (sym c.row.ensures ∙ c.in_default.is) }

pub returns : goal.returns
returns c = record {
  returns = object_there _ _ _ (sym c.row.ensures ∙ c.in-Some.is)
      ∙ ap (λ described. Ok (a.Object described)) (sym c.in_ok-described.ensures ∙ sym c.in_ok-new.ensures);
}
