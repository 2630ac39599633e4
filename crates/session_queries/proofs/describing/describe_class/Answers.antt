use Rattle.std.proofs.Common.{Ok, sym, ap, ◌∙◌}
use Rattle.session_model.specs.declared.line.Answer.TheVariants as a
use Rattle.session_model.specs.ClassDescriptions.{class_description}
use Rattle.session_queries.proofs.ReadingLemmas.{behind_first, behind_second, refused_reading}
use Rattle.session_queries.proofs.describing.describe_class.Goals as goal

pub returns-in_err-index : goal.returns-in_err-index
returns-in_err-index c = refused_reading _ _ _ c.in_err-index.field-0.0 _ c.from_residual.ensures.1 (behind_first _ _ _ c.in_err-index.ensures.refusal)

pub returns : goal.returns
returns c =
    record {
      returns =
          behind_second _ _ c.in_ok-index.ensures.refusal
          ∙ ap (λ index. Ok (a.Class (class_description c.args.session.caller.now.setup.now.classes index))) (sym c.in_ok-index.ensures.index)
          ∙ ap (λ described. Ok (a.Class described)) (sym c.in_ok-described.ensures ∙ sym c.in_ok-new.ensures);
    }
