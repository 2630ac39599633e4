use Rattle.std.proofs.Common.{Ok, refl, sym, ap, ◌∙◌, ◌&&◌}
use Rattle.session_model.specs.declared.line.Answer.TheVariants as a
use Rattle.object_tree.specs.Finding.{found_below}
use Rattle.session_model.specs.Trees.{has_title, is_of_class}
use Rattle.session_queries.specs.Views.{its_state}
use Rattle.session_queries.proofs.ReadingLemmas.{behind_both, behind_first, behind_second, refused_first, refused_reading}
use Rattle.session_queries.proofs.queries.find.Goals as goal

pub returns-in_err-check_object : goal.returns-in_err-check_object
returns-in_err-check_object c = refused_first _ _ _ c.in_err-check_object.field-0.0 _ _ _ c.from_residual.ensures.1 refl c.in_err-check_object.ensures

pub returns-in_err-base : goal.returns-in_err-base
returns-in_err-base c = refused_reading _ _ _ c.in_err-base.field-0.0 _ c.from_residual-in_err-base.ensures.1
    (behind_second _ _ c.in_ok-check_object.ensures ∙ behind_first _ _ _ c.in_err-base.ensures.refusal)

pub returns : goal.returns
returns c =
    let state = its_state c.args.session in
    record {
      returns =
          behind_both _ _ _ c.in_ok-check_object.ensures c.in_ok-base.ensures.refusal
          ∙ ap (λ base. Ok (a.Found (found_below state.forest.rows c.args.object
          (λ number. has_title state c.args.title.now number && is_of_class c.args.session.caller.now.setup.now.classes state base number))))
          (sym c.in_ok-base.ensures.index)
          ∙ ap (λ found. Ok (a.Found found)) (sym c.in_ok-found.ensures);
    }
