use Rattle.std.proofs.Common.{Ok, refl, sym, ap, ◌∙◌}
use Rattle.session_model.specs.declared.line.Answer.TheVariants as a
use Rattle.session_queries.proofs.ReadingLemmas.{behind_second, refused_first}
use Rattle.session_queries.proofs.listing.connections.Goals as goal

pub returns-in_err-check_named : goal.returns-in_err-check_named
returns-in_err-check_named c = refused_first _ _ _ c.in_err-check_named.field-0.0 _ _ _ c.from_residual.ensures.1 refl c.in_err-check_named.ensures

pub returns : goal.returns
returns c = record {
  returns = behind_second _ _ c.in_ok-check_named.ensures
      ∙ ap (λ described. Ok (a.Connections described)) (sym c.in_ok-connection_descriptions.ensures);
}
