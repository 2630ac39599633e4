use Rattle.std.proofs.Common.{Ok, refl, ap, ◌∙◌}
use Rattle.std.proofs.lemmas.Bool.{cond-false, cond-true}
use Rattle.session_model.specs.declared.operation.Operation.TheVariants as d
use Rattle.plain_types.specs.declared.code.Code.TheVariants.{UniqueFunctor}
use Rattle.std.specs.Prelude.{Err, false, if◌then◌else◌}
use Rattle.session_engine.proofs.Common.{found_refusal, ◌>>=◌, state_at, behind_first, behind_second}
use Rattle.session_model.proofs.ForCallers.{performs_connect_functor, refusal_connect_functor}
use Rattle.session_engine.proofs.CommandsLemmas.{operation_performed, found_fault, stopped}
use Rattle.session_engine.proofs.connections.connect_functor.Goals as goal

pub returns-in_err-check_living : goal.returns-in_err-check_living
returns-in_err-check_living c = stopped c.in_err-check_living.field-0.0 _ c.from_residual.ensures.1
    (refusal_connect_functor _ _ _ _ _ _ _ _ _ _ ∙ ap (found_refusal (state_at c.args.tables.now c.args.caller.now.place))
    (behind_first _ _ _ c.in_err-check_living.ensures)) refl

pub returns-in_err-check_living-2 : goal.returns-in_err-check_living-2
returns-in_err-check_living-2 c = stopped c.in_err-check_living-2.field-0.0 _ c.from_residual-in_err-check_living-2.ensures.1
    (refusal_connect_functor _ _ _ _ _ _ _ _ _ _ ∙ ap (found_refusal (state_at c.args.tables.now c.args.caller.now.place))
    (behind_second _ _ c.in_ok-check_living.ensures ∙ behind_first _ _ _ c.in_err-check_living-2.ensures)) refl

pub returns-in_err-new : goal.returns-in_err-new
returns-in_err-new c =
    let state = state_at c.args.tables.now c.args.caller.now.place in
    found_fault (λ found. found_refusal state (found >>= λ new. if c.args.options.unique then Err UniqueFunctor else Ok (d.Connect new false))) _
    c.in_err-new.field-0.0 c.from_residual-in_err-new.ensures.1
    (refusal_connect_functor _ _ _ _ _ _ _ _ _ _ ∙ ap (found_refusal (state_at c.args.tables.now c.args.caller.now.place))
    (behind_second _ _ c.in_ok-check_living.ensures ∙ behind_second _ _ c.in_ok-check_living-2.ensures)) (λ code. refl) c.in_err-new.ensures

pub returns-then-options : goal.returns-then-options
returns-then-options c =
    stopped _ _ refl
    (refusal_connect_functor _ _ _ _ _ _ _ _ _ _ ∙ ap (found_refusal (state_at c.args.tables.now c.args.caller.now.place))
    (behind_second _ _ c.in_ok-check_living.ensures ∙ behind_second _ _ c.in_ok-check_living-2.ensures
    ∙ ap (λ found. found >>= λ new. if c.args.options.unique then Err UniqueFunctor else Ok (d.Connect new false)) c.in_ok-new.ensures
    ∙ cond-true c.args.options.unique _ _ c.if-options.true)) refl

pub returns : goal.returns
returns c = operation_performed _ c.requires (refusal_connect_functor _ _ _ _ _ _ _ _ _ _) (performs_connect_functor _ _ _ _ _ _ _ _ _ _)
    (behind_second _ _ c.in_ok-check_living.ensures ∙ behind_second _ _ c.in_ok-check_living-2.ensures
    ∙ ap (λ found. found >>= λ new. if c.args.options.unique then Err UniqueFunctor else Ok (d.Connect new false)) c.in_ok-new.ensures
    ∙ cond-false c.args.options.unique _ _ c.if-options.false)
    c.do_found.ensures.refusal c.do_found.ensures.answer c.do_found.ensures.ok c.do_found.ensures.err
