use Rattle.std.proofs.Common.{Ok, refl, ap, ◌∙◌}
use Rattle.session_engine.proofs.Common.{found_refusal, ◌>>=◌, state_at, behind_first, behind_second}
use Rattle.session_model.specs.declared.operation.Operation.TheVariants as d
use Rattle.session_model.proofs.ForCallers.{performs_disconnect, refusal_disconnect}
use Rattle.session_engine.proofs.CommandsLemmas.{operation_performed, found_fault, stopped}
use Rattle.session_engine.proofs.connections.disconnect.Goals as goal

pub returns-in_err-check_object : goal.returns-in_err-check_object
returns-in_err-check_object c = stopped c.in_err-check_object.field-0.0 _ c.from_residual.ensures.1
    (refusal_disconnect _ _ _ _ _ _ _ ∙ ap (found_refusal (state_at c.args.tables.now c.args.caller.now.place))
    (behind_first _ _ _ c.in_err-check_object.ensures)) refl

pub returns-in_err-check_named : goal.returns-in_err-check_named
returns-in_err-check_named c = stopped c.in_err-check_named.field-0.0 _ c.from_residual-in_err-check_named.ensures.1
    (refusal_disconnect _ _ _ _ _ _ _ ∙ ap (found_refusal (state_at c.args.tables.now c.args.caller.now.place))
    (behind_second _ _ c.in_ok-check_object.ensures ∙ behind_first _ _ _ c.in_err-check_named.ensures)) refl

pub returns-in_err-pattern : goal.returns-in_err-pattern
returns-in_err-pattern c =
    let state = state_at c.args.tables.now c.args.caller.now.place in
    found_fault (λ found. found_refusal state (found >>= λ found. Ok (d.Disconnect found))) _ c.in_err-pattern.field-0.0
    c.from_residual-in_err-pattern.ensures.1
    (refusal_disconnect _ _ _ _ _ _ _ ∙ ap (found_refusal (state_at c.args.tables.now c.args.caller.now.place))
    (behind_second _ _ c.in_ok-check_object.ensures ∙ behind_second _ _ c.in_ok-check_named.ensures)) (λ code. refl) c.in_err-pattern.ensures

pub returns : goal.returns
returns c = operation_performed _ c.requires (refusal_disconnect _ _ _ _ _ _ _) (performs_disconnect _ _ _ _ _ _ _)
    (behind_second _ _ c.in_ok-check_object.ensures ∙ behind_second _ _ c.in_ok-check_named.ensures
    ∙ ap (λ found. found >>= λ found. Ok (d.Disconnect found)) c.in_ok-pattern.ensures)
    c.do_operation.ensures.refusal c.do_operation.ensures.answer c.do_operation.ensures.ok c.do_operation.ensures.err
