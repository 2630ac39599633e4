use Rattle.std.proofs.Common.{refl, ap, sym, ◌∙◌}
use Rattle.std.specs.Result.{result_err}
use Rattle.session_engine.proofs.Common.{replies, state_at, behind_first, behind_second}
use Rattle.session_model.specs.declared.line.Answer.TheVariants as a
use Rattle.publish_board.specs.Desk.{left}
use Rattle.session_model.specs.Sharing.{leaves}
use Rattle.session_model.specs.State.{with_desk}
use Rattle.session_model.proofs.ForCallers.{performs_leave, refusal_leave}
use Rattle.session_engine.proofs.CommandsLemmas.{found_fault, replied, stopped}
use Rattle.session_engine.proofs.sharing.leave.Goals as goal

pub returns-in_err-check_object : goal.returns-in_err-check_object
returns-in_err-check_object c = stopped c.in_err-check_object.field-0.0 _ c.from_residual.ensures.1
    (refusal_leave _ _ _ _ _ _ _ ∙ ap result_err (behind_first _ _ _ c.in_err-check_object.ensures)) refl

pub returns-in_err-method : goal.returns-in_err-method
returns-in_err-method c = found_fault result_err _ c.in_err-method.field-0.0 c.from_residual-in_err-method.ensures.1
    (refusal_leave _ _ _ _ _ _ _ ∙ ap result_err (behind_second _ _ c.in_ok-check_object.ensures)) (λ code. refl) c.in_err-method.ensures

pub returns : goal.returns
returns c =
    let state = state_at c.args.tables.now c.args.caller.now.place in
    let from = c.args.from.now in
    let name = c.args.name.now in
    let found = behind_second _ _ c.in_ok-check_object.ensures ∙ c.in_ok-method.ensures in
    replied c.requires (refusal_leave _ _ _ _ _ _ _ ∙ ap result_err found)
    (performs_leave _ _ _ _ _ _ _ ∙ ap (leaves state from name c.args.object) found
    ∙ ap (λ stood. replies (with_desk state (left state.desk from name c.args.object c.in_ok-method.method)) (a.Truth stood)) (sym c.leave-stood.ensures.was))
    c.leave-stood.ensures.is
