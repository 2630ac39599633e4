use Rattle.std.proofs.Common.{sym, refl, ◌∙◌}
use Rattle.session_engine.proofs.Common.{replies, state_at}
use Rattle.session_model.specs.declared.line.Answer.TheVariants as a
use Rattle.session_model.specs.State.{with_object}
use Rattle.session_model.proofs.ForCallers.{performs_new, refusal_new}
use Rattle.session_engine.proofs.CommandsLemmas.{or_first, or_second, made_fault, replied, stopped}
use Rattle.session_engine.proofs.trees.new_object.Goals as goal

pub returns-in_err-check_parent : goal.returns-in_err-check_parent
returns-in_err-check_parent c = stopped c.in_err-check_parent.field-0.0 _ c.from_residual.ensures.1
    (refusal_new _ _ _ _ _ ∙ or_first _ _ _ c.in_err-check_parent.ensures) refl

pub returns-in_err-class : goal.returns-in_err-class
returns-in_err-class c = stopped c.in_err-class.field-0.0 _ c.from_residual-in_err-class.ensures.1
    (refusal_new _ _ _ _ _ ∙ or_second _ _ c.in_ok-check_parent.ensures ∙ or_first _ _ _ c.in_err-class.ensures.refusal) refl

pub returns-in_err-number : goal.returns-in_err-number
returns-in_err-number c = made_fault c.in_err-number.field-0.0 c.from_residual-in_err-number.ensures.1
    (refusal_new _ _ _ _ _ ∙ or_second _ _ c.in_ok-check_parent.ensures ∙ or_second _ _ c.in_ok-class.ensures.refusal)
    c.in_err-number.ensures.refusal c.in_err-number.ensures.refused c.make.ensures.only

pub returns : goal.returns
returns c =
    let classes = c.args.caller.now.setup.now.classes in
    let state = state_at c.args.tables.now c.args.caller.now.place in
    replied c.requires.placed
    (refusal_new _ _ _ _ _ ∙ or_second _ _ c.in_ok-check_parent.ensures ∙ or_second _ _ c.in_ok-class.ensures.refusal ∙ c.in_ok-number.ensures.refusal)
    (performs_new _ _ _ _ _
    ∙ (λ i. replies (with_object classes state c.args.parent (sym c.in_ok-class.ensures.index i)) (a.Number (sym c.in_ok-number.ensures.number i))))
    (c.in_ok-number.ensures.ok classes c.requires.known.laid)
