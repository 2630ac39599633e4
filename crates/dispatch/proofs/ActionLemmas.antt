-- The actions of a slot, done by nested calls.
use Rattle.std.proofs.Common.{◌≡◌, Bool, List, [], ◌∷◌, Result, Ok, Err, OnOk, Some, if◌then◌else◌, refl, sym, ap, ◌∙◌}
use Rattle.plain_types.specs.declared.code.Code.{Code}
use Rattle.plain_types.specs.declared.fault.Fault.{Fault}
use Rattle.plain_types.specs.declared.fault.Fault.TheVariants.{Refused, Memory}
use Rattle.plain_types.specs.Answers.{Answers}
use Rattle.term_core.specs.declared.action.SingleAction.{SingleAction}
use Rattle.term_core.specs.Act.{Act, Acts, single_action, when}
use Rattle.term_core.specs.Term.{Term}
use Rattle.session_model.specs.Acts as model
use Rattle.session_model.specs.Agenda.{step}
use Rattle.session_model.specs.Execution.{Execution, in_state}
use Rattle.session_model.specs.Items.{Item, Warn, puts}
use Rattle.session_model.specs.Targets.{truth_evaluated}
use Rattle.session_model.proofs.ForCallers.{by_step}
use Rattle.session_tables.specs.declared.tables.Tables.{Tables}
use Rattle.session_tables.specs.Tables.{IsPlaced, state_at}
use Rattle.session_effects.specs.Actions.{KeepsOthers, act_of}
use Rattle.session_effects.specs.declared.session_context.SessionContext.{SessionContext}
use Rattle.session_effects.specs.declared.slot.Slot.{Slot}
use Rattle.session_effects.specs.Setup.{settings_of}
use Rattle.dispatch.specs.declared.command_output.CommandOutput.{CommandOutput}
use Rattle.dispatch.specs.Agenda.{RunsNext}
use Rattle.dispatch.specs.CommandOutput.{Warns, doing_at}
use Rattle.dispatch.proofs.AgendaLemmas.{branch_done, test_warned, warned}
use Rattle.dispatch.proofs.RunsLemmas.{OnOk-map, does_after, does_by, does_none, does_still, here}

module _ {caller : SessionContext} (slot : Slot) {old : Tables} {before : CommandOutput} where
  -- a choice
  module _ {action : Act} (test : Term) (held failed : Acts) (is : when test held failed ≡ action) where
    -- the branch that its test chooses is done
    pub choice_does : {T E : Type 0} {new : Tables} {after : CommandOutput} {result : Result T E} (truth : Bool)
        → truth_evaluated (state_at old caller.place) slot.object slot.sender slot.args.now test ≡ Ok truth
        → RunsNext caller (here caller (model.acts (if truth then held else failed) slot.args.now slot.object slot.sender slot.depth) old before)
        old new before after result
        → RunsNext caller (here caller (act_of slot action ∷ []) old before) old new before after result
    choice_does {T} {E} {new} {after} {result} truth chosen does = rw (← is) (does_by caller _ old before _ new after result
        (λ earlier done. branch_done (settings_of caller.setup.now) slot (doing_at caller.place old before earlier) test held failed truth done chosen) does)

    -- a test that has no truth is warned of
    pub choice_warned : {T E : Type 0} {after : CommandOutput} {result : Result T E} (fault : Fault)
        → Answers {T = Bool} (Err fault) (truth_evaluated (state_at old caller.place) slot.object slot.sender slot.args.now test)
        → after.failing ≡ before.failing → OnOk result (Warns fault slot.object before after)
        → RunsNext caller (here caller (act_of slot action ∷ []) old before) old old before after result
    choice_warned {T} {E} {after} {result} fault why same told = rw (← is) (does_still same (OnOk-map result
        (λ warns earlier. test_warned (settings_of caller.setup.now) slot caller.place old before after earlier test held failed fault why warns) told))

  -- a single action
  module _ {plain : SingleAction} where
    -- it is done by what it comes to
    pub action_does : {T E : Type 0} {items : List Item} {middle new : Tables} {after : CommandOutput} {result : Result T E}
        → ((doing : Execution) → step (settings_of caller.setup.now) (act_of slot (single_action plain)) (in_state doing (state_at old caller.place))
        ≡ puts items (in_state doing (state_at middle caller.place)))
        → IsPlaced old caller.place → KeepsOthers caller.place old middle
        → RunsNext caller (here caller items middle before) middle new before after result
        → RunsNext caller (here caller (act_of slot (single_action plain) ∷ []) old before) old new before after result
    action_does {T} {E} {items} {middle} {new} {after} {result} comes_to placed keeps does = does_after caller _ old before _ middle new before after result
        placed keeps refl
        (λ earlier done e. by_step (settings_of caller.setup.now) (act_of slot (single_action plain)) (doing_at caller.place old before earlier) _
        (comes_to (doing_at caller.place old before earlier)) ∙ e) does

    -- one that is refused changes nothing, and is warned of
    pub action_warned : {T E : Type 0} {new : Tables} {after : CommandOutput} {result : Result T E} (fault : Fault)
        → ((code : Code) → fault ≡ Refused code → (doing : Execution)
        → step (settings_of caller.setup.now) (act_of slot (single_action plain)) (in_state doing (state_at old caller.place))
        ≡ puts (Warn code (Some slot.object) ∷ []) (in_state doing (state_at old caller.place)))
        → ((code : Code) → fault ≡ Refused code → new ≡ old) → KeepsOthers caller.place old new
        → after.failing ≡ before.failing → OnOk result (Warns fault slot.object before after)
        → RunsNext caller (here caller (act_of slot (single_action plain) ∷ []) old before) old new before after result
    action_warned {T} {E} {new} {after} {result} (Refused code) comes_to unchanged keeps same told = does_none caller _ old before new after result keeps same
        (OnOk-map result (λ warns earlier.
        warned (settings_of caller.setup.now) slot caller.place old before after earlier (act_of slot (single_action plain)) code
        (comes_to code refl (doing_at caller.place old before earlier)) warns
        ∙ ap (λ tables. doing_at caller.place tables after earlier) (sym (unchanged code refl))) told)
    action_warned {T} {E} {new} {after} {result} Memory comes_to unchanged keeps same told = does_none caller _ old before new after result keeps same
        (OnOk-map result (λ warns earlier. absurd warns) told)
