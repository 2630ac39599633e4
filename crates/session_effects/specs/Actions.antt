-- The effects of actions.
use Rattle.std.specs.Prelude.{◌≡◌, ℕ, Bool, true, false, List, [], ◌∷◌, Some, Result, Ok, Err}
use Rattle.plain_types.specs.declared.fault.Fault.{Fault}
use Rattle.plain_types.specs.declared.fault.Fault.TheVariants.{Refused, Memory}
use Rattle.variant_value.specs.declared.value.Value.{Value}
use Rattle.term_core.specs.declared.action.SingleAction.{SingleAction}
use Rattle.term_core.specs.declared.action.SingleAction.TheVariants as e
use Rattle.term_core.specs.Act as term
use Rattle.term_core.specs.Act.{single_action}
use Rattle.session_model.specs.declared.operation.Operation.{Operation}
use Rattle.session_model.specs.Acts.{act_operation}
use Rattle.session_model.specs.Agenda.{step}
use Rattle.session_model.specs.Operations.{HasEnds}
use Rattle.session_model.specs.Execution.{Execution, in_state}
use Rattle.session_model.specs.Items.{Act, Item, Warn, puts}
use Rattle.session_model.specs.Methods.{Found}
use Rattle.session_tables.specs.declared.tables.Tables.{Tables}
use Rattle.session_tables.specs.Tables.{state_at}
pub use Rattle.session_tables.specs.Tables.{KeepsOthers}
use Rattle.session_effects.specs.declared.session_context.SessionContext.{SessionContext}
use Rattle.session_effects.specs.declared.effects.Emission.{Emission}
use Rattle.session_effects.specs.declared.slot.Slot.{Slot}
use Rattle.session_effects.specs.Setup.{settings_of}

-- An action in the body of a slot, as an item.
abbrev pub act_of : Slot → term.Act → Item
act_of slot action = Act action slot.args.now slot.object slot.sender slot.depth

-- Whether a single action may send a signal or delete an object.
abbrev pub is_nested : SingleAction → Bool
is_nested (e.Set of property value) = true
is_nested (e.Emit of signal args) = true
is_nested (e.Delete target) = true
is_nested _ = false

-- The call has found exactly the operation of an action, with its ends, or has its refusal, unless memory ran out.
abbrev pub FindsOperation : SessionContext → Slot → SingleAction → Tables → Result Operation Fault → Type 0
FindsOperation caller slot plain tables (Ok operation) =
    (act_operation (settings_of caller.setup.now) (state_at tables caller.place) slot.object slot.sender plain ≡ Some (Ok operation))
    × HasEnds (state_at tables caller.place) operation
FindsOperation caller slot plain tables (Err (Refused code)) =
    act_operation (settings_of caller.setup.now) (state_at tables caller.place) slot.object slot.sender plain ≡ Some (Err code)
FindsOperation caller slot plain tables (Err Memory) = Unit {0}

-- An action has the effect of these items and tables, which the call returns, or of a warning if it is refused. This
-- holds for all earlier lines and any number of turns.
abbrev pub Tries : {T : Type 0} → SessionContext → Slot → SingleAction → Tables → (T → List Item) → Tables → Result T Fault → Type 0
Tries caller slot plain old items new (Ok value) = (doing : Execution) →
    step (settings_of caller.setup.now) (act_of slot (single_action plain)) (in_state doing (state_at old caller.place))
    ≡ puts (items value) (in_state doing (state_at new caller.place))
Tries caller slot plain old items new (Err (Refused code)) = (doing : Execution) →
    step (settings_of caller.setup.now) (act_of slot (single_action plain)) (in_state doing (state_at old caller.place))
    ≡ puts (Warn code (Some slot.object) ∷ []) (in_state doing (state_at old caller.place))
Tries caller slot plain old items new (Err Memory) = Unit {0}

-- The call has found exactly this emission of the object, or has its refusal, unless memory ran out.
abbrev pub IsSent : ℕ → Found (ℕ × List Value) → Result Emission Fault → Type 0
IsSent object wanted (Ok sent) = (sent.object ≡ object) × (wanted ≡ Ok (sent.signal, sent.args))
IsSent object wanted (Err (Refused code)) = wanted ≡ Err code
IsSent object wanted (Err Memory) = Unit {0}
