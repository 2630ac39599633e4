-- The effect of an action in a slot's body, and why it is refused.
use Rattle.std.specs.Prelude.{ℕ, Bool, true, false, List, [], ◌∷◌, Option, Some, None, Ok, Err}
use Rattle.std.specs.Option.{option_map, option_map_or, option_or}
use Rattle.std.specs.Result.{result_err}
use Rattle.plain_types.specs.declared.code.Code.{Code}
use Rattle.signature_core.specs.declared.signature.Signature.{Signature}
use Rattle.variant_value.specs.declared.value.Value.{Value}
use Rattle.term_core.specs.declared.action.SingleAction.{SingleAction}
use Rattle.term_core.specs.declared.action.SingleAction.TheVariants as e
use Rattle.term_core.specs.declared.target.Target.{Target}
use Rattle.term_core.specs.Act.{Acts, more, nothing}
use Rattle.term_core.specs.Term.{Term}
use Rattle.plain_types.specs.declared.connection_type.ConnectionType.{ConnectionType}
use Rattle.connection_list.specs.declared.connection.NewConnection.{NewConnection}
use Rattle.connection_list.specs.declared.pattern.Pattern.{Pattern}
use Rattle.object_tree.specs.Refusing.{object_refusal}
use Rattle.session_model.specs.Absence.{absence, named_absence}
use Rattle.session_model.specs.Connecting.{new_connection, pattern_with}
use Rattle.session_model.specs.declared.operation.Operation.{Operation}
use Rattle.session_model.specs.declared.operation.Operation.TheVariants as d
use Rattle.session_model.specs.Operations.{behind, operation_done, found_refusal}
use Rattle.session_model.specs.Execution.{Execution}
use Rattle.session_model.specs.Items.{Act, Delete, Emit, Item, Next, Warn, puts}
use Rattle.session_model.specs.Methods.{Found, ◌>>=◌, kinds_at, method_with, methods_of, signal_with}
use Rattle.session_model.specs.Settings.{Settings}
use Rattle.session_model.specs.State.{State}
use Rattle.session_model.specs.Targets.{all_converted, all_evaluated, evaluated, named_object_of, object_of}
use Rattle.session_model.specs.Writing.{Writing, acted_writing, written}

-- The actions of a body or of a branch, as items of an agenda.
abbrev pub acts : Acts → List Value → ℕ → ℕ → ℕ → List Item
acts nothing args self sender depth = []
acts (more action rest) args self sender depth = Act action args self sender depth ∷ acts rest args self sender depth

-- The index of an object's signal, and its arguments, converted to the kinds of its parameters.
abbrev pub emission : Settings → State → ℕ → ℕ → List Value → ℕ → Signature → List Term → Found (ℕ × List Value)
emission settings state self sender args object signal sent =
    signal_with (methods_of settings state object) signal >>= λ index.
    all_evaluated state self sender args sent >>= λ values.
    all_converted (kinds_at (methods_of settings state object) index) values >>= λ converted. Ok (index, converted)

-- The connection of an object's signal to a method of another object.
abbrev pub connection : Settings → State → ℕ → Signature → ℕ → Signature → ConnectionType → Bool → Found NewConnection
connection settings state object signal receiver method mode single =
    new_connection settings state
    object (signal_with (methods_of settings state object) signal)
    receiver (method_with (methods_of settings state receiver) method)
    mode single

-- The connections of an object to be broken, by signal, receiver and method if they are given.
abbrev pub pattern : Settings → State → ℕ → Option Signature → Option ℕ → Option Signature → Found Pattern
pattern settings state object signal receiver method =
    pattern_with
    object (option_map (signal_with (methods_of settings state object)) signal)
    receiver (λ receiver. option_map (method_with (methods_of settings state receiver)) method)

-- The write of an expression's value to a property of an object.
abbrev pub writing : State → ℕ → ℕ → List Value → ℕ → List ℕ → Term → Found Writing
writing state self sender args object name value = evaluated state self sender args value >>= acted_writing state object name

-- The operation that an action of the slot of `self` stands for, or why it is refused. Other actions are not operations.
abbrev pub act_operation : Settings → State → ℕ → ℕ → SingleAction → Option (Found Operation)
act_operation settings state self sender (e.Connect of signal to method mode unique single) = Some (
    behind (object_refusal state.forest.rows (object_of state self sender of)) (
    behind (object_refusal state.forest.rows (object_of state self sender to))
    (connection settings state (object_of state self sender of) signal (object_of state self sender to) method mode single >>= λ new.
    Ok (d.Connect new unique))))
act_operation settings state self sender (e.Disconnect of signal to method) = Some (
    behind (absence state (object_of state self sender of)) (
    behind (named_absence state (named_object_of state self sender to))
    (pattern settings state (object_of state self sender of) signal (named_object_of state self sender to) method >>= λ pattern. Ok (d.Disconnect pattern))))
act_operation settings state self sender (e.DeleteLater target) = Some (Ok (d.DeleteLater (object_of state self sender target)))
act_operation settings state self sender (e.Block of on) = Some (Ok (d.Block (object_of state self sender of) on))
act_operation settings state self sender (e.SetParent of parent) =
    Some (Ok (d.SetParent (object_of state self sender of) (named_object_of state self sender parent)))
act_operation settings state self sender _ = None

module _ (settings : Settings) (state : State) (self sender : ℕ) (args : List Value) where
  -- The number of the target object; 0 if there is none.
  abbrev object : Target → ℕ
  object target = object_of state self sender target

  -- Why an action of the slot of `self` is refused: the first of these that applies.
  abbrev pub act_refusal : SingleAction → Option Code
  act_refusal (e.Set of property value) =
      option_or (absence state (object of))
      (result_err (writing state self sender args (object of) property value))
  act_refusal (e.Emit of signal sent) =
      option_or (absence state (object of))
      (result_err (emission settings state self sender args (object of) signal sent))
  act_refusal (e.Delete target) = object_refusal state.forest.rows (object target)
  act_refusal plain = option_map_or (found_refusal state) (act_operation settings state self sender plain) None

-- Goes on with what was found. If it was not found, nothing is done.
abbrev pub with_found : {A : Type 0} → Found A → (A → Next) → Execution → Next
with_found (Ok found) next doing = next found
with_found (Err code) next doing = puts [] doing

module _ (settings : Settings) (doing : Execution) (self sender : ℕ) (args : List Value) (depth : ℕ) where
  -- The number of the target object when the action is done.
  abbrev acted_object : Target → ℕ
  acted_object target = object_of doing.state self sender target

  -- The effect of an action that is not refused.
  abbrev pub acted : SingleAction → Next
  acted (e.Set of property value) =
      with_found (writing doing.state self sender args (acted_object of) property value)
      (λ writing. written settings doing (acted_object of) depth writing) doing
  acted (e.Emit of signal sent) =
      with_found (emission settings doing.state self sender args (acted_object of) signal sent)
      (λ emitted. puts (Emit (acted_object of) emitted.0 emitted.1 depth ∷ []) doing) doing
  acted (e.Delete target) = puts (Delete (acted_object target) depth ∷ []) doing
  acted plain = option_map_or (λ found. with_found found (λ operation. puts [] (operation_done doing operation)) doing)
      (act_operation settings doing.state self sender plain) (puts [] doing)

-- A refused action warns of its code for the object whose slot runs, and does nothing else.
abbrev pub warns_or : Option Code → ℕ → Execution → Next → Next
warns_or (Some code) self doing next = puts (Warn code (Some self) ∷ []) doing
warns_or None self doing next = next

-- The branch that is taken, by the value of the test.
abbrev pub branch : Bool → Acts → Acts → Acts
branch true held failed = held
branch false held failed = failed

-- The branch that is taken is done in place of the choice.
abbrev pub chosen : Found Bool → Acts → Acts → List Value → ℕ → ℕ → ℕ → Execution → Next
chosen (Ok truth) held failed args self sender depth doing = puts (acts (branch truth held failed) args self sender depth) doing
chosen (Err code) held failed args self sender depth doing = puts (Warn code (Some self) ∷ []) doing
