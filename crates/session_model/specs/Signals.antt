-- The effects of the commands for signals and slots that are not refused.
use Rattle.std.specs.Prelude.{ℕ, Bool, true, false, List, [], ◌∷◌, Option, Some, None, Ok, Err, if◌then◌else◌}
use Rattle.std.specs.List.{list_any}
use Rattle.std.specs.Option.{option_and_then, option_map}
use Rattle.std.specs.Result.{result_unwrap_or}
use Rattle.isolation.specs.Machine.{Effect}
use Rattle.plain_types.specs.declared.code.Code.TheVariants.{BadValue, Limit, UniqueFunctor}
use Rattle.serde_json.specs.Data.{Data}
use Rattle.signature_core.specs.declared.kind.Kind.{Kind}
use Rattle.signature_core.specs.Reading.{signature_of}
use Rattle.variant_value.specs.declared.value.Value.{Value}
use Rattle.variant_value.specs.Values.{value_of}
use Rattle.class_table.specs.Lookup.{method_number}
use Rattle.plain_types.specs.declared.connection_type.ConnectionType.{ConnectionType}
use Rattle.plain_types.specs.declared.callee.Callee.TheVariants.{Method}
use Rattle.event_queue.specs.declared.event.Priority.{Priority}
use Rattle.event_queue.specs.declared.event.Event.TheVariants.{Call}
use Rattle.event_queue.specs.declared.event.QueuedCall.{QueuedCall}
use Rattle.connection_list.specs.declared.connection.NewConnection.{NewConnection}
use Rattle.connection_list.specs.declared.pattern.Pattern.{Pattern}
use Rattle.connection_list.specs.Rows.{has_number}
use Rattle.object_tree.specs.Refusing.{object_refusal}
use Rattle.session_model.specs.declared.line.Answer.TheVariants as a
use Rattle.session_model.specs.declared.line.Line.{Line}
use Rattle.session_model.specs.declared.post.Post.{Post}
use Rattle.session_model.specs.Agenda.{with_turn}
use Rattle.session_model.specs.Connecting.{new_connection, new_functor_connection, pattern_with}
use Rattle.session_model.specs.declared.operation.Operation.{Operation}
use Rattle.session_model.specs.declared.operation.Operation.TheVariants as d
use Rattle.session_model.specs.Absence.{absence, named_absence}
use Rattle.session_model.specs.Operations.{behind, operation_answer, with_operation}
use Rattle.session_model.specs.Execution.{begun}
use Rattle.session_model.specs.Effects.{does_next, refuses, replies}
use Rattle.session_model.specs.Functors.{functor_named}
use Rattle.session_model.specs.Items.{Emit, Next, Run, puts}
use Rattle.session_model.specs.Methods.{Found, ◌>>=◌, is_signal_at, kinds_at, method_named, methods_of, signal_named}
use Rattle.session_model.specs.Settings.{Settings}
use Rattle.session_model.specs.Posting.{is_queued}
use Rattle.session_model.specs.State.{State, with_event, without_connections}

-- The connection that a command asks for.
abbrev pub asked_connection : Settings → State → ℕ → List ℕ → ℕ → List ℕ → ConnectionType → Bool → Found NewConnection
asked_connection settings state sender signal receiver method mode single =
    new_connection settings state
    sender (signal_named (methods_of settings state sender) signal)
    receiver (method_named (methods_of settings state receiver) method)
    mode single

-- The connection to a functor that a command asks for.
abbrev pub asked_functor_connection : Settings → State → ℕ → List ℕ → ℕ → List ℕ → ConnectionType → Bool → Found NewConnection
asked_functor_connection settings state sender signal context functor mode single =
    new_functor_connection settings state
    sender (signal_named (methods_of settings state sender) signal)
    context (functor_named settings functor)
    mode single

-- The operation that makes the connection, or why there is none. For a command no object is dying.
abbrev pub asked_connect : Settings → State → ℕ → List ℕ → ℕ → List ℕ → ConnectionType → Bool → Bool → Found Operation
asked_connect settings state sender signal receiver method mode unique single =
    behind (object_refusal state.forest.rows sender) (
    behind (object_refusal state.forest.rows receiver)
    (asked_connection settings state sender signal receiver method mode single >>= λ new. Ok (d.Connect new unique)))

abbrev pub asked_connect_functor : Settings → State → ℕ → List ℕ → ℕ → List ℕ → ConnectionType → Bool → Bool → Found Operation
asked_connect_functor settings state sender signal context functor mode unique single =
    behind (object_refusal state.forest.rows sender) (
    behind (object_refusal state.forest.rows context)
    (asked_functor_connection settings state sender signal context functor mode single >>= λ new. if unique then Err UniqueFunctor
    else Ok (d.Connect new false)))

-- Breaks the connection with this number. The reply is whether it existed.
abbrev pub disconnects_one : State → ℕ → Effect State Line Post
disconnects_one state number = replies (without_connections state (has_number number)) (a.Truth (list_any (has_number number) state.connections.rows))

-- The pattern of the connections that a command breaks.
abbrev pub asked_pattern : Settings → State → ℕ → Option (List ℕ) → Option ℕ → Option (List ℕ) → Found Pattern
asked_pattern settings state sender signal receiver method =
    pattern_with
    sender (option_map (signal_named (methods_of settings state sender)) signal)
    receiver (λ object. option_map (method_named (methods_of settings state object)) method)

abbrev pub asked_disconnect : Settings → State → ℕ → Option (List ℕ) → Option ℕ → Option (List ℕ) → Found Operation
asked_disconnect settings state sender signal receiver method =
    behind (absence state sender) (
    behind (named_absence state receiver)
    (asked_pattern settings state sender signal receiver method >>= λ pattern. Ok (d.Disconnect pattern)))

-- Does an operation that was found, and replies with its answer.
abbrev pub does_found : State → Found Operation → Effect State Line Post
does_found state (Ok operation) = replies (with_operation state operation) (operation_answer state operation)
does_found state (Err code) = refuses state code

-- A value before other values. Of two faults, a bad value is reported before a text that is too long.
abbrev pub with_value : Found Value → Found (List Value) → Found (List Value)
with_value (Ok value) (Ok values) = Ok (value ∷ values)
with_value (Ok value) (Err code) = Err code
with_value (Err code) (Ok values) = Err code
with_value (Err Limit) (Err code) = Err code
with_value (Err other) (Err code) = Err other

-- One value for each kind, read from JSON as that kind.
abbrev pub values_of : List Kind → List Data → Found (List Value)
values_of [] [] = Ok []
values_of (kind ∷ kinds) (json ∷ rest) = with_value (value_of kind json) (values_of kinds rest)
values_of _ _ = Err BadValue

-- The index of the object's method that a text names, if the object has it.
abbrev pub asked_method : Settings → State → ℕ → List ℕ → Option ℕ
asked_method settings state target text = option_and_then (λ signature. method_number signature (methods_of settings state target)) (signature_of text)

-- The arguments for a call of an object's method.
abbrev pub asked_values : Settings → State → ℕ → ℕ → List Data → Found (List Value)
asked_values settings state target index args = values_of (kinds_at (methods_of settings state target) index) args

-- Sends a signal, or runs a slot, which takes a turn and has no sender.
abbrev pub invoked : Settings → State → ℕ → ℕ → List Value → Next
invoked settings state target index values =
    if is_signal_at (methods_of settings state target) index then puts (Emit target index values 0 ∷ []) (begun settings state)
    else with_turn (begun settings state) (puts (Run target index 0 values 0 ∷ []))

-- The queued call of a method. It has no sender.
abbrev pub invoked_call : ℕ → ℕ → List Value → Priority → QueuedCall
invoked_call target index values priority = record {
  object = target;
  callee = Method index;
  sender = 0;
  connection = 0;
  priority = priority;
  args = values;
}

-- Queues the call of a method as an event.
abbrev pub invoked_later : State → ℕ → ℕ → List Value → Priority → Effect State Line Post
invoked_later state target index values priority = replies (with_event state (Call (invoked_call target index values priority))) (a.Truth true)

-- Invokes a method. The reply at the end is true, or false if the object has no such method.
abbrev pub invokes : Settings → State → ℕ → List Data → ConnectionType → Priority → Option ℕ → Effect State Line Post
invokes settings state target args mode priority (Some index) =
    let values = result_unwrap_or (asked_values settings state target index args) [] in
    if is_queued mode then invoked_later state target index values priority
    else does_next settings (invoked settings state target index values) (a.Truth true)
invokes settings state target args mode priority None = replies state (a.Truth false)
