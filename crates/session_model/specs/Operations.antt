-- Operations: changes of a session, by a command or an action, for which all objects have been looked up.
use Rattle.std.specs.Prelude.{◌≡◌, ◌+◌, ℕ, Bool, true, false, Option, Some, None, Ok, Err, count_by}
use Rattle.std.specs.Option.{option_map_or, option_or}
use Rattle.plain_types.specs.declared.code.Code.{Code}
use Rattle.connection_list.specs.Ends.{matches}
use Rattle.connection_list.specs.Rows.{connect_refusal}
use Rattle.event_queue.specs.declared.event.Event.TheVariants.{Deletion}
use Rattle.object_tree.specs.Refusing.{object_refusal, set_parent_refusal}
use Rattle.object_tree.specs.Rows.{row_of}
use Rattle.session_model.specs.declared.operation.Operation.{Operation}
use Rattle.session_model.specs.declared.operation.Operation.TheVariants.{Block, Connect, DeleteLater, Disconnect, SetParent}
use Rattle.session_model.specs.declared.line.Answer.{Answer}
use Rattle.session_model.specs.declared.line.Answer.TheVariants.{Number, Truth}
use Rattle.session_model.specs.Absence.{absence}
use Rattle.session_model.specs.Execution.{Execution, in_state}
use Rattle.session_model.specs.Methods.{Found}
use Rattle.session_model.specs.Posting.{enqueue_refusal}
use Rattle.session_model.specs.State.{State, with_blocking, with_connection, with_event, with_parent, without_connections}

-- If an operation makes a connection, both its ends exist and are not dying.
abbrev pub HasEnds : State → Operation → Type 0
HasEnds state (Connect new unique) = (object_refusal state.forest.rows new.sender ≡ None) × (object_refusal state.forest.rows new.receiver ≡ None)
HasEnds state _ = Unit {0}

-- Why an operation is refused: the first of these that applies. For a command no object is dying.
abbrev pub operation_refusal : State → Operation → Option Code
operation_refusal state (Connect new unique) =
    option_or (object_refusal state.forest.rows new.sender) (
    option_or (object_refusal state.forest.rows new.receiver)
    (connect_refusal state.connections new unique))
operation_refusal state (Disconnect pattern) = None
operation_refusal state (SetParent target parent) = set_parent_refusal state.forest target parent
operation_refusal state (DeleteLater target) = option_or (object_refusal state.forest.rows target) (enqueue_refusal state.queue)
operation_refusal state (Block target on) = absence state target

-- Why an operation is refused, or why it was not found.
abbrev pub found_refusal : State → Found Operation → Option Code
found_refusal state (Ok operation) = operation_refusal state operation
found_refusal state (Err code) = Some code

-- What is found, unless there is a refusal first.
abbrev pub behind : {A : Type 0} → Option Code → Found A → Found A
behind None found = found
behind (Some code) found = Err code

-- The session after an operation.
abbrev pub with_operation : State → Operation → State
with_operation state (Connect new unique) = with_connection state new
with_operation state (Disconnect pattern) = without_connections state (matches pattern)
with_operation state (SetParent target parent) = with_parent state target parent
with_operation state (DeleteLater target) = with_event state (Deletion target)
with_operation state (Block target on) = with_blocking state target on

-- Whether the signals of an object are blocked.
abbrev pub is_blocked : State → ℕ → Bool
is_blocked state target = option_map_or (λ row. row.blocked) (row_of state.forest.rows target) false

-- The reply of a command that is this operation.
abbrev pub operation_answer : State → Operation → Answer
operation_answer state (Connect new unique) = Number (state.connections.last_number + 1)
operation_answer state (Disconnect pattern) = Number (count_by (matches pattern) state.connections.rows)
operation_answer state (Block target on) = Truth (is_blocked state target)
operation_answer state _ = Truth true

-- Does an operation during a command.
unfoldable pub operation_done : Execution → Operation → Execution
operation_done doing operation = in_state doing (with_operation doing.state operation)
