-- How a session does its agenda, item by item.
use Rattle.std.specs.Prelude.{◌+◌, ◌==◌, ◌&&◌, ℕ, Bool, false, not, List, [], ◌∷◌, ◌++◌, map, filter}
use Rattle.std.specs.Prelude.{find, take, length, nat_le, Option, Some, None, if◌then◌else◌}
use Rattle.std.specs.Option.{option_map_or}
use Rattle.plain_types.specs.declared.code.Code.TheVariants.{Limit}
use Rattle.variant_value.specs.declared.value.Value.{Value}
use Rattle.binding_values.specs.declared.property.BindingError.{BindingError}
use Rattle.property_store.specs.declared.property.Property.{Property}
use Rattle.term_core.specs.Act.{acts_of, single_action, when}
use Rattle.term_evaluation.specs.Stating.{after, with_state}
use Rattle.class_table.specs.declared.class.Method.{Method}
use Rattle.class_table.specs.Lookup.{method_text}
use Rattle.plain_types.specs.declared.callee.Callee.{Callee}
use Rattle.plain_types.specs.declared.callee.Callee.TheVariants as callee
use Rattle.connection_list.specs.declared.connection.Connection.{Connection}
use Rattle.connection_list.specs.Ends.{calls}
use Rattle.event_queue.specs.declared.event.Event.{Event}
use Rattle.event_queue.specs.declared.event.Event.TheVariants as event
use Rattle.event_queue.specs.declared.event.QueuedCall.{QueuedCall}
use Rattle.event_queue.specs.declared.event.Priority.TheVariants.{Normal}
use Rattle.event_queue.specs.Queue.{has_room}
use Rattle.connection_list.specs.Rows.{has_number}
use Rattle.object_tree.specs.declared.row.Row.{Row}
use Rattle.object_tree.specs.Rows.{children, row_of, is_same}
use Rattle.stored_slots.specs.declared.functor.Functor.{Functor}
use Rattle.session_model.specs.declared.call.TheConstants.{DESTROYED, NESTED_SIGNALS}
use Rattle.session_model.specs.declared.line.Answer.TheVariants as a
use Rattle.session_model.specs.declared.line.Line.{Line}
use Rattle.session_model.specs.declared.line.Line.TheVariants as line
use Rattle.session_model.specs.Arriving.{posts_of}
use Rattle.session_model.specs.Acts.{act_refusal, acted, acts, chosen, warns_or}
use Rattle.session_model.specs.Execution.{Execution, dying, first_taken, lost, enqueued, posting}
use Rattle.session_model.specs.Execution.{severed, single_shot_broken, stepped, line_told, turn_taken, used_up}
use Rattle.session_model.specs.Items.{Act, Call, Detach, Delete, Emit, Remove, Item, DeleteChild, Next}
use Rattle.session_model.specs.Items.{Reply, ReplySpun, Run, RunFunctor, Spin, Warn, WarnOf, puts}
use Rattle.session_model.specs.Functors.{functor_at}
use Rattle.session_model.specs.Methods.{method_at}
use Rattle.session_model.specs.Posting.{is_queued, spin_of}
use Rattle.session_model.specs.Settings.{Settings}
use Rattle.session_model.specs.Showing.{comes_to, property_at}
use Rattle.session_model.specs.State.{State, functor_state, without_object}
use Rattle.session_model.specs.Targets.{truth_evaluated}

-- Whether an existing object is not dying.
abbrev pub is_living : Row → Bool
is_living row = not row.dying

-- Whether an object with this number exists and is not dying.
abbrev pub lives : Execution → ℕ → Bool
lives doing number = option_map_or is_living (row_of doing.state.forest.rows number) false

-- Whether the object exists, is not dying, and has this parent.
abbrev pub lives_below : Execution → ℕ → ℕ → Bool
lives_below doing parent number = option_map_or (λ row. is_living row && is_same row.parent (Some parent)) (row_of doing.state.forest.rows number) false

-- The deletions of an object's children.
unfoldable pub delete_children : Execution → ℕ → ℕ → List Item
delete_children doing target depth = map (λ child. DeleteChild target child depth) (children doing.state.forest.rows (Some target))

-- The calls of a signal's connections, in the order in which they were made.
unfoldable pub calls_of : Execution → ℕ → ℕ → List Value → ℕ → List Item
calls_of doing target signal args depth = map (λ row. Call row.number args depth) (filter (calls target signal) doing.state.connections.rows)

-- Whether a signal is held back because its object's signals are blocked. `destroyed()` never is.
abbrev pub is_held_back : ℕ → Row → Bool
is_held_back signal row = row.blocked && not (signal == DESTROYED)

-- A signal that is sent is posted under each name under which it is published, and calls what is connected to it. A
-- signal that is held back, or nested too deep, does neither.
abbrev pub emitted : Settings → Execution → ℕ → ℕ → List Value → ℕ → Row → Next
emitted settings doing target signal args depth row =
    if is_held_back signal row then puts [] doing
    else (if nat_le NESTED_SIGNALS depth then puts (Warn Limit (Some target) ∷ []) doing
    else puts (calls_of doing target signal args depth) (posting doing (posts_of settings.classes doing.state target signal args)))

-- Takes a turn and goes on. If no turn is left, nothing is done.
abbrev pub with_turn : Execution → (Execution → Next) → Next
with_turn doing next = if doing.turns == 0 then puts [] (used_up doing) else next (turn_taken doing)

-- The connection with this number, if it exists.
abbrev pub connection_of : Execution → ℕ → Option Connection
connection_of doing number = find (has_number number) doing.state.connections.rows

-- The call of a method: a signal is sent on, and a slot is run.
abbrev pub method_items : ℕ → ℕ → ℕ → List Value → ℕ → ℕ → Method → List Item
method_items target index sender args sent_at run_at method =
    if method.is_signal then Emit target index args sent_at ∷ []
    else Run target index sender args run_at ∷ []

-- A call becomes an event. It is lost if the queue is full.
abbrev pub queued : Execution → QueuedCall → Execution
queued doing call = if has_room doing.state.queue then enqueued doing (event.Call call) else lost doing

-- The queued call of a connection's callee.
abbrev pub queued_call : Connection → Callee → List Value → QueuedCall
queued_call connection callee args = record {
  object = connection.receiver;
  callee = callee;
  sender = connection.sender;
  connection = connection.number;
  priority = Normal;
  args = args;
}

-- Calls a method, with as many of the first arguments as it has parameters: later, or at once. A signal is then sent one
-- level deeper.
abbrev pub method_called : Connection → ℕ → List Value → ℕ → Execution → Method → Next
method_called connection index args depth doing method =
    let given = take (length method.signature.kinds) args in
    if is_queued connection.mode
    then puts [] (queued doing (queued_call connection (callee.Method index) given))
    else puts (method_items connection.receiver index connection.sender given (depth + 1) depth method) doing

-- Calls a functor, whose context object is the receiver, with as many of the first arguments as it has parameters.
abbrev pub functor_called : Connection → ℕ → List Value → ℕ → Execution → Functor → Next
functor_called connection index args depth doing functor =
    let given = take (length functor.params) args in
    if is_queued connection.mode
    then puts [] (queued doing (queued_call connection (callee.Functor index) given))
    else puts (RunFunctor connection.receiver index connection.sender connection.number given depth ∷ []) doing

-- Calls the callee of a connection.
abbrev pub callee_called : Settings → Connection → List Value → ℕ → Execution → Callee → Next
callee_called settings connection args depth doing (callee.Method index) =
    option_map_or (method_called connection index args depth doing) (method_at settings doing.state connection.receiver index) (puts [] doing)
callee_called settings connection args depth doing (callee.Functor index) =
    option_map_or (functor_called connection index args depth doing) (functor_at settings index) (puts [] doing)

-- The call of a connection. A single-shot connection is broken first.
abbrev pub called : Settings → Connection → List Value → ℕ → Execution → Next
called settings connection args depth doing = callee_called settings connection args depth (single_shot_broken doing connection) connection.callee

-- The items of an event. All that it does is done at depth 0.
abbrev pub call_items : Settings → State → QueuedCall → Callee → List Item
call_items settings state call (callee.Method index) =
    option_map_or (method_items call.object index call.sender call.args 0 0) (method_at settings state call.object index) []
call_items settings state call (callee.Functor index) = RunFunctor call.object index call.sender call.connection call.args 0 ∷ []

abbrev pub event_items : Settings → State → Event → List Item
event_items settings state (event.Call call) = call_items settings state call call.callee
event_items settings state (event.Deletion target) = Delete target 0 ∷ []

-- Takes the first event and then the next ones, as long as there are any and a turn is left for each.
abbrev pub spun : Settings → Execution → List Event → Next
spun settings doing [] = puts [] doing
spun settings doing (event ∷ later) = with_turn doing (λ doing. puts (event_items settings doing.state event ++ Spin ∷ []) (first_taken doing))

-- The line that reports a call.
abbrev pub call_line : Method → ℕ → ℕ → List Value → Line
call_line method target sender args = line.Call (record { method = method_text method; object = target; sender = sender; args = args })

-- The line that reports the call of a functor, by its name.
abbrev pub functor_line : Functor → ℕ → ℕ → List Value → Line
functor_line functor target sender args = line.Call (record { method = functor.name; object = target; sender = sender; args = args })

-- The call of a slot is reported, and then its body is done one level deeper.
abbrev pub ran : Execution → ℕ → ℕ → List Value → ℕ → Method → Next
ran doing target sender args depth method =
    puts (acts (acts_of method.body.actions) args target sender (depth + 1)) (line_told doing (call_line method target sender args))

-- The call of a functor is reported, and then its body is done for its context object, with the state of its connection.
-- The next state is stored first.
abbrev pub functor_ran : Execution → ℕ → ℕ → ℕ → List Value → ℕ → Functor → Next
functor_ran doing target sender connection args depth functor =
    let state = functor_state doing.state connection in
    puts (acts (acts_of (with_state state functor.body).actions) args target sender (depth + 1))
    (stepped (line_told doing (functor_line functor target sender args)) connection (after functor.next state args))

-- The warning of a bound property's error, by the property's name.
abbrev pub binding_line : Settings → State → Property → BindingError → Line
binding_line settings state at error =
    line.BindingWarning at.object (option_map_or (λ property. property.name) (property_at settings state at.object at.number) []) error

-- The effect of an item.
abbrev pub step : Settings → Item → Execution → Next
step settings (Emit target signal args depth) doing =
    option_map_or (emitted settings doing target signal args depth) (row_of doing.state.forest.rows target) (puts [] doing)
step settings (Call number args depth) doing =
    option_map_or (λ connection. with_turn doing (called settings connection args depth)) (connection_of doing number) (puts [] doing)
step settings (Run target method sender args depth) doing =
    option_map_or (ran doing target sender args depth) (method_at settings doing.state target method) (puts [] doing)
step settings (RunFunctor target functor sender connection args depth) doing =
    option_map_or (functor_ran doing target sender connection args depth) (functor_at settings functor) (puts [] doing)
step settings (Act (single_action plain) args self sender depth) doing =
    warns_or (act_refusal settings doing.state self sender args plain) self doing (acted settings doing self sender args depth plain)
step settings (Act (when test held failed) args self sender depth) doing =
    chosen (truth_evaluated doing.state self sender args test) held failed args self sender depth doing
step settings (Warn code object) doing = puts [] (line_told doing (line.Warning code object))
step settings (WarnOf at error) doing = puts [] (line_told doing (binding_line settings doing.state at error))
step settings (Delete target depth) doing = if lives doing target
    then puts (Emit target DESTROYED [] depth ∷ Detach target depth ∷ Remove target depth ∷ []) (dying doing target) else puts [] doing
step settings (Detach target depth) doing = puts (delete_children doing target depth) (severed doing target)
step settings (DeleteChild parent child depth) doing = if lives_below doing parent child then puts (Delete child depth ∷ []) doing else puts [] doing
step settings (Remove target depth) doing = comes_to settings doing depth (without_object doing.state target) None
step settings Spin doing = spun settings doing doing.state.queue.events
step settings (Reply answer) doing = puts [] (line_told doing (line.Reply answer))
step settings ReplySpun doing = puts [] (line_told doing (line.Reply (a.Spun (spin_of doing))))
