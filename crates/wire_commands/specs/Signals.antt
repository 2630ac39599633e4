-- The commands of signals and slots.
use Rattle.std.specs.Prelude.{ℕ, Bool, List, [], ◌∷◌, Option, Some, None, codes}
use Rattle.plain_types.specs.declared.connection_type.ConnectionType.{ConnectionType}
use Rattle.json_reading.specs.Fields.{◌>>=◌}
use Rattle.session_model.specs.Asked.{Asked, Ask, Connect, ConnectFunctor, DisconnectOne, Disconnect, Invoke}
use Rattle.session_model.specs.declared.query.Query.TheVariants.{Connections}
use Rattle.wire_commands.specs.declared.keys.Holds.TheVariants.{Name, Number, Text, Truth, Mode, Priority, List as AList}
use Rattle.wire_commands.specs.Form.{Form}
use Rattle.wire_commands.specs.Held.{Held, absent, number, number_of, text_of, truth_of, mode_of, priority_for, list_of}
use Rattle.wire_commands.specs.Keys.{Key, needed, optional}

-- A signal of a sender, a method or a functor of another object, and how its calls are made.
abbrev pub connection_of : (ℕ → List ℕ → ℕ → List ℕ → ConnectionType → Bool → Bool → Asked) → List Held → Option Asked
connection_of asks (sender ∷ signal ∷ other ∷ callee ∷ calls ∷ unique ∷ single ∷ []) = do
  from ← number_of sender
  sent ← text_of signal
  to ← number_of other
  called ← text_of callee
  Some (asks from sent to called (mode_of calls) (truth_of unique) (truth_of single))
connection_of asks held = None

-- How the calls of a connection are made.
abbrev pub calling : List Key
calling = optional (codes "type") Mode ∷ optional (codes "unique") Truth ∷ optional (codes "single") Truth ∷ []

-- `connect` connects a signal of the sender to a method of the receiver.
abbrev pub connect : Form
connect = record {
  word = codes "connect";
  keys = needed (codes "sender") Number ∷ needed (codes "signal") Text ∷ needed (codes "receiver") Number ∷ needed (codes "method") Text ∷ calling;
  asks = connection_of Connect;
}

-- `connectFunctor` connects a signal of the sender to a functor, for a context object.
abbrev pub connect_functor : Form
connect_functor = record {
  word = codes "connectFunctor";
  keys = needed (codes "sender") Number ∷ needed (codes "signal") Text ∷ needed (codes "context") Number ∷ needed (codes "functor") Name ∷ calling;
  asks = connection_of ConnectFunctor;
}

-- `disconnect` breaks the connection with a number, or those of a sender that match. A method is named only together
-- with a receiver.
abbrev pub disconnect_of : List Held → Option Asked
disconnect_of (number connection ∷ absent ∷ absent ∷ absent ∷ absent ∷ []) = Some (DisconnectOne connection)
disconnect_of (absent ∷ number sender ∷ signal ∷ absent ∷ absent ∷ []) = Some (Disconnect sender (text_of signal) None None)
disconnect_of (absent ∷ number sender ∷ signal ∷ number receiver ∷ method ∷ []) = Some (Disconnect sender (text_of signal) (Some receiver) (text_of method))
disconnect_of held = None

abbrev pub disconnect : Form
disconnect = record {
  word = codes "disconnect";
  keys = optional (codes "connection") Number ∷ optional (codes "sender") Number ∷
      optional (codes "signal") Text ∷ optional (codes "receiver") Number ∷ optional (codes "method") Text ∷ [];
  asks = disconnect_of;
}

-- `invoke` calls a slot or sends a signal of an object, at once or queued with a priority.
abbrev pub invoke_of : List Held → Option Asked
invoke_of (target ∷ method ∷ args ∷ calls ∷ soon ∷ []) = do
  to ← number_of target
  priority ← priority_for (mode_of calls) soon
  called ← text_of method
  given ← list_of args
  Some (Invoke to called given (mode_of calls) priority)
invoke_of held = None

abbrev pub invoke : Form
invoke = record {
  word = codes "invoke";
  keys = needed (codes "object") Number ∷ needed (codes "method") Text ∷
      needed (codes "args") AList ∷ optional (codes "type") Mode ∷ optional (codes "priority") Priority ∷ [];
  asks = invoke_of;
}

-- `connections` lists connections.
abbrev pub connections_of : List Held → Option Asked
connections_of (target ∷ after ∷ []) = Some (Ask (Connections (number_of target) (number_of after)))
connections_of held = None

abbrev pub connections : Form
connections = record { word = codes "connections"; keys = optional (codes "object") Number ∷ optional (codes "after") Number ∷ []; asks = connections_of }

-- The forms of these commands, except `invoke`.
unfoldable pub forms : List Form
forms = connect ∷ connect_functor ∷ disconnect ∷ connections ∷ []
