-- The state of a session.
use Rattle.std.specs.Prelude.{◌≡◌, ◌+◌, ℕ, Bool, false, List, [], Option, Some, IsFalse, IsTrue, bytes_eq, map, option_map, if◌then◌else◌, unwrap_or}
use Rattle.std.specs.List.{All}
use Rattle.binding_values.specs.declared.property.BindingError.{BindingError}
use Rattle.property_store.specs.declared.property.Property.{Property as At}
use Rattle.binding_values.specs.Graph as graph
use Rattle.binding_values.specs.Graph.{Graph, is_open, no_graph, value_in}
use Rattle.binding_values.specs.Stored.{is_bindable}
use Rattle.class_table.specs.declared.class.Class.{Class}
use Rattle.class_table.specs.declared.class.Property.{Property}
use Rattle.class_table.specs.Lookup.{properties}
use Rattle.connection_list.specs.declared.connection.Connection.{Connection}
use Rattle.connection_list.specs.declared.connection.NewConnection.{NewConnection}
use Rattle.connection_list.specs.Ends.{touches}
use Rattle.connection_list.specs.Rows as list
use Rattle.connection_list.specs.Rows.{Rows, connected, no_rows, without}
use Rattle.event_queue.specs.declared.event.Event.{Event}
use Rattle.event_queue.specs.declared.event.Event.TheVariants.{Call}
use Rattle.event_queue.specs.declared.event.QueuedCall.{QueuedCall}
use Rattle.event_queue.specs.Queue as events
use Rattle.event_queue.specs.Queue.{Queue, dropped, empty_queue, has_room, object_of, enqueued, taken}
use Rattle.object_tree.specs.Forest as tree
use Rattle.object_tree.specs.Forest.{Forest, empty_forest}
use Rattle.object_tree.specs.Rows.{is_there, numbers}
use Rattle.object_tree.specs.Changes.{added, reparented, removed, with_blocked}
use Rattle.property_store.specs.declared.field.Field.{Field}
use Rattle.property_store.specs.Store as stored
use Rattle.property_store.specs.Store.{Properties, Store, changed, properties_of, value_at}
use Rattle.publish_board.specs.Desk as board
use Rattle.publish_board.specs.Desk.{Desk, no_desk, without_object as withdrawn}
use Rattle.variant_value.specs.declared.value.Value.{Value}
use Rattle.variant_value.specs.declared.value.Value.TheVariants as v
use Rattle.term_core.specs.Term.{Term}
use Rattle.session_model.specs.declared.call.TheConstants.{OBJECT_NAME}

pub record State : Type 0 where
  -- The objects in their trees.
  pub forest : Forest
  -- The properties of each object, with their stored values.
  pub store : Store
  -- The bindings, and the open groups.
  pub graph : Graph
  -- The connections between objects.
  pub connections : Rows
  -- The queued events.
  pub queue : Queue
  -- Its publications and joins.
  pub desk : Desk

-- The state of a session that has had no command.
abbrev pub empty : State
empty = record { forest = empty_forest; store = []; graph = no_graph; connections = no_rows; queue = empty_queue; desk = no_desk }

-- A property of a class, as an object has it.
abbrev pub field_of : Property → Field
field_of property = record { name = property.name; kind = property.kind; bindable = property.bindable }

-- The properties of an object of a class, by number.
abbrev pub fields_of : List Class → ℕ → List Field
fields_of classes class = map field_of (properties classes class)

-- The value that a declared property shows, bound or not, and its error. Invalid if there is no property with this
-- number.
abbrev pub shown : State → ℕ → ℕ → Value × Option BindingError
shown state object number = value_in state.store state.graph (record { object = object; number = number })

-- The graph without the values from before a group, unless a group is open.
abbrev pub closed : Graph → Graph
closed graph = if is_open graph then graph else record graph { last = [] }

-- The title of an object: its property `objectName`.
abbrev pub title_of : State → ℕ → Value
title_of state number = (shown state number OBJECT_NAME).0

-- Whether a title is this text.
abbrev pub is_text : List ℕ → Value → Bool
is_text wanted (v.Text text) = bytes_eq text wanted
is_text wanted _ = false

-- The state with a new object, whose properties have their defaults.
abbrev pub with_object : List Class → State → Option ℕ → ℕ → State
with_object classes state parent class = record state {
  forest = added state.forest parent class;
  store = stored.added state.store (state.forest.last_number + 1) (fields_of classes class);
}

-- The state in which an object has another parent.
abbrev pub with_parent : State → ℕ → Option ℕ → State
with_parent state number parent = record state { forest = reparented state.forest number parent }

-- The state in which the properties of an object are changed.
abbrev pub with_properties : State → ℕ → (Properties → Properties) → State
with_properties state number change = record state { store = changed change number state.store }

-- The state without an object and its bindings. Its children have become roots.
abbrev pub without_object : State → ℕ → State
without_object state number = record state {
  forest = removed state.forest number;
  store = stored.without number state.store;
  graph = graph.without_object number state.graph;
}

-- The state without a property's binding.
abbrev pub without_binding : State → At → State
without_binding state at = record state { graph = graph.unbound state.graph at }

-- The state in which a property is bound to an expression, which replaces any other binding of it.
abbrev pub with_binding : State → At → Term → State
with_binding state at term = record state { graph = graph.bound state.graph at term }

-- The state in which the value that a property shows is stored, and its binding is removed.
abbrev pub with_binding_taken : State → At → State
with_binding_taken state at = record state { store = graph.taken state.store state.graph at; graph = graph.unbound state.graph at }

-- The state with another open group. What properties show when the outermost one begins is kept.
abbrev pub with_group : State → State
with_group state = record state { graph = graph.begun state.store state.graph }

-- The state with one open group less. With the last one, what was kept is dropped.
abbrev pub without_group : State → State
without_group state = record state { graph = closed (graph.ended state.graph) }

-- The state with another connection, which has the next number.
abbrev pub with_connection : State → NewConnection → State
with_connection state new = record state { connections = connected state.connections new }

-- The state of the functor of the connection with this number; 0 if the connection is gone.
abbrev pub functor_state : State → ℕ → ℕ
functor_state state number = unwrap_or (list.state_of number state.connections) 0

-- The state in which the functor of the connection with this number has another state, if the connection exists.
abbrev pub with_functor_state : State → ℕ → ℕ → State
with_functor_state state number next = record state { connections = list.with_state number next state.connections }

-- The state without the connections that pass a test.
abbrev pub without_connections : State → (Connection → Bool) → State
without_connections state test = record state { connections = without test state.connections }

-- The state with another event, in order among the others.
abbrev pub with_event : State → Event → State
with_event state event = record state { queue = enqueued state.queue event }

-- The state without the events that name an object.
abbrev pub without_events : State → ℕ → State
without_events state number = record state { queue = dropped number state.queue }

-- The state without the first event.
abbrev pub without_first : State → State
without_first state = record state { queue = taken state.queue }

-- The state in which another lost call is counted.
abbrev pub with_lost : State → State
with_lost state = record state { queue = events.with_lost state.queue }

-- The state with another call among its events. If the queue is full, the call is lost.
abbrev pub with_call : State → QueuedCall → State
with_call state call = if has_room state.queue then with_event state (Call call) else with_lost state

-- The state in which the signals of an object are blocked, or not.
abbrev pub with_blocking : State → ℕ → Bool → State
with_blocking state number on = record state { forest = with_blocked state.forest number on }

-- The state with other publications and joins.
abbrev pub with_desk : State → Desk → State
with_desk state desk = record state { desk = desk }

-- The state without an object's publications and the joins that call it.
abbrev pub without_rows_of : State → ℕ → State
without_rows_of state number = with_desk state (withdrawn number state.desk)

-- The state without what ties an object to others: connections with it at either end, events that name it, its
-- publications, and joins that call it.
abbrev pub without_ties : State → ℕ → State
without_ties state number = without_rows_of (without_events (without_connections state (touches number)) number) number

-- A property holds for each object that publishes a signal, and for each that a join calls.
pub record OfDesk (P : ℕ → Type 0) (desk : Desk) : Type 0 where
  pub publications : All (λ row. P row.object) desk.publications
  pub joins : All (λ join. P join.object) desk.joins

-- The object of an event exists.
abbrev pub IsMeant : State → Event → Type 0
IsMeant state event = IsTrue (is_there state.forest.rows (object_of event))

-- The objects at both ends of a connection exist.
pub record IsTied (state : State) (row : Connection) : Type 0 where
  pub sender : IsTrue (is_there state.forest.rows row.sender)
  pub receiver : IsTrue (is_there state.forest.rows row.receiver)

-- What holds for every session, also during a command.
pub record IsWhole (state : State) : Type 0 where
  pub forest : tree.IsSound state.forest
  -- Exactly the existing objects have properties.
  pub objects : map (λ of. of.object) state.store ≡ numbers state.forest.rows
  -- Each value is of its property's kind, and no text is too long.
  pub properties : stored.IsSound state.store
  -- The bindings and the open groups are within their limits.
  pub graph : graph.IsSound state.graph
  -- Each bound property exists and is bindable.
  pub bound : All (λ binding. IsTrue (is_bindable state.store binding.at)) state.graph.bindings
  -- Values from before a group are kept only while a group is open.
  pub closed : IsFalse (is_open state.graph) → state.graph.last ≡ []
  -- The numbers of connections ascend, and there are not too many.
  pub connections : list.IsSound state.connections
  -- The ends of each connection exist.
  pub ends : All (IsTied state) state.connections.rows
  -- There are not too many events.
  pub queue : events.IsSound state.queue
  -- The object of each event exists.
  pub meant : All (IsMeant state) state.queue.events
  -- There are not too many publications and joins.
  pub desk : board.IsSound state.desk
  -- The objects of all publications and joins exist.
  pub named : OfDesk (λ number. IsTrue (is_there state.forest.rows number)) state.desk

-- Each object has the properties that its class declares.
abbrev pub IsDeclared : List Class → State → Type 0
IsDeclared classes state =
    All (λ row. option_map (λ of. of.fields) (properties_of state.store row.number) ≡ Some (fields_of classes row.class)) state.forest.rows

-- What holds for every session between commands.
pub record IsSound (state : State) : Type 0 where
  pub whole : IsWhole state
  -- No object is dying.
  pub living : All (λ row. IsFalse row.dying) state.forest.rows
