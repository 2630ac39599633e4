-- A command as definitions see it: texts are lists of bytes, and JSON is its data.
use Rattle.std.specs.Prelude.{ℕ, Bool, List, Option, map}
use Rattle.serde_json.specs.Data.{Data}
use Rattle.serde_json.specs.View.{view}
use Rattle.isolation.specs.Machine as theory
use Rattle.plain_types.specs.declared.connection_type.ConnectionType.{ConnectionType}
use Rattle.event_queue.specs.declared.event.Priority.{Priority}
use Rattle.session_model.specs.declared.command.Command.{Command}
use Rattle.session_model.specs.declared.command.Command.TheVariants as c
use Rattle.session_model.specs.declared.command.Tagged.{Tagged}
use Rattle.session_model.specs.declared.operation.Operation.{Operation}
use Rattle.session_model.specs.declared.operation.Operation.TheVariants.{Block, DeleteLater, SetParent}
use Rattle.session_model.specs.declared.query.Query.{Query}

-- A command to a session.
pub data Asked : Type 0 where
  -- Makes an object of this class below a parent, or as a root.
  New : (class : List ℕ) (parent : Option ℕ) → Asked
  -- Deletes an object and everything below it.
  Delete : (target : ℕ) → Asked
  -- Writes a property of this object.
  Set : (target : ℕ) (property : List ℕ) (value : Data) → Asked
  -- Connects a signal of the sender to a method of the receiver.
  Connect : (sender : ℕ) (signal : List ℕ) (receiver : ℕ) (method : List ℕ) (mode : ConnectionType) (unique single : Bool) → Asked
  -- Connects a signal of the sender to the functor with this name, for a context object.
  ConnectFunctor : (sender : ℕ) (signal : List ℕ) (context : ℕ) (functor : List ℕ) (mode : ConnectionType) (unique single : Bool) → Asked
  -- Breaks the connection with this number.
  DisconnectOne : (connection : ℕ) → Asked
  -- Breaks the connections of the sender that match the signal, receiver and method that are given.
  Disconnect : (sender : ℕ) (signal : Option (List ℕ)) (receiver : Option ℕ) (method : Option (List ℕ)) → Asked
  -- Calls a slot or sends a signal of this object, at once or later, and then with this priority.
  Invoke : (target : ℕ) (method : List ℕ) (args : List Data) (mode : ConnectionType) (priority : Priority) → Asked
  -- Takes the queued events.
  Spin : Asked
  -- Does an operation.
  Do : (operation : Operation) → Asked
  -- Publishes a signal of this object under a name.
  Publish : (target : ℕ) (signal name : List ℕ) → Asked
  -- Removes the publication with this name.
  Unpublish : (name : List ℕ) → Asked
  -- Joins a publication: what the session publishes under the name, with parameters of these types, calls a method of
  -- this object.
  Join : (from name : List ℕ) (types : List (List ℕ)) (target : ℕ) (method : List ℕ) → Asked
  -- Removes the joins that are equal in these four.
  Leave : (from name : List ℕ) (target : ℕ) (method : List ℕ) → Asked
  -- Removes everything that the session holds.
  Reset : Asked
  -- Binds a property of this object to an expression.
  Bind : (target : ℕ) (property : List ℕ) (to : Data) → Asked
  -- Removes the binding of a property.
  Unbind : (target : ℕ) (property : List ℕ) → Asked
  -- Begins a group, in which changes of properties are not announced.
  Begin : Asked
  -- Ends a group.
  End : Asked
  -- Answers a query.
  Ask : (query : Query) → Asked

-- The definition's view of a command.
abbrev pub asked : Command → Asked
asked (c.New class parent) = New class parent
asked (c.Delete target) = Delete target
asked (c.SetParent target parent) = Do (SetParent target parent)
asked (c.Set target property value) = Set target property (view value)
asked (c.Connect sender signal receiver method mode unique single) = Connect sender signal receiver method mode unique single
asked (c.ConnectFunctor sender signal context functor mode unique single) = ConnectFunctor sender signal context functor mode unique single
asked (c.DisconnectOne connection) = DisconnectOne connection
asked (c.Disconnect sender signal receiver method) = Disconnect sender signal receiver method
asked (c.Invoke target method args mode priority) = Invoke target method (map view args) mode priority
asked c.Spin = Spin
asked (c.DeleteLater target) = Do (DeleteLater target)
asked (c.Block target on) = Do (Block target on)
asked (c.Publish target signal name) = Publish target signal name
asked (c.Unpublish name) = Unpublish name
asked (c.Join from name types target method) = Join from name types target method
asked (c.Leave from name target method) = Leave from name target method
asked c.Reset = Reset
asked (c.Bind target property to) = Bind target property (view to)
asked (c.Unbind target property) = Unbind target property
asked c.Begin = Begin
asked c.End = End
asked (c.Ask query) = Ask query

-- A command, and the session that gives it.
abbrev pub tagged : List ℕ → Command → theory.Tagged (List ℕ) Asked
tagged session command = record { session = session; command = asked command }

abbrev pub tag : Tagged → theory.Tagged (List ℕ) Asked
tag given = tagged given.session given.command
