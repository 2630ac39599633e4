-- The contents of a session fit the classes and the functors of the server.
use Rattle.std.specs.Prelude.{◌≡◌, ◌≤◌, ℕ, List, IsTrue, is_some, length, slice_get}
use Rattle.std.specs.List.{All}
use Rattle.signature_core.specs.declared.kind.Kind.{Kind}
use Rattle.signature_core.specs.Kinds.{fits}
use Rattle.variant_value.specs.declared.value.Value.{Value}
use Rattle.variant_value.specs.Values.{IsShort}
use Rattle.term_core.specs.Act.{is_limited}
use Rattle.class_table.specs.Sound.{IsTable}
use Rattle.plain_types.specs.declared.callee.Callee.{Callee}
use Rattle.plain_types.specs.declared.callee.Callee.TheVariants as callee
use Rattle.connection_list.specs.declared.connection.Connection.{Connection}
use Rattle.event_queue.specs.declared.event.Event.{Event}
use Rattle.event_queue.specs.declared.event.Event.TheVariants as event
use Rattle.object_tree.specs.declared.row.Row.{Row}
use Rattle.object_tree.specs.Rows.{is_there}
use Rattle.publish_board.specs.declared.join.Join.{Join}
use Rattle.publish_board.specs.declared.publication.Publication.{Publication}
use Rattle.stored_slots.specs.Functors.{AreArguments, IsFunctor}
use Rattle.session_model.specs.declared.operation.Operation.{Operation}
use Rattle.session_model.specs.declared.operation.Operation.TheVariants.{Connect}
use Rattle.session_model.specs.declared.post.Post.{Post}
use Rattle.session_model.specs.Arriving.{kinds_of}
use Rattle.session_model.specs.Asked.{Asked, Do}
use Rattle.session_model.specs.Execution.{Execution}
use Rattle.session_model.specs.Functors.{functor_at, params_at}
use Rattle.session_model.specs.Items.{Act, Call, Emit, Item, Run, RunFunctor}
use Rattle.session_model.specs.Methods.{is_signal_at, methods_by}
use Rattle.session_model.specs.Settings.{Settings}
use Rattle.session_model.specs.State.{IsDeclared, State}
use Rattle.session_model.specs.UnderWay.{IsUnderWay}

-- What holds for a server's settings.
pub record AreSettings (settings : Settings) : Type 0 where
  pub table : IsTable settings.classes
  pub functors : All IsFunctor settings.functors

-- The callee at one of these objects exists: it is a method of the object's class, or a functor of the server.
abbrev pub IsCallee : Settings → List Row → ℕ → Callee → Type 0
IsCallee settings rows object (callee.Method index) = IsTrue (is_some (slice_get (methods_by settings.classes rows object) index))
IsCallee settings rows object (callee.Functor index) = IsTrue (is_some (functor_at settings index))

-- The kinds of the callee's parameters.
abbrev pub kinds_called : Settings → List Row → ℕ → Callee → List Kind
kinds_called settings rows object (callee.Method index) = kinds_of settings.classes rows object index
kinds_called settings rows object (callee.Functor index) = params_at settings index

-- The callee may be called with these arguments: one for each parameter, of its kind, and no text too long.
pub record IsCall (settings : Settings) (rows : List Row) (object : ℕ) (to : Callee) (args : List Value) : Type 0 where
  pub callee : IsCallee settings rows object to
  pub arguments : AreArguments (kinds_called settings rows object to) args

-- A signal of one of these objects may be sent with these arguments.
pub record IsSent (settings : Settings) (rows : List Row) (object signal : ℕ) (args : List Value) : Type 0 where
  pub signal_there : IsTrue (is_signal_at (methods_by settings.classes rows object) signal)
  pub arguments : AreArguments (kinds_of settings.classes rows object signal) args

-- An event fits its callee.
abbrev pub IsFittingEvent : Settings → List Row → Event → Type 0
IsFittingEvent settings rows (event.Call call) = IsCall settings rows call.object call.callee call.args
IsFittingEvent settings rows (event.Deletion target) = Unit {0}

-- A signal may be connected to a callee: it is a signal, the callee exists, and their parameters fit.
pub record MayBeConnected (settings : Settings) (rows : List Row) (sender signal receiver : ℕ) (to : Callee) : Type 0 where
  pub signal_there : IsTrue (is_signal_at (methods_by settings.classes rows sender) signal)
  pub callee : IsCallee settings rows receiver to
  pub fitting : IsTrue (fits (kinds_of settings.classes rows sender signal) (kinds_called settings rows receiver to))

-- The two ends of a connection may be connected.
abbrev pub IsConnected : Settings → List Row → Connection → Type 0
IsConnected settings rows row = MayBeConnected settings rows row.sender row.signal row.receiver row.callee

-- If an operation makes a connection, its two ends may be connected.
abbrev pub IsFittingOperation : Settings → List Row → Operation → Type 0
IsFittingOperation settings rows (Connect new unique) = MayBeConnected settings rows new.sender new.signal new.receiver new.callee
IsFittingOperation settings rows _ = Unit {0}

-- If a command is an operation, with the indices of signals and methods, the operation fits.
abbrev pub IsFittingAsked : Settings → State → Asked → Type 0
IsFittingAsked settings state (Do operation) = IsFittingOperation settings state.forest.rows operation
IsFittingAsked settings state _ = Unit {0}

-- A publication is of a signal.
abbrev pub IsPublished : Settings → List Row → Publication → Type 0
IsPublished settings rows row = IsTrue (is_signal_at (methods_by settings.classes rows row.object) row.signal)

-- The method of a join exists and fits the kinds that the join names, which are at most as many as a signature may have.
pub record IsJoined (settings : Settings) (rows : List Row) (join : Join) : Type 0 where
  pub callee : IsCallee settings rows join.object (callee.Method join.method)
  pub fitting : IsTrue (fits join.kinds (kinds_of settings.classes rows join.object join.method))
  pub few : length join.kinds ≤ 10

-- The contents of a session fit the classes and the functors.
pub record IsFitting (settings : Settings) (state : State) : Type 0 where
  -- The class of each object exists.
  pub objects : All (λ row. IsTrue (is_some (slice_get settings.classes row.class))) state.forest.rows
  -- Each queued event may be taken.
  pub events : All (IsFittingEvent settings state.forest.rows) state.queue.events
  -- Connected ends may be connected, publications are of signals, and joins may call their methods.
  pub connections : All (IsConnected settings state.forest.rows) state.connections.rows
  pub publications : All (IsPublished settings state.forest.rows) state.desk.publications
  pub joins : All (IsJoined settings state.forest.rows) state.desk.joins

-- A post has an argument for each kind that it names, of that kind, and no text too long.
abbrev pub IsRightPost : Post → Type 0
IsRightPost post = AreArguments post.kinds post.arguments

-- The arguments of a connection's call have the kinds of its signal, if the connection exists. Its number was given, so
-- no other connection ever gets it.
pub record IsCalledBy (settings : Settings) (state : State) (number : ℕ) (args : List Value) : Type 0 where
  pub given : number ≤ state.connections.last_number
  pub arguments : All (λ row. row.number ≡ number
      → AreArguments (kinds_of settings.classes state.forest.rows row.sender row.signal) args) state.connections.rows

-- An item fits, if its object still exists: the signal that it sends, the slot that it runs, or the action with the
-- arguments of its slot.
abbrev pub IsFittingItem : Settings → State → Item → Type 0
IsFittingItem settings state (Emit target signal args depth) = IsTrue (is_there state.forest.rows target) → IsSent settings state.forest.rows target signal args
IsFittingItem settings state (Call number args depth) = IsCalledBy settings state number args
IsFittingItem settings state (Run target method sender args depth) =
    IsTrue (is_there state.forest.rows target) → IsCall settings state.forest.rows target (callee.Method method) args
IsFittingItem settings state (RunFunctor target functor sender connection args depth) = IsCall settings state.forest.rows target (callee.Functor functor) args
IsFittingItem settings state (Act action args self sender depth) = IsTrue (is_limited action) × All IsShort args
IsFittingItem settings state _ = Unit {0}

-- What holds for a session with this agenda.
pub record IsFittingUnderWay (settings : Settings) (agenda : List Item) (doing : Execution) : Type 0 where
  pub under_way : IsUnderWay agenda doing.state
  pub declared : IsDeclared settings.classes doing.state
  pub fitting : IsFitting settings doing.state
  pub items : All (IsFittingItem settings doing.state) agenda
  pub posts : All IsRightPost doing.posts
