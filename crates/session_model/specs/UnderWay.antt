-- What holds for a session while it does a command.
use Rattle.std.specs.Prelude.{◌≡◌, ◌==◌, ◌&&◌, ◌||◌, ℕ, Bool, true, false, not, IsTrue, List, [], ◌∷◌}
use Rattle.std.specs.List.{All, list_any}
use Rattle.connection_list.specs.declared.connection.Connection.{Connection}
use Rattle.event_queue.specs.declared.event.Event.{Event}
use Rattle.event_queue.specs.Queue.{object_of}
use Rattle.session_model.specs.Items.{Detach, Remove, Item}
use Rattle.session_model.specs.State.{IsWhole, OfDesk, State}

-- Whether an item removes this object.
abbrev pub lets_go : ℕ → Item → Bool
lets_go number (Remove target depth) = target == number
lets_go number _ = false

-- Whether an item breaks the connections of this object, drops its events, and removes its publications and joins.
abbrev pub unties : ℕ → Item → Bool
unties number (Detach target depth) = target == number
unties number _ = false

-- Whether an item removes an object.
abbrev pub is_gone : Item → Bool
is_gone (Remove target depth) = true
is_gone _ = false

-- No item removes an object before an item has broken its connections.
abbrev pub is_untied_first : List Item → ℕ → Bool
is_untied_first [] number = true
is_untied_first (item ∷ agenda) number = unties number item || (not (lets_go number item) && is_untied_first agenda number)

-- A connection is broken before either of its ends is removed.
pub record IsBrokenInTime (agenda : List Item) (row : Connection) : Type 0 where
  pub sender : IsTrue (is_untied_first agenda row.sender)
  pub receiver : IsTrue (is_untied_first agenda row.receiver)

-- An event is dropped before its object is removed.
abbrev pub IsForgottenInTime : List Item → Event → Type 0
IsForgottenInTime agenda event = IsTrue (is_untied_first agenda (object_of event))

-- What holds for a session with this agenda.
pub record IsUnderWay (agenda : List Item) (state : State) : Type 0 where
  pub whole : IsWhole state
  -- Exactly the objects that the agenda removes are dying.
  pub going : All (λ row. list_any (lets_go row.number) agenda ≡ row.dying) state.forest.rows
  -- No object is removed before its connections are broken, its events dropped, and its publications and joins removed.
  pub in_time : All (IsBrokenInTime agenda) state.connections.rows
  pub forgotten : All (IsForgottenInTime agenda) state.queue.events
  pub withdrawn : OfDesk (λ number. IsTrue (is_untied_first agenda number)) state.desk
