-- A session while it does a command.
use Rattle.std.specs.Prelude.{◌+◌, ◌-◌, ℕ, Bool, true, false, List, [], ◌∷◌, ◌++◌, None, if◌then◌else◌}
use Rattle.plain_types.specs.declared.code.Code.TheVariants.{TurnsUsedUp}
use Rattle.object_tree.specs.Changes.{marked}
use Rattle.connection_list.specs.declared.connection.Connection.{Connection}
use Rattle.connection_list.specs.Rows.{has_number}
use Rattle.event_queue.specs.declared.event.Event.{Event}
use Rattle.session_model.specs.declared.line.Line.{Line}
use Rattle.session_model.specs.declared.line.Line.TheVariants.{Warning}
use Rattle.session_model.specs.declared.post.Post.{Post}
use Rattle.session_model.specs.Settings.{Settings}
use Rattle.session_model.specs.State.{State, with_event, with_functor_state, with_lost, without_connections, without_first, without_ties}

pub record Execution : Type 0 where
  pub state : State
  -- How many calls may still be made.
  pub turns : ℕ
  -- Whether the warning that no turn is left has been given.
  pub spent : Bool
  -- How many events were taken.
  pub taken : ℕ
  -- The lines so far.
  pub lines : List Line
  -- The posts to other sessions so far.
  pub posts : List Post

-- A session at the beginning of a command.
abbrev pub begun : Settings → State → Execution
begun settings state = record { state = state; turns = settings.turns; spent = false; taken = 0; lines = []; posts = [] }

abbrev pub in_state : Execution → State → Execution
in_state doing state = record doing { state = state }

-- Adds a line.
unfoldable pub line_told : Execution → Line → Execution
line_told doing said = record doing { lines = doing.lines ++ said ∷ [] }

-- Adds posts to other sessions.
unfoldable pub posting : Execution → List Post → Execution
posting doing more = record doing { posts = doing.posts ++ more }

-- Takes a turn.
unfoldable pub turn_taken : Execution → Execution
turn_taken doing = record doing { turns = doing.turns - 1 }

-- No turn is left for a call: the command warns of that once.
unfoldable pub used_up : Execution → Execution
used_up doing = if doing.spent then doing else record doing { spent = true; lines = doing.lines ++ Warning TurnsUsedUp None ∷ [] }

-- Marks an object as dying.
unfoldable pub dying : Execution → ℕ → Execution
dying doing target = in_state doing (record doing.state { forest = marked doing.state.forest target })

-- Removes what ties an object to others.
unfoldable pub severed : Execution → ℕ → Execution
severed doing target = in_state doing (without_ties doing.state target)

-- Adds an event to the queue.
unfoldable pub enqueued : Execution → Event → Execution
enqueued doing event = in_state doing (with_event doing.state event)

-- Counts a lost call, for which the queue has no room.
unfoldable pub lost : Execution → Execution
lost doing = in_state doing (with_lost doing.state)

-- Takes the first event.
unfoldable pub first_taken : Execution → Execution
first_taken doing = record (in_state doing (without_first doing.state)) { taken = doing.taken + 1 }

-- Sets the state of the functor of the connection with this number, if that exists.
unfoldable pub stepped : Execution → ℕ → ℕ → Execution
stepped doing number next = in_state doing (with_functor_state doing.state number next)

-- Breaks a single-shot connection before its callee is called.
unfoldable pub single_shot_broken : Execution → Connection → Execution
single_shot_broken doing row = if row.single then in_state doing (without_connections doing.state (has_number row.number)) else doing
