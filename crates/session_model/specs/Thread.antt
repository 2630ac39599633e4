-- What each command does to a session. The rules are those of Qt's object model in this server's profile; codes and
-- limits are its own.
use Rattle.session_model.specs.Binding.{asked_binding, asked_property, begins, binds_found, ends, unbinds_found}
use Rattle.std.specs.Prelude.{ℕ, Bool, true, false, ◌&&◌, List, Ok, [], ◌∷◌, bytes_eq, is_none}
use Rattle.isolation.specs.Machine.{Effect}
use Rattle.class_table.specs.declared.class.Class.{Class}
use Rattle.publish_board.specs.Desk.{names_session}
use Rattle.session_model.specs.declared.line.Answer.TheVariants.{Truth}
use Rattle.session_model.specs.declared.line.Line.{Line}
use Rattle.session_model.specs.declared.post.Post.{Post}
use Rattle.session_model.specs.Asked.{Asked, New, Delete, Set, Ask, Connect}
use Rattle.session_model.specs.Asked.{ConnectFunctor, DisconnectOne, Disconnect, Invoke, Spin, Do, Publish}
use Rattle.session_model.specs.Asked.{Unpublish, Join, Leave, Reset, Bind, Unbind, Begin, End}
use Rattle.session_model.specs.Arriving.{reached_by}
use Rattle.session_model.specs.Effects.{answers, replies, unless}
use Rattle.session_model.specs.Events.{spins}
use Rattle.session_model.specs.Properties.{sets}
use Rattle.session_model.specs.Queries.{query_answer}
use Rattle.session_model.specs.Refusing.{refusal}
use Rattle.session_model.specs.Signals.{asked_connect, asked_connect_functor, asked_disconnect, asked_method, disconnects_one, does_found, invokes}
use Rattle.session_model.specs.Sharing.{asked_join, asked_listener, asked_publication, joins_found, leaves, publishes_found, unpublishes}
use Rattle.session_model.specs.State.{State, empty}
use Rattle.session_model.specs.Trees.{deletes, makes}
use Rattle.session_model.specs.Writing.{asked_writing}
pub use Rattle.session_model.specs.Settings.{Settings}

-- The effect of a command that is not refused, in a session with this name and state.
unfoldable pub performs : Settings → List ℕ → State → Asked → Effect State Line Post
performs settings self state (New class parent) = makes settings.classes state class parent
performs settings self state (Delete target) = deletes settings state target
performs settings self state (Set target property value) = sets settings state target (asked_writing state target property value)
performs settings self state (Connect sender signal receiver method mode unique single) =
    does_found state (asked_connect settings state sender signal receiver method mode unique single)
performs settings self state (ConnectFunctor sender signal context functor mode unique single) =
    does_found state (asked_connect_functor settings state sender signal context functor mode unique single)
performs settings self state (DisconnectOne connection) = disconnects_one state connection
performs settings self state (Disconnect sender signal receiver method) = does_found state (asked_disconnect settings state sender signal receiver method)
performs settings self state (Invoke target method args mode priority) =
    invokes settings state target args mode priority (asked_method settings state target method)
performs settings self state Spin = spins settings state
performs settings self state (Do operation) = does_found state (Ok operation)
performs settings self state (Publish target signal name) = publishes_found state (asked_publication settings state target signal name)
performs settings self state (Unpublish name) = unpublishes state name
performs settings self state (Join from name types target method) = joins_found state (asked_join settings state from name types target method)
performs settings self state (Leave from name target method) = leaves state from name target (asked_listener settings state target method)
performs settings self state Reset = replies empty (Truth true)
performs settings self state (Bind target property to) = binds_found settings state (asked_binding state target property to)
performs settings self state (Unbind target property) = unbinds_found settings state (asked_property state target property)
performs settings self state Begin = begins state
performs settings self state End = ends settings state
performs settings self state (Ask query) = answers state (query_answer settings state query)

-- The effect of a command.
unfoldable pub does : Settings → List ℕ → State → Asked → Effect State Line Post
does settings self state asked = unless (refusal settings self state asked) state (performs settings self state asked)

-- The state after a post of this session.
unfoldable pub arrives : List Class → State → List ℕ → Post → State
arrives classes state from post = record state { queue = reached_by classes state.forest.rows from post state.queue state.desk.joins }

-- The state after several posts of this session, in order.
abbrev pub arrive_all : List Class → State → List ℕ → List Post → State
arrive_all classes state from [] = state
arrive_all classes state from (post ∷ posts) = arrive_all classes (arrives classes state from post) from posts

-- Whether a join names this session.
unfoldable pub joins_name : State → List ℕ → Bool
joins_name state from = names_session from state.desk

-- Whether a command is accepted as a join that names this session.
unfoldable pub accepts_join : Settings → List ℕ → State → Asked → List ℕ → Bool
accepts_join settings self state (Join from name types target method) other =
    is_none (refusal settings self state (Join from name types target method)) && bytes_eq from other
accepts_join settings self state asked other = false
