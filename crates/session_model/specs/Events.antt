-- The effect of the command that takes events, and the counts of what a session holds.
use Rattle.std.specs.Prelude.{[], ◌∷◌, length}
use Rattle.isolation.specs.Machine.{Effect}
use Rattle.session_model.specs.declared.line.Line.{Line}
use Rattle.session_model.specs.declared.line.Status.{Status}
use Rattle.session_model.specs.declared.post.Post.{Post}
use Rattle.session_model.specs.Execution.{begun}
use Rattle.session_model.specs.Effects.{ended}
use Rattle.session_model.specs.Items.{ReplySpun, Spin}
use Rattle.session_model.specs.Run.{run}
use Rattle.session_model.specs.Settings.{Settings}
use Rattle.session_model.specs.State.{State}

-- Takes the events, and replies at the end how many there were.
abbrev pub spins : Settings → State → Effect State Line Post
spins settings state = ended (run settings (Spin ∷ ReplySpun ∷ []) (begun settings state))

-- The counts of what a session holds.
abbrev pub status : State → Status
status state = record {
  bindings = length state.graph.bindings;
  connections = length state.connections.rows;
  group = state.graph.depth;
  joins = length state.desk.joins;
  lost = state.queue.lost;
  mismatched = state.queue.mismatched;
  objects = length state.forest.rows;
  publications = length state.desk.publications;
  queued = length state.queue.events;
}
