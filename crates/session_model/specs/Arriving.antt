-- The posts to other sessions when a session sends a signal, and what a post changes there.
use Rattle.std.specs.Prelude.{◌&&◌, ℕ, Bool, List, [], ◌∷◌, filter, length, map, take, if◌then◌else◌}
use Rattle.class_table.specs.declared.class.Class.{Class}
use Rattle.signature_core.specs.declared.kind.Kind.{Kind}
use Rattle.signature_core.specs.Kinds.{fits}
use Rattle.variant_value.specs.declared.value.Value.{Value}
use Rattle.plain_types.specs.declared.callee.Callee.TheVariants.{Method}
use Rattle.event_queue.specs.declared.event.Event.TheVariants.{Call}
use Rattle.event_queue.specs.declared.event.QueuedCall.{QueuedCall}
use Rattle.event_queue.specs.declared.event.Priority.TheVariants.{Normal}
use Rattle.event_queue.specs.Queue.{Queue, has_room, enqueued, with_lost, with_mismatched}
use Rattle.object_tree.specs.declared.row.Row.{Row}
use Rattle.publish_board.specs.declared.join.Join.{Join}
use Rattle.publish_board.specs.declared.publication.Publication.{Publication}
use Rattle.publish_board.specs.Rows.{listens, publishes}
use Rattle.session_model.specs.declared.post.Post.{Post}
use Rattle.session_model.specs.Methods.{kinds_at, methods_by}
use Rattle.session_model.specs.State.{State}

-- The kinds of the parameters of a method of one of these objects.
abbrev pub kinds_of : List Class → List Row → ℕ → ℕ → List Kind
kinds_of classes rows object index = kinds_at (methods_by classes rows object) index

-- The post of a published signal that is sent with these arguments, which have these kinds.
abbrev pub post_of : List Kind → List Value → Publication → Post
post_of kinds args row = record { name = row.name; kinds = kinds; arguments = args }

-- One post for each publication of the signal, in the order in which they were made.
abbrev pub posts_by : ℕ → ℕ → List Kind → List Value → List Publication → List Post
posts_by target signal kinds args rows = map (post_of kinds args) (filter (publishes target signal) rows)

-- The posts of a signal that a session sends.
abbrev pub posts_of : List Class → State → ℕ → ℕ → List Value → List Post
posts_of classes state target signal args = posts_by target signal (kinds_of classes state.forest.rows target signal) args state.desk.publications

-- Whether these kinds match those that a join names: one list is a prefix of the other.
abbrev pub is_matched : List Kind → Join → Bool
is_matched kinds join = fits kinds join.kinds && fits join.kinds kinds

-- The call of a join, which has no sender. Its method gets as many of the first arguments as it has parameters.
abbrev pub joined_call : List Class → List Row → List Value → Join → QueuedCall
joined_call classes rows args join = record {
  object = join.object;
  callee = Method join.method;
  sender = 0;
  connection = 0;
  priority = Normal;
  args = take (length (kinds_of classes rows join.object join.method)) args;
}

-- The queue with another call. The call is lost if the queue is full.
abbrev pub with_call : Queue → QueuedCall → Queue
with_call queue call = if has_room queue then enqueued queue (Call call) else with_lost queue

-- The queue of a session with these objects, after a post of the session `from` has reached one of its joins.
abbrev pub reached : List Class → List Row → List ℕ → Post → Queue → Join → Queue
reached classes rows from post queue join =
    if listens from post.name join
    then (if is_matched post.kinds join then with_call queue (joined_call classes rows post.arguments join) else with_mismatched queue)
    else queue

-- The queue after the post has reached several joins, one after another.
abbrev pub reached_by : List Class → List Row → List ℕ → Post → Queue → List Join → Queue
reached_by classes rows from post queue [] = queue
reached_by classes rows from post queue (join ∷ joins) = reached_by classes rows from post (reached classes rows from post queue join) joins
