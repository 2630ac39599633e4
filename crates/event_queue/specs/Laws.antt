-- The first event that is taken is, among those of the highest priority, the one that was posted first.
use Rattle.std.specs.Prelude.{◌≡◌, ℕ, ◌==◌, Bool, true, List, [], ◌∷◌, ◌++◌, Option, if◌then◌else◌, filter, find, is_some, slice_get}
use Rattle.event_queue.specs.declared.event.Event.{Event}
use Rattle.event_queue.specs.declared.event.Priority.{Priority}
use Rattle.event_queue.specs.declared.event.Priority.TheVariants.{Low, Normal, High}
use Rattle.event_queue.specs.Queue.{Queue, dropped, has_room, others, enqueued, priority_of, rank_of, taken}

-- Whether an event has this priority.
abbrev pub has : Priority → Event → Bool
has priority event = rank_of (priority_of event) == rank_of priority

-- Events in the order of posting, sorted by priority.
abbrev pub by_priority : List Event → List Event
by_priority events = filter (has High) events ++ (filter (has Normal) events ++ filter (has Low) events)

-- The highest priority of these events.
abbrev pub highest : List Event → Priority
highest events = if is_some (find (has High) events) then High else (if is_some (find (has Normal) events) then Normal else Low)

-- The first event of the highest priority.
abbrev pub first_of : List Event → Option Event
first_of events = find (has (highest events)) events

-- The events without the first one of a priority.
abbrev pub without_one : Priority → List Event → List Event
without_one priority [] = []
without_one priority (event ∷ events) = if has priority event then events else event ∷ without_one priority events

-- A queue whose events are sorted by priority has them sorted after each change. `posts` are in the order of posting.
pub record IsByPriority (posts : List Event) (queue : Queue) : Type 0 where
  pub by_posted : (event : Event) → has_room queue ≡ true → (enqueued queue event).events ≡ by_priority (posts ++ event ∷ [])
  pub first : slice_get queue.events 0 ≡ first_of posts
  pub by_taken : (taken queue).events ≡ by_priority (without_one (highest posts) posts)
  pub by_dropped : (object : ℕ) → (dropped object queue).events ≡ by_priority (others object posts)
