-- What contracts see of a queue.
use Rattle.std.specs.Prelude.{ℕ, ◌+◌, ◌-◌, ◌^◌, ◌<◌, ◌≤◌, ◌==◌, Bool, not, nat_le, nat_lt, min, if◌then◌else◌, List, [], ◌∷◌, ◌++◌, length, filter, drop}
use Rattle.event_queue.specs.declared.event.Event.{Event}
use Rattle.event_queue.specs.declared.event.Event.TheVariants.{Call, Deletion}
use Rattle.event_queue.specs.declared.event.Priority.{Priority}
use Rattle.event_queue.specs.declared.event.Priority.TheVariants.{Low, Normal, High}
use Rattle.event_queue.specs.declared.table.Counts.{Counts}
use Rattle.event_queue.specs.declared.table.TheConstants.{EVENTS}

pub record Queue : Type 0 where
  -- The events that wait, in the order in which they are taken.
  pub events : List Event
  pub lost : ℕ
  pub mismatched : ℕ

abbrev pub empty_queue : Queue
empty_queue = record { events = []; lost = 0; mismatched = 0 }

-- The object that an event names.
abbrev pub object_of : Event → ℕ
object_of (Call call) = call.object
object_of (Deletion object) = object

-- The priority of an event. Deletions, and the calls of emissions and arrivals, have the normal one.
abbrev pub priority_of : Event → Priority
priority_of (Call call) = call.priority
priority_of (Deletion object) = Normal

-- The position of a priority among all, the highest first.
abbrev pub rank_of : Priority → ℕ
rank_of High = 0
rank_of Normal = 1
rank_of Low = 2

-- Whether an event is taken before one that is posted later: its priority is not lower.
abbrev pub is_before : Event → Event → Bool
is_before event later = nat_le (rank_of (priority_of event)) (rank_of (priority_of later))

-- The events with another one, after those of its priority or a higher one, and before the others.
abbrev pub placed : Event → List Event → List Event
placed event events = filter (λ earlier. is_before earlier event) events ++ event ∷ filter (λ earlier. not (is_before earlier event)) events

-- The events that do not name the object.
abbrev pub others : ℕ → List Event → List Event
others object events = filter (λ event. not (object_of event == object)) events

-- The count after another event, up to the greatest 64-bit number.
abbrev pub noted : ℕ → ℕ
noted count = min (count + 1) (2 ^ 64 - 1)

-- What holds for the queue of every place.
pub record IsSound (queue : Queue) : Type 0 where
  pub few : length queue.events ≤ EVENTS
  pub lost : queue.lost < 2 ^ 64
  pub mismatched : queue.mismatched < 2 ^ 64

-- Whether the queue has room for another event.
abbrev pub has_room : Queue → Bool
has_room queue = nat_lt (length queue.events) EVENTS

-- The queue with another event, if it has room.
abbrev pub enqueued : Queue → Event → Queue
enqueued queue event = if has_room queue then record queue { events = placed event queue.events } else queue

-- The queue without its first event.
abbrev pub taken : Queue → Queue
taken queue = record queue { events = drop 1 queue.events }

-- The queue without the events that name an object.
abbrev pub dropped : ℕ → Queue → Queue
dropped object queue = record queue { events = others object queue.events }

-- The queue with another lost event counted.
abbrev pub with_lost : Queue → Queue
with_lost queue = record queue { lost = noted queue.lost }

-- The queue with another mismatched event counted.
abbrev pub with_mismatched : Queue → Queue
with_mismatched queue = record queue { mismatched = noted queue.mismatched }

-- The counts of the queue.
abbrev pub counts_of : Queue → Counts
counts_of queue = record { queued = length queue.events; lost = queue.lost; mismatched = queue.mismatched }
