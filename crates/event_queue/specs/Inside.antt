-- How the queues are stored in rows and logs. No public clause cites this module.
use Rattle.std.specs.Prelude.{◌≡◌, ℕ, ◌+◌, ◌*◌, ◌%◌, ◌^◌, ◌<◌, ◌≤◌, ◌==◌, ◌⊎◌, Bool, false, not}
use Rattle.std.specs.Prelude.{if◌then◌else◌, List, [], length, map, filter, count_by, slice_index_or, find}
use Rattle.std.specs.List.{All, AllWithin}
use Rattle.std.specs.Option.{option_map_or}
use Rattle.shared_rows.specs.Table.{ChangesAt, Table}
use Rattle.shared_rows.specs.Rows.{Keyed, rows_at}
use Rattle.event_queue.specs.declared.event.Event.{Event}
use Rattle.event_queue.specs.declared.event.QueuedEvent.{QueuedEvent}
use Rattle.event_queue.specs.declared.object_counts.Count.{Count}
use Rattle.event_queue.specs.declared.table.Log.{Log}
use Rattle.event_queue.specs.declared.table.TheConstants.{EVENTS}
use Rattle.event_queue.specs.Entries.{ObjectCounts}
use Rattle.event_queue.specs.Queue.{Queue, object_of, priority_of, rank_of}

-- The count of the rows that name an object.
abbrev pub count_at : ObjectCounts → ℕ → Count
count_at objects object =
    option_map_or (λ entry. entry.count) (find (λ entry. entry.object == object) objects) (record { rows = 0; is_dropped = false })

-- How many rows are counted for an object.
abbrev pub count_of : ObjectCounts → ℕ → ℕ
count_of objects object = (count_at objects object).rows

-- Whether the events of an object are dropped, although their rows still exist.
abbrev pub is_dropped : ObjectCounts → ℕ → Bool
is_dropped objects object = (count_at objects object).is_dropped

-- This many rows are counted for one object now, and for others as many as before.
abbrev pub IsCounted : ObjectCounts → ObjectCounts → ℕ → ℕ → Type 0
IsCounted old new object count = (other : ℕ) → count_of new other ≡ (if object == other then count else count_of old other)

-- The events of an object that any row names are dropped if they were before.
abbrev pub KeepsMarks : ObjectCounts → ObjectCounts → Type 0
KeepsMarks old new = (other : ℕ) → 0 < count_of new other → is_dropped new other ≡ is_dropped old other

-- Whether the event of a row still waits.
abbrev pub waits : ObjectCounts → Event → Bool
waits objects event = not (is_dropped objects (object_of event))

-- The events that still wait.
abbrev pub waiting : ObjectCounts → List Event → List Event
waiting objects held = filter (waits objects) held

-- The rows of these events are counted.
abbrev pub AreCounted : ObjectCounts → List Event → Type 0
AreCounted objects held = (object : ℕ) → count_of objects object ≡ count_by (λ event. object_of event == object) held

-- The number of an event at its place. Events of a priority follow those of all higher ones.
abbrev pub number_of : QueuedEvent → ℕ
number_of posted = rank_of (priority_of posted.event) * 2 ^ 62 + posted.number % 2 ^ 62

-- This many rows, the first ones, are below a number.
pub record IsCountBelow (rows : List (Keyed QueuedEvent)) (number count : ℕ) : Type 0 where
  pub in_range : count ≤ length rows
  pub below : AllWithin (λ keyed. number_of keyed.row < number) rows 0 count
  pub above : AllWithin (λ keyed. number ≤ number_of keyed.row) rows count (length rows)

-- Each row is below a number, or not below an end.
abbrev pub IsSeat : List (Keyed QueuedEvent) → ℕ → ℕ → Type 0
IsSeat rows number end = All (λ keyed. (number_of keyed.row < number) ⊎ (end ≤ number_of keyed.row)) rows

abbrev pub events_of : List (Keyed QueuedEvent) → List Event
events_of rows = map (λ keyed. keyed.row.event) rows

abbrev pub events_at : Table (List (Keyed QueuedEvent)) → ℕ → List Event
events_at rows place = events_of (rows_at rows place)

-- A place has these events, and the other places are unchanged.
pub record HasEvents (old new : Table (List (Keyed QueuedEvent))) (place : ℕ) (events : List Event) : Type 0 where
  pub changed : ChangesAt [] place old new
  pub now : events_at new place ≡ events

-- At a place these events wait now, and at most as many rows as before are of dropped events. The other places are
-- unchanged.
pub record HasWaiting (old new : Table (List (Keyed QueuedEvent))) (place : ℕ) (before after : ObjectCounts) (events : List Event) : Type 0 where
  pub changed : ChangesAt [] place old new
  pub counted : AreCounted after (events_at new place)
  pub waits : waiting after (events_at new place) ≡ events
  pub fewer : length (events_at new place) + length (waiting before (events_at old place)) ≤ length (events_at old place) + length events

-- What contracts see of a place.
abbrev pub queue_of : List (Keyed QueuedEvent) → Log → Queue
queue_of rows log = record { events = waiting log.objects (events_of rows); lost = log.lost; mismatched = log.mismatched }

-- The log belongs to the rows of these events.
pub record IsLogged (held : List Event) (log : Log) : Type 0 where
  pub few : log.queued ≤ EVENTS
  pub queued : log.queued ≡ length (waiting log.objects held)
  pub few_rows : length held ≤ log.queued + EVENTS
  pub counted : AreCounted log.objects held
  pub lost : log.lost < 2 ^ 64
  pub mismatched : log.mismatched < 2 ^ 64

-- Each place has its log.
pub record AreLogged (rows : Table (List (Keyed QueuedEvent))) (logs : Table Log) : Type 0 where
  pub same : length rows.places ≡ length logs.places
  pub each : (place : ℕ) (default : Log) → place < length rows.places → IsLogged (events_at rows place) (slice_index_or logs.places place default)
