-- What contracts see of the queues of all places.
use Rattle.std.specs.Prelude.{ℕ, slice_index_or}
use Rattle.shared_rows.specs.Table.{Table, with_place}
use Rattle.event_queue.specs.Queue.{Queue, empty_queue}

-- The queue of a place.
abbrev pub queue_at : Table Queue → ℕ → Queue
queue_at table place = slice_index_or table.places place empty_queue

-- The table with a different queue at a place.
abbrev pub with_queue : Table Queue → ℕ → Queue → Table Queue
with_queue table place queue = with_place table place queue
