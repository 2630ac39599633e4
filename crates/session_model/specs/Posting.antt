-- Events and their counts.
use Rattle.std.specs.Prelude.{ℕ, Bool, true, false, Option, Some, None, length, if◌then◌else◌}
use Rattle.plain_types.specs.declared.code.Code.{Code}
use Rattle.plain_types.specs.declared.code.Code.TheVariants.{Limit}
use Rattle.plain_types.specs.declared.connection_type.ConnectionType.{ConnectionType}
use Rattle.plain_types.specs.declared.connection_type.ConnectionType.TheVariants.{Auto, Direct, Queued}
use Rattle.event_queue.specs.Queue.{Queue, has_room}
use Rattle.session_model.specs.declared.line.Spin.{Spin}
use Rattle.session_model.specs.Execution.{Execution}

-- Whether a call is queued as an event. Sender and receiver are in one session, so `auto` is direct.
abbrev pub is_queued : ConnectionType → Bool
is_queued Auto = false
is_queued Direct = false
is_queued Queued = true

-- Why no event can be queued.
abbrev pub enqueue_refusal : Queue → Option Code
enqueue_refusal queue = if has_room queue then None else Some Limit

-- The reply after this many events were taken.
abbrev pub spin_after : ℕ → Queue → Spin
spin_after taken queue = record { events = taken; left = length queue.events; lost = queue.lost; mismatched = queue.mismatched }

abbrev pub spin_of : Execution → Spin
spin_of doing = spin_after doing.taken doing.state.queue
