use Rattle.std.proofs.Common.{◌-◌}
use Rattle.shared_rows.specs.Rows.{rows_at}
use Rattle.event_queue.proofs.SeatLemmas.{IsLooking}
use Rattle.event_queue.proofs.order.count_below.Given as goal

abbrev pub invariant-looks : goal.invariant-looks
invariant-looks l = IsLooking (rows_at l.rows l.place) l.number l.low l.high l.at

abbrev pub decreases-looks : goal.decreases-looks
decreases-looks l = l.high - l.low
