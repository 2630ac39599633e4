use Rattle.std.proofs.Common.{◌+◌, ◌-◌, ◌^◌, arith}
use Rattle.shared_rows.specs.Rows.{rows_at}
use Rattle.event_queue.proofs.SeatLemmas.{last_below, seat_behind}
use Rattle.event_queue.proofs.order.next_number.Goals as goal

pub returns-clause-few : goal.returns-clause-few
returns-clause-few c =
    let below = last_below (rows_at c.args.rows.now c.args.place) (c.args.start + 2 ^ 62) c.args.before
    (c.args.before - 1) c.at.result.0 c.at.result.1.now c.requires.before (omega arith) c.at.ensures in
    omega arith

pub returns-clause-seat : goal.returns-clause-seat
returns-clause-seat c =
    seat_behind (rows_at c.args.rows.now c.args.place) (c.args.start + 2 ^ 62) c.requires.sound c.args.before (c.args.before - 1)
    (c.args.start + c.saturating_sub.result) c.at.result.0 c.at.result.1.now c.requires.before
    (omega arith) c.at.ensures (omega arith)
