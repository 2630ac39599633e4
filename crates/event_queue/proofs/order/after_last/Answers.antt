use Rattle.std.proofs.Common.{◌+◌, ◌-◌, arith}
use Rattle.shared_rows.specs.Rows.{rows_at}
use Rattle.event_queue.proofs.SeatLemmas.{below_next}
use Rattle.event_queue.proofs.order.after_last.Goals as goal

pub returns-then-len-eq0 : goal.returns-then-len-eq0
returns-then-len-eq0 c k d within = absurd (omega arith)

pub returns : goal.returns
returns c =
    below_next (rows_at c.args.rows.now c.args.place) c.len-len.ensures.sound c.len-len.result (c.len-len.result - 1) c.at.result.0 (c.number.result + 1)
    c.at.result.1.now c.len-len.ensures.len (omega arith) c.at.ensures (omega arith)
