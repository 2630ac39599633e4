use Rattle.std.proofs.Common.{refl, arith}
use Rattle.shared_rows.specs.Rows.{rows_at}
use Rattle.event_queue.proofs.SeatLemmas.{look_left, look_right}
use Rattle.event_queue.proofs.order.count_below.Goals.{else-number, then-number}
use Rattle.event_queue.proofs.order.count_below.Goals as goal

pub looks-preserved : goal.looks-preserved
looks-preserved c =
    let rows = rows_at c.args.rows.now c.args.place in
    elim c.if-number.branch [
      | then-number w ↦ rw (w.low-is, w.high-is)
          (look_right rows c.len-high.ensures.sound c.args.number c.looks.low c.looks.high c.looks.at _ c.at.result.0 c.at.result.1.now c.looks.invariant
          c.looks-test.true c.at.ensures (omega arith) refl)
      | else-number w ↦ rw (w.low-is, w.high-is)
          (look_left rows c.len-high.ensures.sound c.args.number c.looks.low c.looks.high c.looks.at _ c.at.result.0 c.at.result.1.now c.looks.invariant
          c.looks-test.true c.at.ensures (omega arith) refl)
    ]
