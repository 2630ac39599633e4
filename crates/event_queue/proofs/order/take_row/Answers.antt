use Rattle.std.proofs.Common.{arith}
use Rattle.shared_rows.specs.Rows.{rows_at, without}
use Rattle.shared_rows.proofs.RowsLemmas.{some_at}
use Rattle.event_queue.specs.declared.event.QueuedEvent.{QueuedEvent}
use Rattle.event_queue.proofs.OrderLemmas.{first_event, has_events, shown_without}
use Rattle.event_queue.proofs.order.take_row.Goals as goal

pub remove-requires-clause-stands : goal.remove-requires-clause-stands
remove-requires-clause-stands c =
    some_at (rows_at c.args.rows.now c.args.place) _ c.at-key.result.0 c.at-key.result.1.now
    (omega arith) c.at-key.ensures

pub returns : goal.returns
returns c =
    let rows = rows_at c.args.rows.now c.args.place in
    record {
      first = first_event rows c.at-key.result.0 c.at-key.result.1.now c.remove.result (omega arith) c.at-key.ensures c.remove.ensures.row;
      rest = has_events c.args.rows.now c.remove.new.self c.args.place (without rows c.at-key.result.0) _ c.requires c.remove.ensures.rest
          (shown_without (λ (posted : QueuedEvent). posted.event) rows c.len.ensures.sound.apart 0 c.at-key.result.0 c.at-key.result.1.now (omega arith)
          c.at-key.ensures);
    }
