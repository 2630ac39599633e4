use Rattle.std.proofs.Common.{◌∙◌, ◌*◌, ◌^◌, ap, arith, rules}
use Rattle.shared_rows.specs.Rows.{rows_at}
use Rattle.event_queue.specs.Queue.{rank_of}
use Rattle.event_queue.proofs.OrderLemmas.{has_events}
use Rattle.event_queue.proofs.SeatLemmas.{made_above, made_last}
use Rattle.event_queue.proofs.order.place_event.Goals as goal

pub push-requires-clause-number : goal.push-requires-clause-number
push-requires-clause-number c =
    made_above (rows_at c.args.rows.now c.args.place) c.args.event c.after_last-next.result (c.rank-start.result * 2 ^ 62) c.saturating_sub-number.result
    (ap (λ n. n * 2 ^ 62) (c.rank-start.ensures.rank ∙ ap rank_of c.priority.ensures)) c.after_last-next.ensures
    (omega arith) c.saturating_sub-number.ensures

pub returns-clause-ok : goal.returns-clause-ok
returns-clause-ok c =
    let last = made_last (rows_at c.args.rows.now c.args.place) c.args.event c.after_last-next.result (c.rank-start.result * 2 ^ 62)
    c.saturating_sub-number.result
    (ap (λ n. n * 2 ^ 62) (c.rank-start.ensures.rank ∙ ap rank_of c.priority.ensures)) c.after_last-next.ensures
    (omega arith) c.saturating_sub-number.ensures in
    search (rules, has_events, last)
