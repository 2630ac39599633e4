use Rattle.std.proofs.Common.{length}
use Rattle.event_queue.specs.Inside.{events_at}
use Rattle.event_queue.proofs.OrderLemmas.{IsTaking}
use Rattle.event_queue.proofs.order.take_first.Given as goal

abbrev pub invariant-rows : goal.invariant-rows
invariant-rows l = IsTaking l.fn.rows l.rows l.place l.fn.objects l.objects

abbrev pub decreases-rows : goal.decreases-rows
decreases-rows l = length (events_at l.rows l.place)
