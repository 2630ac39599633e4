use Rattle.std.proofs.Common.{rules}
use Rattle.std.proofs.lemmas.List.{length-map}
use Rattle.event_queue.proofs.OrderLemmas.{all_waiting, none_dropped}
use Rattle.event_queue.proofs.order.make_way.Goals.{else-len-queued-via-then-len-queued+else-count, else-len-queued-via-else-len-queued}
use Rattle.event_queue.proofs.order.make_way.Goals as goal

pub returns-then-count-clause-way : goal.returns-then-count-clause-way
returns-then-count-clause-way c = search (rules, none_dropped)

pub returns-else-len-queued-clause-way : goal.returns-else-len-queued-clause-way
returns-else-len-queued-clause-way c = search (
  rules,
  else-len-queued-via-then-len-queued+else-count,
  else-len-queued-via-else-len-queued,
  none_dropped,
  all_waiting,
  length-map,
)
