use Rattle.std.proofs.Common.{rules}
use Rattle.event_queue.proofs.OrderLemmas.{has_events}
use Rattle.event_queue.proofs.SeatLemmas.{made_absent, made_inserted}
use Rattle.event_queue.proofs.order.insert_event.Goals as goal

pub insert-requires-clause-absent : goal.insert-requires-clause-absent
insert-requires-clause-absent c = search (rules, made_absent)

pub returns-clause-ok : goal.returns-clause-ok
returns-clause-ok c = search (rules, has_events, made_inserted)
