use Rattle.event_queue.proofs.OrderLemmas.{IsSweeping}
use Rattle.event_queue.proofs.order.sweep.Given as goal

abbrev pub invariant-rows : goal.invariant-rows
invariant-rows l = IsSweeping l.initial.rows l.rows l.place l.initial.objects l.objects l.position
