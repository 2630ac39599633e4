use Rattle.std.proofs.Common.{arith, rules}
use Rattle.event_queue.proofs.QueueLemmas.{all_dropped, all_swept, fewer_queued, left_counted, logged, of_logs, of_rows}
use Rattle.event_queue.proofs.table.Queues.drop_object.Goals as goal

pub get_mut-log-requires : goal.get_mut-log-requires
get_mut-log-requires c = search (rules, of_logs)

pub overflow_sub-log : goal.overflow_sub-log
overflow_sub-log c = fewer_queued c.self.invariant c.self.view_is c.requires c.get_mut-log.ensures.value c.drop_events.new.self c.args.object
    c.drop_events.ensures.counted c.drop_events.ensures.marks c.drop_events.ensures.waited

pub len-requires : goal.len-requires
len-requires c = search (rules, of_rows)

pub overflow_mul-log : goal.overflow_mul-log
overflow_mul-log c = omega (arith, (logged c.self.invariant c.self.view_is c.requires c.get_mut-log.ensures.value).few)

pub sweep-requires-clause-counted : goal.sweep-requires-clause-counted
sweep-requires-clause-counted c = search (rules, left_counted)

pub invariant_of-self : goal.invariant_of-self
invariant_of-self c =
    (all_swept c.self.invariant c.self.view_is c.requires c.get_mut-log.ensures.value c.drop_events.new.self c.args.object c.drop_events.ensures.counted
    c.drop_events.ensures.marks c.drop_events.ensures.waited
    c.sweep.ensures.rest c.sweep.ensures.all).kept

pub returns-then-len-log : goal.returns-then-len-log
returns-then-len-log c =
    (all_swept c.self.invariant c.self.view_is c.requires c.get_mut-log.ensures.value c.drop_events.new.self c.args.object c.drop_events.ensures.counted
    c.drop_events.ensures.marks c.drop_events.ensures.waited
    c.sweep.ensures.rest c.sweep.ensures.all).view

pub invariant_of-self-else-len-log : goal.invariant_of-self-else-len-log
invariant_of-self-else-len-log c =
    (all_dropped c.self.invariant c.self.view_is c.requires c.get_mut-log.ensures.value c.drop_events.new.self c.args.object c.drop_events.ensures.counted
    c.drop_events.ensures.marks c.drop_events.ensures.waited
    (omega arith)).kept

pub returns-else-len-log : goal.returns-else-len-log
returns-else-len-log c =
    (all_dropped c.self.invariant c.self.view_is c.requires c.get_mut-log.ensures.value c.drop_events.new.self c.args.object c.drop_events.ensures.counted
    c.drop_events.ensures.marks c.drop_events.ensures.waited
    (omega arith)).view
