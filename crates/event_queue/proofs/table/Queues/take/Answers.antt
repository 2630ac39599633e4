use Rattle.std.proofs.Common.{rules}
use Rattle.event_queue.proofs.QueueLemmas.{first_taken, logged, none_taken, of_logs, of_rows, seen}
use Rattle.event_queue.proofs.table.Queues.take.Goals as goal

pub get_mut-log-requires : goal.get_mut-log-requires
get_mut-log-requires c = search (rules, of_logs)

pub take_first-requires : goal.take_first-requires
take_first-requires c = record {
  place = of_rows c.self.invariant c.self.view_is c.requires;
  counted = (logged c.self.invariant c.self.view_is c.requires c.get_mut-log.ensures.value).counted;
}

pub invariant_of-self : goal.invariant_of-self
invariant_of-self c = (none_taken c.self.invariant c.self.view_is c.requires c.get_mut-log.ensures.value c.take_first.ensures.rest
    c.in_err-event.ensures.first).kept

pub returns-in_err-event : goal.returns-in_err-event
returns-in_err-event c = record {
  first = search (rules, seen);
  rest = (none_taken c.self.invariant c.self.view_is c.requires c.get_mut-log.ensures.value c.take_first.ensures.rest c.in_err-event.ensures.first).view;
}

pub overflow_sub-log : goal.overflow_sub-log
overflow_sub-log c = (first_taken c.self.invariant c.self.view_is c.requires c.get_mut-log.ensures.value c.take_first.ensures.rest
    c.in_ok-event.ensures.first).0

pub invariant_of-self-2 : goal.invariant_of-self-2
invariant_of-self-2 c = (first_taken c.self.invariant c.self.view_is c.requires c.get_mut-log.ensures.value c.take_first.ensures.rest
    c.in_ok-event.ensures.first).1.kept

pub returns : goal.returns
returns c = record {
  first = search (rules, seen);
  rest = (first_taken c.self.invariant c.self.view_is c.requires c.get_mut-log.ensures.value c.take_first.ensures.rest c.in_ok-event.ensures.first).1.view;
}
