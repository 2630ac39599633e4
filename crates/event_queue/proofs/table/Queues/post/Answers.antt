use Rattle.std.proofs.Common.{◌∙◌, arith, sym, rules}
use Rattle.shared_rows.proofs.ForCallers.{changes_open}
use Rattle.shared_rows.proofs.ForCallers.{on_err}
use Rattle.event_queue.proofs.QueueLemmas.{back_again, count_fits, full_stays, logged, of_logs, of_rows, one_posted, takes_more, unposted, waits_back}
use Rattle.event_queue.proofs.QueueLemmas.{waits_placed, waits_same}
use Rattle.event_queue.proofs.table.Queues.post.Goals as goal

pub get_mut-log-requires : goal.get_mut-log-requires
get_mut-log-requires c = search (rules, of_logs)

pub returns-then-log-ge-EVENTS-clause-answer : goal.returns-then-log-ge-EVENTS-clause-answer
returns-then-log-ge-EVENTS-clause-answer c =
    sym (full_stays c.self.invariant c.self.view_is c.requires c.get_mut-log.ensures.value c.args.event (omega arith)).0

pub returns-then-log-ge-EVENTS-clause-ok : goal.returns-then-log-ge-EVENTS-clause-ok
returns-then-log-ge-EVENTS-clause-ok c = search (rules, full_stays)

pub make_way-requires-clause-place : goal.make_way-requires-clause-place
make_way-requires-clause-place c = search (rules, of_rows)

pub make_way-requires-clause-counted : goal.make_way-requires-clause-counted
make_way-requires-clause-counted c = (logged c.self.invariant c.self.view_is c.requires c.get_mut-log.ensures.value).counted

pub make_way-requires-clause-queued : goal.make_way-requires-clause-queued
make_way-requires-clause-queued c = search (rules, logged)

pub add-requires : goal.add-requires
add-requires c = search (rules, count_fits)

pub returns-in_err-add-clause-err : goal.returns-in_err-add-clause-err
returns-in_err-add-clause-err c = on_err c.from_residual.result
    ((unposted c.self.invariant c.self.view_is c.requires c.get_mut-log.ensures.value
    (waits_same c.make_way.ensures.rest c.add.new.self c.in_err-add.ensures.err)).view
    ∙ back_again c.self.invariant c.self.view_is c.requires c.get_mut-log.ensures.value)

pub place_event-requires : goal.place_event-requires
place_event-requires c = search (rules, changes_open, of_rows)

pub invariant_of-self-in-Err : goal.invariant_of-self-in-Err
invariant_of-self-in-Err c = rw c.in-Err.ensures.err (unposted c.self.invariant c.self.view_is c.requires c.get_mut-log.ensures.value
    (waits_back c.make_way.ensures.rest c.add.new.self c.object-object.result c.make_way.ensures.way c.in_ok-add.ensures.ok c.in_ok-add.ensures.marks
    c.subtract.new.self c.subtract.ensures.counted c.subtract.ensures.marks)).kept

pub returns-in-Err-clause-err : goal.returns-in-Err-clause-err
returns-in-Err-clause-err c = rw c.in-Err.ensures.err ((unposted c.self.invariant c.self.view_is c.requires c.get_mut-log.ensures.value
    (waits_back c.make_way.ensures.rest c.add.new.self c.object-object.result c.make_way.ensures.way c.in_ok-add.ensures.ok c.in_ok-add.ensures.marks
    c.subtract.new.self c.subtract.ensures.counted c.subtract.ensures.marks)).view
    ∙ back_again c.self.invariant c.self.view_is c.requires c.get_mut-log.ensures.value)

pub invariant_of-self-2 : goal.invariant_of-self-2
invariant_of-self-2 c =
    (one_posted c.self.invariant c.self.view_is c.requires c.get_mut-log.ensures.value c.args.event (omega arith)
    (waits_placed c.make_way.ensures.rest c.add.new.self c.object-object.result c.make_way.ensures.way c.in_ok-add.ensures.ok c.in_ok-add.ensures.marks
    c.args.event (sym c.object-object.ensures) c.in_default.ensures.ok)).kept

pub returns-clause-answer : goal.returns-clause-answer
returns-clause-answer c = sym (takes_more c.self.invariant c.self.view_is c.requires c.get_mut-log.ensures.value (omega arith))

pub returns-clause-ok : goal.returns-clause-ok
returns-clause-ok c =
    (one_posted c.self.invariant c.self.view_is c.requires c.get_mut-log.ensures.value c.args.event (omega arith)
    (waits_placed c.make_way.ensures.rest c.add.new.self c.object-object.result c.make_way.ensures.way c.in_ok-add.ensures.ok c.in_ok-add.ensures.marks
    c.args.event (sym c.object-object.ensures) c.in_default.ensures.ok)).view
