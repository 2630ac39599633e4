use Rattle.event_queue.proofs.EntryLemmas.{count_was, none_was}
use Rattle.event_queue.proofs.object_counts.ObjectCounts.count.Goals as goal

pub returns-in-Ok : goal.returns-in-Ok
returns-in-Ok c = count_was c.self.view_is c.args.object c.in-Ok.at c.get.result c.in-Ok.ensures (c.get.ensures c.get.result)

pub returns-in-Err : goal.returns-in-Err
returns-in-Err c = none_was c.self.view_is c.args.object c.in-Err.field-0 c.in-Err.ensures
