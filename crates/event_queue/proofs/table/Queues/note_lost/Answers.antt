use Rattle.std.proofs.Common.{rules}
use Rattle.event_queue.proofs.QueueLemmas.{lost_noted, of_logs}
use Rattle.event_queue.proofs.table.Queues.note_lost.Goals as goal

pub get_mut-log-requires : goal.get_mut-log-requires
get_mut-log-requires c = search (rules, of_logs)

pub returns : goal.returns
returns c = (lost_noted c.self.invariant c.self.view_is c.requires c.get_mut-log.ensures.value c.saturating_add-log.ensures).view
