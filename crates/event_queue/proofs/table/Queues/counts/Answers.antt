use Rattle.std.proofs.Common.{rules}
use Rattle.event_queue.proofs.QueueLemmas.{counts_told, of_logs, sound_at}
use Rattle.event_queue.proofs.table.Queues.counts.Goals as goal

pub get-log-requires : goal.get-log-requires
get-log-requires c = search (rules, of_logs)

pub returns : goal.returns
returns c = record { counts = search (rules, counts_told); sound = sound_at c.self.invariant c.self.view_is c.requires c.get-log.ensures }
