use Rattle.std.proofs.Common.{[], refl, rules}
use Rattle.event_queue.proofs.OrderLemmas.{has_events}
use Rattle.event_queue.proofs.QueueLemmas.{all_cleared, of_logs, of_rows}
use Rattle.event_queue.proofs.table.Queues.clear.Goals as goal

pub clear-requires : goal.clear-requires
clear-requires c = search (rules, of_rows)

pub get_mut-requires : goal.get_mut-requires
get_mut-requires c = search (rules, of_logs)

pub returns : goal.returns
returns c =
    (all_cleared c.self.invariant c.self.view_is c.requires c.get_mut.ensures.value
    (has_events c.self.inside.rows c.clear.new.self c.args.place [] [] (of_rows c.self.invariant c.self.view_is c.requires) c.clear.ensures refl)
    c.new.ensures.lost c.new.ensures.mismatched c.new.ensures.logged).view
