use Rattle.std.proofs.Common.{◌∙◌, ap}
use Rattle.event_queue.proofs.EntryLemmas.{entry_set}
use Rattle.event_queue.proofs.object_counts.replace_count.Goals as goal

pub returns : goal.returns
returns c =
    ap (λ buffer. buffer.items) c.set.ensures
    ∙ entry_set c.args.entries.now.items c.args.object c.requires.order c.args.at c.args.count c.requires.seat
