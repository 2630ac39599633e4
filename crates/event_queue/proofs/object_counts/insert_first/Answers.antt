use Rattle.std.proofs.Common.{◌∙◌, ap, arith, false, length}
use Rattle.std.specs.List.{insert}
use Rattle.event_queue.proofs.EntryLemmas.{entry_put}
use Rattle.event_queue.proofs.object_counts.insert_first.Goals as goal

pub insert_reserved-requires-clause-within : goal.insert_reserved-requires-clause-within
insert_reserved-requires-clause-within c = omega (arith, ap length c.in_ok-reserve.ensures.items)

pub returns-clause-ok : goal.returns-clause-ok
returns-clause-ok c =
    ap (λ buffer. buffer.items) c.insert_reserved.ensures
    ∙ (ap (λ items. insert items c.args.at (record { object = c.args.object; count = record { rows = 1; is_dropped = false } })) c.in_ok-reserve.ensures.items
    ∙ entry_put c.args.entries.now.items c.args.object c.requires.order c.args.at (record { rows = 1; is_dropped = false }) c.requires.seat)
