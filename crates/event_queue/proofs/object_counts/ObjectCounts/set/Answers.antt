use Rattle.std.proofs.Common.{ap, arith}
use Rattle.event_queue.specs.declared.object_counts.Count.{Count}
use Rattle.event_queue.proofs.EntryLemmas.{count_now, none_was, still_entries}
use Rattle.event_queue.proofs.object_counts.ObjectCounts.set.Goals as goal

pub invariant_of-self : goal.invariant_of-self
invariant_of-self c = still_entries c.self.inside.entries.items c.args.object c.self.invariant _ _ c.replace_count.ensures

pub returns-in-Ok : goal.returns-in-Ok
returns-in-Ok c = (count_now c.self.view_is c.args.object c.args.count c.replace_count.ensures).counts

pub returns-in_default : goal.returns-in_default
returns-in_default c =
    let rows = ap (λ (count : Count). count.rows) (none_was c.self.view_is c.args.object c.in_default.field-0 c.in_default.ensures) in
    absurd (omega arith)
