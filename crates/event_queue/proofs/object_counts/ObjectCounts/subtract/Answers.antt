use Rattle.std.proofs.Common.{◌∙◌, ◌-◌, ap, arith, refl}
use Rattle.event_queue.specs.declared.object_counts.Count.{Count}
use Rattle.event_queue.proofs.EntryLemmas.{count_left, count_now, count_was, entry_gone, fewer_entries, marks_kept, marks_left, none_fewer, none_was}
use Rattle.event_queue.proofs.EntryLemmas.{rows_now, still_entries}
use Rattle.event_queue.proofs.object_counts.ObjectCounts.subtract.Goals as goal

pub returns-in_default-clause-was : goal.returns-in_default-clause-was
returns-in_default-clause-was c =
    ap (λ (count : Count). count.is_dropped) (none_was c.self.view_is c.args.object c.in_default.field-0 c.in_default.ensures)

pub returns-in_default-clause-counted : goal.returns-in_default-clause-counted
returns-in_default-clause-counted c =
    none_fewer c.self.view_is c.args.object (none_was c.self.view_is c.args.object c.in_default.field-0 c.in_default.ensures)

pub returns-then-count-le1 : goal.returns-then-count-le1
returns-then-count-le1 c =
    let was = count_was c.self.view_is c.args.object c.in-Ok.at c.get.result c.in-Ok.ensures (c.get.ensures c.get.result) in
    let rows = ap (λ (count : Count). count.rows) was in
    let left = count_left c.self.view_is c.args.object (ap (λ buffer. buffer.items) c.remove.ensures.others
    ∙ entry_gone c.self.inside.entries.items c.args.object c.self.invariant c.in-Ok.at c.in-Ok.ensures) in
    record { was = ap (λ (count : Count). count.is_dropped) was; counted = rows_now left _ (omega arith); marks = marks_left left refl }

pub invariant_of-self : goal.invariant_of-self
invariant_of-self c =
    fewer_entries c.self.inside.entries.items c.args.object c.self.invariant c.in-Ok.at _ c.in-Ok.ensures (ap (λ buffer. buffer.items) c.remove.ensures.others)

pub returns : goal.returns
returns c =
    let was = count_was c.self.view_is c.args.object c.in-Ok.at c.get.result c.in-Ok.ensures (c.get.ensures c.get.result) in
    let dropped = ap (λ (count : Count). count.is_dropped) was in
    record {
      was = dropped;
      counted = rows_now (count_now c.self.view_is c.args.object _ c.replace_count.ensures) _ (ap (λ (count : Count). count.rows - 1) was);
      marks = λ other some. marks_kept (count_now c.self.view_is c.args.object _ c.replace_count.ensures) dropped other;
    }

pub invariant_of-self-2 : goal.invariant_of-self-2
invariant_of-self-2 c = still_entries c.self.inside.entries.items c.args.object c.self.invariant _ _ c.replace_count.ensures
