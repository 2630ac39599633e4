use Rattle.std.proofs.Common.{◌∙◌, ◌+◌, ap, arith}
use Rattle.std.proofs.lemmas.Result.{on_err_weaker, on_ok_weaker}
use Rattle.event_queue.specs.declared.object_counts.Count.{Count}
use Rattle.event_queue.specs.Entries.{ObjectCounts}
use Rattle.event_queue.specs.Inside.{count_at}
use Rattle.event_queue.proofs.EntryLemmas.{count_now, count_was, marks_now, none_was, order_either, rows_now, still_entries}
use Rattle.event_queue.proofs.object_counts.ObjectCounts.add.Goals as goal

pub overflow_add-rows : goal.overflow_add-rows
overflow_add-rows c =
    let was = count_was c.self.view_is c.args.object c.in-Ok.at c.get-rows.result c.in-Ok.ensures (c.get-rows.ensures c.get-rows.result) in
    let rows = ap (λ (count : Count). count.rows) was in
    omega arith

pub invariant_of-self : goal.invariant_of-self
invariant_of-self c = still_entries c.self.inside.entries.items c.args.object c.self.invariant _ _ c.replace_count.ensures

pub returns-in-Ok : goal.returns-in-Ok
returns-in-Ok c =
    let was = count_was c.self.view_is c.args.object c.in-Ok.at c.get-rows.result c.in-Ok.ensures (c.get-rows.ensures c.get-rows.result) in
    record {
      ok = rows_now (count_now c.self.view_is c.args.object _ c.replace_count.ensures) _ (ap (λ (count : Count). count.rows + 1) was);
      marks = marks_now (count_now c.self.view_is c.args.object _ c.replace_count.ensures);
      err = tt;
    }

pub invariant_of-self-in-Err : goal.invariant_of-self-in-Err
invariant_of-self-in-Err c =
    order_either c.self.inside.entries.items c.args.object _ _ c.self.invariant c.insert_first.result c.insert_first.ensures.ok c.insert_first.ensures.err

pub returns-in-Err : goal.returns-in-Err
returns-in-Err c = record {
  ok = on_ok_weaker c.insert_first.result (λ put. rows_now (count_now c.self.view_is c.args.object _ put) _
      (ap (λ (count : Count). count.rows + 1) (none_was c.self.view_is c.args.object c.in-Err.at c.in-Err.ensures)))
      c.insert_first.ensures.ok;
  marks = on_ok_weaker c.insert_first.result (λ put. marks_now (count_now c.self.view_is c.args.object _ put)) c.insert_first.ensures.ok;
  err = on_err_weaker c.insert_first.result (λ same other. ap (λ (list : ObjectCounts). count_at list other) (same ∙ c.self.view_is))
      c.insert_first.ensures.err;
}
