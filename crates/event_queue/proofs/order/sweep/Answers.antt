use Rattle.std.proofs.Common.{◌∙◌, ◌-◌, ap, sym, subst, arith}
use Rattle.shared_rows.specs.Rows.{rows_at}
use Rattle.shared_rows.proofs.RowsLemmas.{some_at}
use Rattle.event_queue.specs.declared.object_counts.Count.{Count}
use Rattle.event_queue.specs.Inside.{IsCounted, count_of, is_dropped}
use Rattle.event_queue.proofs.OrderLemmas.{row_there, sweep_drops, sweep_ends, sweep_on, sweep_passes}
use Rattle.event_queue.proofs.order.sweep.Goals as goal

pub remove-requires-clause-stands : goal.remove-requires-clause-stands
remove-requires-clause-stands c =
    let under = sweep_on c.rows.invariant (omega arith) in
    some_at (rows_at c.rows.rows c.args.place) (c.rows.position - 1) c.at-key.result.0 c.at-key.result.1.now
    (row_there c.requires.place under) c.at-key.ensures

pub rows-preserved-then-count : goal.rows-preserved-then-count
rows-preserved-then-count c =
    let under = sweep_on c.rows.invariant (omega arith) in
    sweep_drops c.requires.place under c.at-key.ensures c.subtract.new.self
    (ap (is_dropped c.rows.objects) (sym c.object-object.ensures) ∙ (sym (ap (λ (count : Count). count.is_dropped) c.count.ensures) ∙ c.if-count.true))
    c.remove.ensures.rest (subst (λ n. IsCounted c.rows.objects c.subtract.new.self n (count_of c.rows.objects n - 1)) c.object-object.ensures
    c.subtract.ensures.counted) c.subtract.ensures.marks

pub rows-preserved : goal.rows-preserved
rows-preserved c =
    let under = sweep_on c.rows.invariant (omega arith) in
    sweep_passes c.requires.place under c.at-key.ensures
    (ap (is_dropped c.rows.objects) (sym c.object-object.ensures) ∙ (sym (ap (λ (count : Count). count.is_dropped) c.count.ensures) ∙ c.if-count.false))

pub returns-clause-rest : goal.returns-clause-rest
returns-clause-rest c = sweep_ends c.rows.invariant (omega arith)
