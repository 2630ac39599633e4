use Rattle.std.proofs.Common.{refl}
use Rattle.binding_values.specs.declared.kept_rows.KeptRow.{KeptRow}
use Rattle.binding_values.specs.Keeping.{fresh}
use Rattle.binding_values.proofs.KeepingLemmas.{put_new, put_there}
use Rattle.binding_values.proofs.SortedLemmas.{insert_rising}
use Rattle.binding_values.proofs.kept_rows.KeptRows.put.Goals as goal

pub returns-in-Ok-clause-standing : goal.returns-in-Ok-clause-standing
returns-in-Ok-clause-standing c = rw (c.into_row-new.ensures, ← c.self.view_is)
    (put_there fresh c.args.row refl _ c.self.invariant (rw (c.as_slice.ensures.value, c.into_row-new.ensures) at c.in-Ok.ensures.row))

pub returns-in-Ok-clause-entries : goal.returns-in-Ok-clause-entries
returns-in-Ok-clause-entries c = rw (c.into_row-new.ensures, ← c.self.view_is)
    (put_there (λ (row : KeptRow). row.kept) c.args.row refl _ c.self.invariant
    (rw (c.as_slice.ensures.value, c.into_row-new.ensures) at c.in-Ok.ensures.row))

pub invariant_of-self-in-Err : goal.invariant_of-self-in-Err
invariant_of-self-in-Err c = rw (c.in_ok-insert-in-Err.ensures.items, c.into_row-new.ensures)
    (insert_rising c.self.invariant _ (rw (c.as_slice.ensures.value, c.into_row-new.ensures) at c.in-Err.ensures.gap))

pub returns-in_ok-insert-in-Err-clause-standing : goal.returns-in_ok-insert-in-Err-clause-standing
returns-in_ok-insert-in-Err-clause-standing c = rw (c.in_ok-insert-in-Err.ensures.items, c.into_row-new.ensures, ← c.self.view_is)
    (put_new fresh c.args.row refl _ c.self.invariant (rw (c.as_slice.ensures.value, c.into_row-new.ensures) at c.in-Err.ensures.gap))

pub returns-in_ok-insert-in-Err-clause-entries : goal.returns-in_ok-insert-in-Err-clause-entries
returns-in_ok-insert-in-Err-clause-entries c = rw (c.in_ok-insert-in-Err.ensures.items, c.into_row-new.ensures, ← c.self.view_is)
    (put_new (λ (row : KeptRow). row.kept) c.args.row refl _ c.self.invariant (rw (c.as_slice.ensures.value, c.into_row-new.ensures) at c.in-Err.ensures.gap))
