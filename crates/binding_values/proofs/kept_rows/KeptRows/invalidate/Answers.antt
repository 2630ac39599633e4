use Rattle.std.proofs.Common.{◌∙◌, ap, is_some, refl, sym, arith}
use Rattle.binding_values.specs.declared.kept_rows.KeptRow.{KeptRow}
use Rattle.binding_values.specs.Keeping.{fresh}
use Rattle.binding_values.proofs.KeepingLemmas.{held_same, kept_there, let_go, none_there, others_only}
use Rattle.binding_values.proofs.MapLemmas.{some_kept}
use Rattle.binding_values.proofs.SortedLemmas.{set_rising}
use Rattle.binding_values.proofs.kept_rows.KeptRows.invalidate.Goals as goal

pub index_mut-row-requires : goal.index_mut-row-requires
index_mut-row-requires c = omega (arith, c.self.inside.rows.ok.0, (rw c.as_slice.ensures.value at c.in-Ok.ensures.row).within)

pub invariant_of-self : goal.invariant_of-self
invariant_of-self c =
    let row = rw c.as_slice.ensures.value at c.in-Ok.ensures.row in
    set_rising c.self.invariant _ row (sym (row.is c.index_mut-row.result.now) ∙ ap (λ (row : KeptRow). row.at) (sym c.index_mut-row.ensures.value))

pub returns-in-Ok-clause-stood : goal.returns-in-Ok-clause-stood
returns-in-Ok-clause-stood c = rw (← c.self.view_is)
    (c.is_some-stood.ensures ∙ (some_kept _ c.fresh.result _ c.fresh.ensures ∙ sym (ap is_some (kept_there fresh c.self.invariant
    (rw c.as_slice.ensures.value at c.in-Ok.ensures.row) c.index_mut-row.result.now c.index_mut-row.ensures.value))))

pub returns-in-Ok-clause-standing : goal.returns-in-Ok-clause-standing
returns-in-Ok-clause-standing c = rw (← c.self.view_is)
    (let_go fresh c.self.invariant (rw c.as_slice.ensures.value at c.in-Ok.ensures.row) _ refl)

pub returns-in-Ok-clause-entries : goal.returns-in-Ok-clause-entries
returns-in-Ok-clause-entries c = rw (← c.self.view_is) (held_same (λ (row : KeptRow). row.kept) c.self.inside.rows.items c.in-Ok.place _
    c.index_mut-row.result.now (rw c.as_slice.ensures.value at c.in-Ok.ensures.row).within
    (ap (λ (row : KeptRow). row.at) c.index_mut-row.ensures.value) (ap (λ (row : KeptRow). row.kept) c.index_mut-row.ensures.value))

pub returns-in-Err-clause-stood : goal.returns-in-Err-clause-stood
returns-in-Err-clause-stood c = rw (← c.self.view_is)
    (sym (ap is_some (none_there fresh c.self.invariant (rw c.as_slice.ensures.value at c.in-Err.ensures.gap))))

pub returns-in-Err-clause-standing : goal.returns-in-Err-clause-standing
returns-in-Err-clause-standing c = rw (← c.self.view_is) (others_only fresh c.self.invariant (rw c.as_slice.ensures.value at c.in-Err.ensures.gap))
