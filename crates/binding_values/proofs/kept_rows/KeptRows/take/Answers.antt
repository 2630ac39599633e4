use Rattle.std.proofs.Common.{◌≡◌, ◌∙◌, Bool, None, Option, cond, false, true, ap, refl, sym, arith}
use Rattle.binding_values.specs.declared.eval_result.EvalResult.{EvalResult}
use Rattle.binding_values.specs.declared.kept_rows.KeptRow.{KeptRow}
use Rattle.binding_values.specs.Keeping.{fresh}
use Rattle.binding_values.proofs.KeepingLemmas.{let_go, others_only}
use Rattle.binding_values.proofs.SortedLemmas.{set_rising}
use Rattle.binding_values.proofs.kept_rows.KeptRows.take.Goals as goal

pub index_mut-requires : goal.index_mut-requires
index_mut-requires c = omega (arith, c.self.inside.rows.ok.0, (rw c.as_slice.ensures.value at c.in-Ok.ensures.row).within)

pub invariant_of-self : goal.invariant_of-self
invariant_of-self c =
    let row = rw c.as_slice.ensures.value at c.in-Ok.ensures.row in
    set_rising c.self.invariant _ row (sym (row.is c.index_mut.result.now) ∙ ap (λ (row : KeptRow). row.at) (sym c.index_mut.ensures.value))

nothing : (stale : Bool) (kept : Option EvalResult) → kept ≡ None → cond stale None kept ≡ None
nothing true kept none = refl
nothing false kept none = none

pub returns-in-Ok-clause-standing : goal.returns-in-Ok-clause-standing
returns-in-Ok-clause-standing c = rw (← c.self.view_is) (let_go fresh c.self.invariant (rw c.as_slice.ensures.value at c.in-Ok.ensures.row) _
    (nothing c.index_mut.result.now.is_stale c.take.new.self c.take.ensures.after))

pub returns-in-Ok-clause-entries : goal.returns-in-Ok-clause-entries
returns-in-Ok-clause-entries c = rw (← c.self.view_is)
    (let_go (λ (row : KeptRow). row.kept) c.self.invariant (rw c.as_slice.ensures.value at c.in-Ok.ensures.row) _ c.take.ensures.after)

pub returns-in-Err-clause-standing : goal.returns-in-Err-clause-standing
returns-in-Err-clause-standing c = rw (← c.self.view_is) (others_only fresh c.self.invariant (rw c.as_slice.ensures.value at c.in-Err.ensures.gap))

pub returns-in-Err-clause-entries : goal.returns-in-Err-clause-entries
returns-in-Err-clause-entries c = rw (← c.self.view_is)
    (others_only (λ (row : KeptRow). row.kept) c.self.invariant (rw c.as_slice.ensures.value at c.in-Err.ensures.gap))
