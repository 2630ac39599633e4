use Rattle.std.proofs.Common.{◌≡◌, ◌∙◌, ◌∷◌, [], ℕ, All, Contains, List, None, get_or, set, is_some, ap, arith, refl, subst, sym}
use Rattle.binding_values.specs.declared.eval_result.CacheEntry.{CacheEntry}
use Rattle.binding_values.specs.declared.kept_rows.KeptRow.{KeptRow}
use Rattle.binding_values.specs.declared.readers.Edge.{Edge}
use Rattle.binding_values.specs.EvalResult.{kept_of}
use Rattle.binding_values.specs.Keeping.{HasRead, entries, fresh, renewed, standing}
use Rattle.binding_values.specs.Reached.{AreKeptToo, HasReaders}
use Rattle.binding_values.specs.Readers.{edge_of}
use Rattle.binding_values.specs.Sorted.{IsRising, IsRowAt}
use Rattle.binding_values.proofs.KeepingLemmas.{kept_there, none_there, put_there}
use Rattle.binding_values.proofs.MapLemmas.{not_there, some_kept}
use Rattle.binding_values.proofs.ReachedLemmas.{kept_already, kept_put, readers_put}
use Rattle.binding_values.proofs.SortedLemmas.{set_rising}
use Rattle.binding_values.proofs.kept_rows.KeptRows.renew.Goals as goal

-- the row of the property has its place
module _ (row : CacheEntry) {rows : List KeptRow} {place : ℕ} (rising : IsRising (λ (row : KeptRow). row.at) rows)
    (there : IsRowAt (λ (row : KeptRow). row.at) rows row.at place) where
  kept_too : kept_of (standing rows) row.at ≡ None → AreKeptToo (row ∷ []) (standing rows) (standing (set rows place (renewed row)))
  kept_too none = kept_put row (standing rows) (standing (set rows place (renewed row))) (put_there fresh row refl rows rising there) none

  still_led : (d : KeptRow) → d ≡ get_or rows place d → HasRead d row.kept.reads → (edges : List Edge) → HasReaders (entries rows) edges
      → HasReaders (entries (set rows place (renewed row))) edges
  still_led d is read edges has = readers_put row (entries rows) (entries (set rows place (renewed row))) edges
      (put_there (λ (row : KeptRow). row.kept) row refl rows rising there)
      (subst (All (λ read. Contains edges (edge_of read row.at))) read.same
      (has row.at read.last (kept_there (λ (row : KeptRow). row.kept) rising there d is ∙ read.found)))
      has

pub index-requires : goal.index-requires
index-requires c = omega (arith, c.self.inside.rows.ok.0, (rw c.as_slice.ensures.value at c.in-Ok.ensures.row).within)

pub index-requires-in-Ok : goal.index-requires-in-Ok
index-requires-in-Ok c = omega (arith, c.self.inside.rows.ok.0, (rw c.as_slice.ensures.value at c.in-Ok.ensures.row).within)

pub index_mut-requires : goal.index_mut-requires
index_mut-requires c = omega (arith, c.self.inside.rows.ok.0, (rw c.as_slice.ensures.value at c.in-Ok.ensures.row).within)

pub returns-then-is_some-clause-kept : goal.returns-then-is_some-clause-kept
returns-then-is_some-clause-kept c =
    rw (← c.self.view_is) (kept_already c.args.row (standing c.self.inside.rows.items)
    (ap is_some (kept_there fresh c.self.invariant (rw c.as_slice.ensures.value at c.in-Ok.ensures.row) c.index.result.now c.index.ensures)
    ∙ (sym (some_kept _ c.fresh.result _ c.fresh.ensures) ∙ (sym c.is_some.ensures ∙ c.if-is_some.true))))

pub returns-then-not-has_read-clause-left : goal.returns-then-not-has_read-clause-left
returns-then-not-has_read-clause-left c = (
  refl,
  refl,
  rw (← c.self.view_is) (kept_there fresh c.self.invariant (rw c.as_slice.ensures.value at c.in-Ok.ensures.row) c.index.result.now c.index.ensures
      ∙ not_there _ c.fresh.result _ c.fresh.ensures (sym c.is_some.ensures ∙ c.if-is_some.false)),
)

pub returns-in-Err-clause-left : goal.returns-in-Err-clause-left
returns-in-Err-clause-left c =
    (refl, refl, rw (← c.self.view_is) (none_there fresh c.self.invariant (rw c.as_slice.ensures.value at c.in-Err.ensures.gap)))

pub invariant_of-self : goal.invariant_of-self
invariant_of-self c = rw c.into_row.ensures (set_rising c.self.invariant (renewed c.args.row) (rw c.as_slice.ensures.value at c.in-Ok.ensures.row) refl)

pub returns-else-not-has_read-clause-kept : goal.returns-else-not-has_read-clause-kept
returns-else-not-has_read-clause-kept c =
    let row = rw c.as_slice.ensures.value at c.in-Ok.ensures.row in
    rw (c.into_row.ensures, ← c.self.view_is) (kept_too c.args.row c.self.invariant row
    (kept_there fresh c.self.invariant row c.index.result.now c.index.ensures
    ∙ not_there _ c.fresh.result _ c.fresh.ensures (sym c.is_some.ensures ∙ c.if-is_some.false)))

pub returns-else-not-has_read-clause-readers : goal.returns-else-not-has_read-clause-readers
returns-else-not-has_read-clause-readers c = λ edges has. rw c.into_row.ensures
    (still_led c.args.row c.self.invariant (rw c.as_slice.ensures.value at c.in-Ok.ensures.row)
    c.index-in-Ok.result.now c.index-in-Ok.ensures
    (subst (HasRead c.index-in-Ok.result.now) c.as_slice-in-Ok.ensures (c.has_read.ensures c.if-not-has_read.false))
    edges (subst (λ rows. HasReaders (entries rows) edges) (sym c.self.view_is) has))
