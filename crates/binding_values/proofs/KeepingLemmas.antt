-- What is kept from one change to the next.
use Rattle.std.proofs.Common.{◌≡◌, ◌∙◌, ℕ, zero, suc, ◌<◌, Bool, true, false, cond, not, List, [], ◌∷◌, Option, Some, None, All, filter, find, length}
use Rattle.std.proofs.Common.{get_or, set, refl, sym, ap, subst, arith}
use Rattle.std.specs.Prelude.{option_and_then}
use Rattle.std.specs.List.{AllWithin, cons_option, insert}
use Rattle.property_store.proofs.ForCallers.{filter_all}
use Rattle.property_store.specs.declared.property.Property.{Property}
use Rattle.property_store.specs.Property.{is_property}
use Rattle.binding_values.specs.declared.eval_result.CacheEntry.{CacheEntry}
use Rattle.binding_values.specs.declared.eval_result.EvalResult.{EvalResult}
use Rattle.binding_values.specs.declared.kept_rows.KeptRow.{KeptRow}
use Rattle.binding_values.specs.Keeping.{IsPut, entries, entry_of, fresh, held_by, renewed, standing}
use Rattle.binding_values.specs.EvalResult.{IsWithin, kept_of}
use Rattle.binding_values.specs.Sorted.{IsGapAt, IsRising, IsRowAt, is_before}
use Rattle.binding_values.proofs.FuelLemmas.{property_eq}
use Rattle.binding_values.proofs.EvalCacheLemmas.{inserted_here, inserted_other}
use Rattle.binding_values.proofs.SortedLemmas.{found_none, found_row, insert_rising, is_its_row, is_other, others_before, others_behind, set_rising}
use Rattle.binding_values.proofs.SortedLemmas.{without_none}

-- what is found where an element stands in place of another
module _ {X : Type 0} (p : X → Bool) where
  pub set_other : (xs : List X) (k : ℕ) (y d : X) → p y ≡ false → p (get_or xs k d) ≡ false → find p (set xs k y) ≡ find p xs
  set_other [] k y d e other = refl
  set_other (x ∷ xs) zero y d e other = rw (e, other) refl
  set_other (x ∷ xs) (suc k) y d e other = ap (λ rest. cond (p x) (Some x) rest) (set_other xs k y d e other)

  pub set_here : (xs : List X) (k : ℕ) (y : X) → k < length xs → p y ≡ true → AllWithin (λ x. p x ≡ false) xs 0 k → find p (set xs k y) ≡ Some y
  set_here [] k y lt e before = absurd (omega arith)
  set_here (x ∷ xs) zero y lt e before = rw e refl
  set_here (x ∷ xs) (suc k) y lt e before =
      let first : p x ≡ false = before 0 x (omega arith) (omega arith) in
      rw first (set_here xs k y (omega arith) e (λ j d low high. before (suc j) d (omega arith) (omega arith)))

-- what is kept of the property of a row, by what each row holds

abbrev pub held_in : (KeptRow → Option EvalResult) → Option KeptRow → Option EvalResult
held_in held found = option_and_then held found

module _ (held : KeptRow → Option EvalResult) where
  none_held : (rows : List KeptRow) (q : Property) → All (λ (row : KeptRow). is_property q row.at ≡ false) rows → kept_of (held_by held rows) q ≡ None
  none_held [] q others = refl
  none_held (row ∷ rows) q others = by (held row) (none_held rows q (λ k d lt. others (suc k) d (omega arith)))
    where
      here : is_property q row.at ≡ false
      here = others 0 row (omega arith)

      by : (kept : Option EvalResult) → kept_of (held_by held rows) q ≡ None
          → kept_of (cons_option (entry_of row.at kept) (held_by held rows)) q ≡ None
      by (Some kept) rest = rw here rest
      by None rest = rest

  pub kept_at : (rows : List KeptRow) (q : Property) → IsRising (λ (row : KeptRow). row.at) rows
      → kept_of (held_by held rows) q ≡ held_in held (find (λ (row : KeptRow). is_property q row.at) rows)
  kept_at [] q rising = refl
  kept_at (row ∷ rows) q rising = by (is_property q row.at) refl (held row) refl
      (kept_at rows q (λ i j d lt within. rising (suc i) (suc j) d (omega arith) (omega arith)))
    where
      wanted : KeptRow → Bool
      wanted row = is_property q row.at

      later : is_property q row.at ≡ true → All (λ (row : KeptRow). is_property q row.at ≡ false) rows
      later same k d lt = is_other q (get_or rows k d).at
          (subst (λ (p : Property). is_before p (get_or rows k d).at ≡ true) (sym (property_eq q row.at same)) (rising 0 (suc k) d (omega arith) (omega arith)))

      by : (same : Bool) → is_property q row.at ≡ same → (kept : Option EvalResult) → held row ≡ kept
          → kept_of (held_by held rows) q ≡ held_in held (find wanted rows)
          → kept_of (cons_option (entry_of row.at kept) (held_by held rows)) q ≡ held_in held (cond same (Some row) (find wanted rows))
      by true same (Some kept) is rest = rw (same, is) refl
      by true same None is rest = none_held rows q (later same) ∙ sym is
      by false other (Some kept) is rest = rw other rest
      by false other None is rest = rest

  -- fewer rows

  pub held_filter : (p : Property → Bool) (rows : List KeptRow)
      → held_by held (filter (λ (row : KeptRow). p row.at) rows) ≡ filter (λ (row : CacheEntry). p row.at) (held_by held rows)
  held_filter p [] = refl
  held_filter p (row ∷ rows) = by (p row.at) refl (held row) refl (held_filter p rows)
    where
      fewer : List KeptRow
      fewer = filter (λ (row : KeptRow). p row.at) rows

      by : (stays : Bool) → p row.at ≡ stays → (kept : Option EvalResult) → held row ≡ kept
          → held_by held fewer ≡ filter (λ (row : CacheEntry). p row.at) (held_by held rows)
          → held_by held (cond stays (row ∷ fewer) fewer) ≡ filter (λ (row : CacheEntry). p row.at) (cons_option (entry_of row.at kept) (held_by held rows))
      by true stays (Some kept) is rest = rw (is, stays) (ap (λ (done : List CacheEntry). record { at = row.at; kept = kept } ∷ done) rest)
      by true stays None is rest = rw is rest
      by false goes (Some kept) is rest = rw goes rest
      by false goes None is rest = rest

  module _ (at : Property) where
    abbrev others : List KeptRow → List KeptRow
    others rows = filter (λ (row : KeptRow). not (is_property at row.at)) rows

    all_others : (rows : List KeptRow) → All (λ (row : KeptRow). is_property at row.at ≡ false) rows → others rows ≡ rows
    all_others rows all = filter_all (λ (row : KeptRow). not (is_property at row.at)) rows (λ k d lt. ap not (all k d lt))

    others_without : (rows : List KeptRow) (k : ℕ) (new d : KeptRow) → held new ≡ None → k < length rows → is_property at (get_or rows k d).at ≡ true
        → AllWithin (λ (row : KeptRow). is_property at row.at ≡ false) rows 0 k
        → AllWithin (λ (row : KeptRow). is_property at row.at ≡ false) rows (suc k) (length rows) → held_by held (set rows k new) ≡ held_by held (others rows)
    others_without [] k new d gone lt here before behind = absurd (omega arith)
    others_without (row ∷ rows) zero new d gone lt here before behind =
        let same : others rows ≡ rows = all_others rows (λ j e lt. behind (suc j) e (omega arith) (omega arith)) in
        rw (gone, here, same) refl
    others_without (row ∷ rows) (suc k) new d gone lt here before behind =
        let first : is_property at row.at ≡ false = before 0 row (omega arith) (omega arith) in
        rw first (ap (cons_option (entry_of row.at (held row)))
        (others_without rows k new d gone (omega arith) here (λ j e low high. before (suc j) e (omega arith) (omega arith))
        (λ j e low high. behind (suc j) e (omega arith) (omega arith))))

  -- another row that holds the same of the same property
  pub held_same : (rows : List KeptRow) (k : ℕ) (new d : KeptRow) → k < length rows → new.at ≡ (get_or rows k d).at → held new ≡ held (get_or rows k d)
      → held_by held (set rows k new) ≡ held_by held rows
  held_same [] k new d lt at_is held_is = absurd (omega arith)
  held_same (row ∷ rows) zero new d lt at_is held_is =
      ap (λ (p : Property). cons_option (entry_of p (held new)) (held_by held rows)) at_is
      ∙ ap (λ (kept : Option EvalResult). cons_option (entry_of row.at kept) (held_by held rows)) held_is
  held_same (row ∷ rows) (suc k) new d lt at_is held_is = ap (cons_option (entry_of row.at (held row))) (held_same rows k new d (omega arith) at_is held_is)

  module _ {rows : List KeptRow} {at : Property} {place : ℕ} (rising : IsRising (λ (row : KeptRow). row.at) rows) where
    -- the property has no row
    module _ (gap : IsGapAt (λ (row : KeptRow). row.at) rows at place) where
      pub none_there : kept_of (held_by held rows) at ≡ None
      none_there = kept_at rows at rising ∙ ap (held_in held) (found_none gap)

      pub others_only : held_by held rows ≡ filter (λ (row : CacheEntry). not (is_property at row.at)) (held_by held rows)
      others_only = ap (held_by held) (sym (without_none gap)) ∙ held_filter (λ q. not (is_property at q)) rows

    -- it has one
    module _ (there : IsRowAt (λ (row : KeptRow). row.at) rows at place) where
      pub kept_there : (d : KeptRow) → d ≡ get_or rows place d → kept_of (held_by held rows) at ≡ held d
      kept_there d is = kept_at rows at rising ∙ (ap (held_in held) (found_row there rising d) ∙ sym (ap held is))

      pub let_go : (new : KeptRow) → held new ≡ None
          → held_by held (set rows place new) ≡ filter (λ (row : CacheEntry). not (is_property at row.at)) (held_by held rows)
      let_go new gone = others_without at rows place new new gone there.within (is_its_row there new) (others_before there rising)
          (others_behind there rising)
          ∙ held_filter (λ q. not (is_property at q)) rows

  -- one row more, or another in place of one

  module _ (row : CacheEntry) (kept_is : held (renewed row) ≡ Some row.kept) (rows : List KeptRow)
      (rising : IsRising (λ (row : KeptRow). row.at) rows) where
    -- what is found of a property is the new row, or what was found before
    put_by : (after : List KeptRow) → IsRising (λ (row : KeptRow). row.at) after
        → ((q : Property) → is_property q row.at ≡ true → find (λ (row : KeptRow). is_property q row.at) after ≡ Some (renewed row))
        → ((q : Property) → is_property q row.at ≡ false → find (λ (row : KeptRow). is_property q row.at) after
        ≡ find (λ (row : KeptRow). is_property q row.at) rows)
        → IsPut row (held_by held rows) (held_by held after)
    put_by after risen same other q = kept_at after q risen ∙ by (is_property q row.at) refl
      where
        by : (t : Bool) → is_property q row.at ≡ t → held_in held (find (λ (row : KeptRow). is_property q row.at) after)
            ≡ cond t (Some row.kept) (kept_of (held_by held rows) q)
        by true e = ap (held_in held) (same q e) ∙ kept_is
        by false e = ap (held_in held) (other q e) ∙ sym (kept_at rows q rising)

    pub put_new : {place : ℕ} → IsGapAt (λ (row : KeptRow). row.at) rows row.at place
        → IsPut row (held_by held rows) (held_by held (insert rows place (renewed row)))
    put_new {place} gap = put_by (insert rows place (renewed row)) (insert_rising rising (renewed row) gap)
        (λ q same. inserted_here (λ (row : KeptRow). is_property q row.at) rows place (renewed row) same
        (ap (λ (p : Property). find (λ (row : KeptRow). is_property p row.at) rows) (property_eq q row.at same) ∙ found_none gap))
        (λ q differs. inserted_other (λ (row : KeptRow). is_property q row.at) rows place (renewed row) differs)

    pub put_there : {place : ℕ} → IsRowAt (λ (row : KeptRow). row.at) rows row.at place
        → IsPut row (held_by held rows) (held_by held (set rows place (renewed row)))
    put_there {place} there = put_by (set rows place (renewed row)) (set_rising rising (renewed row) there refl)
        (λ q same. set_here (λ (row : KeptRow). is_property q row.at) rows place (renewed row) there.within same
        (λ k d low high. ap (λ (p : Property). is_property p (get_or rows k d).at) (property_eq q row.at same) ∙ others_before there rising k d low high))
        (λ q differs. set_other (λ (row : KeptRow). is_property q row.at) rows place (renewed row) (renewed row) differs
        (ap (is_property q) (there.is (renewed row)) ∙ differs))

-- what is fresh is a last result
pub fresh_is_last : (rows : List KeptRow) → IsRising (λ (row : KeptRow). row.at) rows → IsWithin (kept_of (standing rows)) (kept_of (entries rows))
fresh_is_last rows rising q kept is = kept_at (λ row. row.kept) rows q rising
    ∙ by (find (λ (row : KeptRow). is_property q row.at) rows) (sym (kept_at fresh rows q rising) ∙ is)
  where
    of : (stale : Bool) (last : Option EvalResult) → cond stale None last ≡ Some kept → last ≡ Some kept
    of true last e = absurd (cc)
    of false last e = e

    by : (found : Option KeptRow) → held_in fresh found ≡ Some kept → held_in (λ row. row.kept) found ≡ Some kept
    by None e = absurd (cc)
    by (Some row) e = of row.is_stale row.kept e
