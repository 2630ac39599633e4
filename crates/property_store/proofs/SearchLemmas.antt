-- The search of an object's number among rows by rising number.
use Rattle.std.proofs.Common.{◌≡◌, ◌∙◌, ℕ, zero, suc, ◌+◌, ◌<◌, ◌≤◌, nat_lt, true, false, List, [], ◌∷◌, Some, None, length, get_or, refl, ap, arith, ⊎_elim}
use Rattle.std.specs.List.{AllWithin}
use Rattle.std.proofs.lemmas.Bool.{cases_lt, le-ltb, lt-ltb}
use Rattle.shared_rows.specs.Rows.{IsAtPosition, IsSound, Keyed}
use Rattle.property_store.specs.declared.row.Row.{Row}
use Rattle.property_store.specs.Inside.{IsCountUpTo, next_number}
use Rattle.property_store.proofs.StoreLemmas.{number}

-- the rows below `low` have this number or one below it, and those from `high` on one above
pub record IsSearched (rows : List (Keyed Row)) (last low high : ℕ) : Type 0 where
  pub order : low ≤ high
  pub within : high ≤ length rows
  pub below : AllWithin (λ keyed. keyed.row.object ≤ last) rows 0 low
  pub above : AllWithin (λ keyed. last < keyed.row.object) rows high (length rows)

module _ (rows : List (Keyed Row)) (sound : IsSound number rows) (last low high middle key : ℕ) (row : Row) (is : IsSearched rows last low high)
    (from : low ≤ middle) (to : middle < high) (at : IsAtPosition rows middle key row) where
  object_at : (d : Keyed Row) → (get_or rows middle d).row.object ≡ row.object
  object_at d = ap (λ (keyed : Keyed Row). keyed.row.object) (at d)

  pub search_behind : row.object ≤ last → IsSearched rows last (middle + 1) high
  search_behind level = record {
    order = omega (arith, to);
    within = is.within;
    below = λ k d from_0 inside. ⊎_elim
        (λ (before : k < middle). let rise = sound.rising k middle d before (omega (arith, to, is.within)) in omega (arith, rise, object_at d, level))
        (λ (behind : middle ≤ k). let same : k ≡ middle = omega (arith, behind, inside) in
        let here : (get_or rows k d).row.object ≡ row.object = ap (λ n. (get_or rows n d).row.object) same ∙ object_at d in omega (arith, here, level))
        (cases_lt k middle);
    above = is.above;
  }

-- what stands behind them is the next
pub next_there : (rows : List (Keyed Row)) (last count : ℕ) → IsCountUpTo rows last count → count < length rows → (d : Keyed Row)
    → next_number rows last ≡ Some (get_or rows count d).row.object
next_there [] last count is within d = absurd (omega (arith, within))
next_there (first ∷ rows) last zero is within d =
    let passes : nat_lt last first.row.object ≡ true = lt-ltb _ _ (is.above 0 first (omega arith) (omega arith)) in
    rw passes refl
next_there (first ∷ rows) last (suc count) is within d =
    let level : nat_lt last first.row.object ≡ false = le-ltb _ _ (is.below 0 first (omega arith) (omega arith)) in
    rw level (next_there rows last count (record {
      within = omega (arith, is.within);
      below = λ k d low high. is.below (suc k) d (omega arith) (omega (arith, high));
      above = λ k d low high. is.above (suc k) d (omega (arith, low)) (omega (arith, high));
    }) (omega (arith, within)) d)

pub next_nowhere : (rows : List (Keyed Row)) (last count : ℕ) → IsCountUpTo rows last count → count ≡ length rows → next_number rows last ≡ None
next_nowhere [] last count is all = refl
next_nowhere (first ∷ rows) last zero is all = absurd (omega (arith, all))
next_nowhere (first ∷ rows) last (suc count) is all =
    let level : nat_lt last first.row.object ≡ false = le-ltb _ _ (is.below 0 first (omega arith) (omega arith)) in
    rw level (next_nowhere rows last count (record {
      within = omega (arith, is.within);
      below = λ k d low high. is.below (suc k) d (omega arith) (omega (arith, high));
      above = λ k d low high. is.above (suc k) d (omega (arith, low)) (omega (arith, high));
    }) (omega (arith, all)))
