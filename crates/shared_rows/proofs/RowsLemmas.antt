-- Rows with their keys.
use Rattle.std.proofs.Common.{◌≡◌, ℕ, zero, suc, ◌<◌, ◌≤◌, ◌==◌, Bool, true, false, not, cond, List, [], ◌∷◌, Option, None, Some, IsSome, find}
use Rattle.std.proofs.Common.{filter, length, refl, ap, arith}
use Rattle.std.specs.Option.{option_map}
use Rattle.std.proofs.lemmas.Bool.{eq-eqb}
use Rattle.std.proofs.lemmas.List.Sums.{length-filter, count_by-le-length}
use Rattle.shared_rows.specs.Rows.{IsAtPosition, Keyed, row_under, without}

-- what a function makes a value of was there
pub some_mapped : {R : Type 0} (number : R → ℕ) (o : Option R) (n : ℕ) → option_map number o ≡ Some n → IsSome o
some_mapped number None n e = absurd (cc)
some_mapped number (Some row) n e = refl

module _ {R : Type 0} where
  -- a row that stands at a position is found under its key
  pub some_at : (rows : List (Keyed R)) (at key : ℕ) (row : R) → at < length rows → IsAtPosition rows at key row → IsSome (row_under rows key)
  some_at [] at key row within is = absurd (omega arith)
  some_at (first ∷ rows) zero key row within is =
      let here : (first.key == key) ≡ true = eq-eqb first.key key (ap (λ (keyed : Keyed R). keyed.key) (is first)) in
      rw here refl
  some_at (first ∷ rows) (suc at) key row within is = by (first.key == key) (some_at rows at key row (omega arith) is)
    where
      by : (here : Bool) → IsSome (row_under rows key) → IsSome
          (option_map (λ (keyed : Keyed R). keyed.row) (cond here (Some first) (find (λ keyed. keyed.key == key) rows)))
      by true some = refl
      by false some = some

  length-filter-le : (test : Keyed R → Bool) (rows : List (Keyed R)) → length (filter test rows) ≤ length rows
  length-filter-le test rows = omega (arith, length-filter test rows, count_by-le-length test rows)

  -- and without it there are fewer
  pub length-without : (rows : List (Keyed R)) (key : ℕ) → IsSome (row_under rows key) → length (without rows key) < length rows
  length-without [] key some = absurd (cc)
  length-without (first ∷ rows) key some = by (first.key == key) some (length-without rows key)
    where
      by : (here : Bool) → IsSome (option_map (λ (keyed : Keyed R). keyed.row) (cond here (Some first) (find (λ keyed. keyed.key == key) rows)))
          → (IsSome (row_under rows key) → length (without rows key) < length rows)
          → length (cond (not here) (first ∷ without rows key) (without rows key)) < length (first ∷ rows)
      by true some later = omega (arith, length-filter-le (λ keyed. not (keyed.key == key)) rows)
      by false some later = omega (arith, later some)
