-- The connections that an emission is still to call.
use Rattle.std.proofs.Common.{◌≡◌, ◌<◌, ◌≤◌, ◌==◌, ℕ, Bool, true, false, cond, List, [], ◌∷◌, Some, filter, find, nat_le, nat_lt, refl, sym, ap, ◌∙◌, subst}
use Rattle.std.proofs.Common.{arith, ⊎_elim}
use Rattle.std.specs.List.{AllByRecursion, list_any}
use Rattle.std.proofs.lemmas.Bool.{and_left, and_right, cases_Bool, ne_eqb}
use Rattle.std.proofs.lemmas.Bool.Decides.{nat_tests}
use Rattle.std.proofs.lemmas.List.Elements.{recursion_from_All}
use Rattle.session_model.proofs.Common.{Connection, calls, IsRising, has_number, rising_head, rising_tail}
use Rattle.connection_list.specs.Rows.{is_next}
use Rattle.session_model.proofs.FilterLemmas.{filter-alike}

-- no connection above a number has it
pub none_at : (number : ℕ) (rows : List Connection) → AllByRecursion (λ row. number < row.number) rows → list_any (has_number number) rows ≡ false
none_at number [] above = refl
none_at number (row ∷ rows) above =
    let rest = none_at number rows above.1 in
    let other : (row.number == number) ≡ false = ne_eqb row.number number (λ same. absurd (omega (arith, same, above.0))) in
    grind (arith, other, rest)

-- nor is one there after some were left out
pub none_left : (number : ℕ) (test : Connection → Bool) (rows : List Connection) → list_any (has_number number) rows ≡ false
    → list_any (has_number number) (filter test rows) ≡ false
none_left number test [] none = refl
none_left number test (row ∷ rows) none =
    ⊎_elim (λ e. absurd (grind (arith, e, none)))
    (λ e. let rest = none_left number test rows (grind (arith, e, none)) in ⊎_elim (λ kept. grind (arith, e, kept, rest)) (λ out. grind (arith, e, out, rest))
    (cases_Bool (test row)))
    (cases_Bool (has_number number row))

-- a connection that is left out has a number that none of those left has
pub out_of : (left : Connection → Bool) (rows : List Connection) → IsRising rows
    → AllByRecursion (λ row. left row ≡ false → list_any (has_number row.number) (filter left rows) ≡ false) rows
out_of left [] rising = tt
out_of left (row ∷ rows) rising =
    let above = recursion_from_All (λ (later : Connection). row.number < later.number) rows (rising_head row rows rising) in
    ((λ out. rw out (none_left row.number left rows (none_at row.number rows above))), others rows above (out_of left rows (rising_tail row rows rising)))
  where
    others : (some : List Connection) → AllByRecursion (λ later. row.number < later.number) some
        → AllByRecursion (λ later. left later ≡ false → list_any (has_number later.number) (filter left rows) ≡ false) some
        → AllByRecursion (λ later. left later ≡ false → list_any (has_number later.number) (filter left (row ∷ rows)) ≡ false) some
    others [] above out = tt
    others (later ∷ some) above out =
        let other : (row.number == later.number) ≡ false = ne_eqb row.number later.number (λ same. absurd (omega (arith, same, above.0))) in (
          (λ gone. let rest = out.0 gone in ⊎_elim (λ kept. grind (arith, kept, other, rest)) (λ dropped. grind (arith, dropped, rest))
              (cases_Bool (left row))),
          others some above.1 out.1,
        )

module _ (target signal up_to : ℕ) where
  -- the connections that an emission is still to call, where those up to a number have been called
  abbrev pub remaining : ℕ → List Connection → List Connection
  remaining after rows = filter (is_next target signal after up_to) rows

  -- above a number it does not matter what lies below it
  alike : (after number : ℕ) (rows : List Connection) → after < number → AllByRecursion (λ row. number < row.number) rows
      → AllByRecursion (λ row. is_next target signal after up_to row ≡ is_next target signal number up_to row) rows
  alike after number [] below above = tt
  alike after number (row ∷ rows) below above =
      let one : nat_lt after row.number ≡ true = grind (arith, nat_tests, below, above.0) in
      let other : nat_lt number row.number ≡ true = grind (arith, nat_tests, above.0) in
      (rw (one, other), alike after number rows below above.1)

  -- what was not to be called stays so
  not_next : (after number : ℕ) (row : Connection) → after < number → is_next target signal after up_to row ≡ false
      → is_next target signal number up_to row ≡ false
  not_next after number row below none = ⊎_elim
      (λ later. let one : nat_lt after row.number ≡ true = grind (arith, nat_tests, below, later) in rw later (rw one at none))
      (λ earlier. rw earlier)
      (cases_Bool (nat_lt number row.number))

  -- the next connection is the first of those that remain
  pub next_first : (after : ℕ) (next : Connection) (rows : List Connection) → IsRising rows → after < next.number
      → find (is_next target signal after up_to) rows ≡ Some next
      → remaining after rows ≡ next ∷ remaining next.number rows
  next_first after next [] rising below found = absurd (cc)
  next_first after next (row ∷ rows) rising below found = by (is_next target signal after up_to row) refl found
      (next_first after next rows (rising_tail row rows rising) below)
    where
      itself : is_next target signal next.number up_to next ≡ false
      itself = let none : nat_lt next.number next.number ≡ false = grind (arith, nat_tests) in rw none

      by : (passed : Bool) → is_next target signal after up_to row ≡ passed → cond passed (Some row) (find (is_next target signal after up_to) rows) ≡ Some next
          → (find (is_next target signal after up_to) rows ≡ Some next → remaining after rows ≡ next ∷ remaining next.number rows)
          → cond passed (row ∷ remaining after rows) (remaining after rows) ≡ next ∷ remaining next.number (row ∷ rows)
      by true is e later =
          let same : row ≡ next = cc in
          let above = recursion_from_All (λ (later : Connection). row.number < later.number) rows (rising_head row rows rising) in
          let above' = subst (λ (row : Connection). AllByRecursion (λ (later : Connection). row.number < later.number) rows) same above in
          let rest = filter-alike (is_next target signal after up_to) (is_next target signal next.number up_to) rows
          (alike after next.number rows below above') in
          let out = subst (λ (row : Connection). is_next target signal next.number up_to row ≡ false) (sym same) itself in
          ap (λ (row : Connection). row ∷ remaining after rows) same
          ∙ ap (λ rest. next ∷ rest) (rest ∙ sym (ap (λ passed. cond passed (row ∷ remaining next.number rows) (remaining next.number rows)) out))
      by false is e later =
          later e ∙ ap (λ rest. next ∷ rest) (sym (ap (λ passed. cond passed (row ∷ remaining next.number rows) (remaining next.number rows))
          (not_next after next.number row below is)))

  -- what was made since lies above
  pub made_since : (after last : ℕ) (rows : List Connection) → up_to ≤ last → AllByRecursion (λ row. last < row.number) rows
      → AllByRecursion (λ row. is_next target signal after up_to row ≡ false) rows
  made_since after last [] most above = tt
  made_since after last (row ∷ rows) most above =
      let none : nat_le row.number up_to ≡ false = grind (arith, nat_tests, most, above.0) in
      (and_right (nat_lt after row.number) _ (and_left (nat_le row.number up_to) (calls target signal row) none), made_since after last rows most above.1)
