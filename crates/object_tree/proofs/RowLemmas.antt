-- What edits of rows leave of numbers, stamps and parents.
use Rattle.std.proofs.Common.{◌≡◌, ℕ, suc, ◌+◌, ◌≤◌, ◌==◌, Bool, true, false, not, ◌||◌, cond, List, [], ◌∷◌, Option, Some, None, map, filter, find, refl, sym}
use Rattle.std.proofs.Common.{ap, ◌∙◌, arith, ⊎_elim}
use Rattle.std.specs.Cmp.{nat_eq_equiv}
use Rattle.std.specs.List.{list_any}
use Rattle.std.specs.Option.{option_map, option_and_then, is_some}
use Rattle.std.proofs.lemmas.Bool.{cases_Bool, cond_both, cond-true, cond-false, eqb-true, eqb-false, eq-eqb, false≢true}
use Rattle.object_tree.specs.declared.row.Row.{Row}
use Rattle.object_tree.specs.Rows.{has_number, has_parent, is_same, is_there, numbers, parent_of, row_of}
use Rattle.object_tree.specs.Lines.{greatest, levels_within}
use Rattle.object_tree.proofs.NumberLemmas.{without}

-- is a number among these
abbrev pub among : List ℕ → ℕ → Bool
among ns n = list_any (λ x. n == x) ns

-- an object is there exactly where its number is
pub there_among : (rows : List Row) (n : ℕ) → is_there rows n ≡ among (numbers rows) n
there_among [] n = refl
there_among (row ∷ rest) n = by (row.number == n) (n == row.number) (nat_eq_equiv.symm row.number n) (there_among rest n)
  where
    by : (a b : Bool) → a ≡ b → is_there rest n ≡ among (numbers rest) n → is_some (cond a (Some row) (row_of rest n)) ≡ (b || among (numbers rest) n)
    by true b e h = (λ i. e i || among (numbers rest) n)
    by false b e h = h ∙ λ i. e i || among (numbers rest) n

-- the row that is found has the number
pub row-number : (rows : List Row) (n : ℕ) (row : Row) → row_of rows n ≡ Some row → row.number ≡ n
row-number [] n row e = absurd (cc)
row-number (first ∷ rest) n row e = ⊎_elim
    (λ t. let same : first ≡ row = (let h : Some first ≡ Some row = sym (cond-true (first.number == n) (Some first) (row_of rest n) t) ∙ e in cc) in ap
    (λ (r : Row). r.number) (sym same) ∙ eqb-true first.number n t)
    (λ f. row-number rest n row (sym (cond-false (first.number == n) (Some first) (row_of rest n) f) ∙ e))
    (cases_Bool (first.number == n))

-- who has a parent is there
pub there_child : (rows : List Row) (n p : ℕ) → parent_of rows n ≡ Some p → is_there rows n ≡ true
there_child rows n p is = by (row_of rows n) is
  where
    by : (r : Option Row) → option_and_then (λ (row : Row). row.parent) r ≡ Some p → is_some r ≡ true
    by None e = absurd (cc)
    by (Some row) e = refl

-- a map that keeps numbers
module _ (f : Row → Row) (keeps : (row : Row) → (f row).number ≡ row.number) where
  pub numbers-mapped : (rows : List Row) → numbers (map f rows) ≡ numbers rows
  numbers-mapped [] = refl
  numbers-mapped (row ∷ rest) = λ i. keeps row i ∷ numbers-mapped rest i

  pub row_of-mapped : (rows : List Row) (n : ℕ) → row_of (map f rows) n ≡ option_map f (row_of rows n)
  row_of-mapped [] n = refl
  row_of-mapped (row ∷ rest) n = (λ i. cond (keeps row i == n) (Some (f row)) (row_of (map f rest) n)) ∙ by (row.number == n) (row_of-mapped rest n)
    where
      by : (b : Bool) → row_of (map f rest) n ≡ option_map f (row_of rest n)
          → cond b (Some (f row)) (row_of (map f rest) n) ≡ option_map f (cond b (Some row) (row_of rest n))
      by true h = refl
      by false h = h

-- what a change of one row is for each row
abbrev pub change_one : (Row → Row) → ℕ → Row → Row
change_one f o row = cond (has_number o row) (f row) row

-- what is found without the row of an object
pub row_of-without : (o n : ℕ) (rows : List Row) → row_of (without o rows) n ≡ cond (n == o) None (row_of rows n)
row_of-without o n [] = cond_both (n == o) None None (λ r. None ≡ r) (λ _. refl) (λ _. refl)
row_of-without o n (row ∷ rest) = by (row.number == o) (row.number == n) (n == o) refl refl refl (row_of-without o n rest)
  where
    by : (a b e : Bool) → (row.number == o) ≡ a → (row.number == n) ≡ b → (n == o) ≡ e → row_of (without o rest) n ≡ cond (n == o) None (row_of rest n)
        → find (has_number n) (cond (not a) (row ∷ without o rest) (without o rest)) ≡ cond e None (cond b (Some row) (row_of rest n))
    by true true true is_a is_b is_e h = h ∙ λ i. cond (is_e i) None (row_of rest n)
    by true true false is_a is_b is_e h = absurd (eqb-false n o is_e (sym (eqb-true row.number n is_b) ∙ eqb-true row.number o is_a))
    by true false e is_a is_b is_e h = h ∙ λ i. cond (is_e i) None (row_of rest n)
    by false true true is_a is_b is_e h = absurd (eqb-false row.number o is_a (eqb-true row.number n is_b ∙ eqb-true n o is_e))
    by false true false is_a is_b is_e h = (λ i. cond (is_b i) (Some row) (row_of (without o rest) n))
    by false false e is_a is_b is_e h = (λ i. cond (is_b i) (Some row) (row_of (without o rest) n)) ∙ (h ∙ λ i. cond (is_e i) None (row_of rest n))

pub numbers-filter : (p : ℕ → Bool) (rows : List Row) → numbers (filter (λ row. p row.number) rows) ≡ filter p (numbers rows)
numbers-filter p [] = refl
numbers-filter p (row ∷ rest) = by (p row.number) (numbers-filter p rest)
  where
    by : (b : Bool) → numbers (filter (λ row. p row.number) rest) ≡ filter p (numbers rest)
        → numbers (cond b (row ∷ filter (λ row. p row.number) rest) (filter (λ row. p row.number) rest))
        ≡ cond b (row.number ∷ filter p (numbers rest)) (filter p (numbers rest))
    by true h = ap (λ l. row.number ∷ l) h
    by false h = h

-- a child of an object adds to the levels at it
greatest_has : (F : Row → ℕ) (p : Row → Bool) (rows : List Row) (n : ℕ) (row : Row) → row_of rows n ≡ Some row → p row ≡ true
    → F row ≤ greatest (map F (filter p rows))
greatest_has F p [] n row e pass = absurd (cc)
greatest_has F p (first ∷ rest) n row e pass = by (first.number == n) (p first) refl e (λ h. greatest_has F p rest n row h pass)
  where
    by : (a b : Bool) → p first ≡ b → cond a (Some first) (row_of rest n) ≡ Some row → (row_of rest n ≡ Some row → F row ≤ greatest (map F (filter p rest)))
        → F row ≤ greatest (map F (cond b (first ∷ filter p rest) (filter p rest)))
    by true true is e h = let same : first ≡ row = cc in omega (arith, ap F same)
    by true false is e h = let same : first ≡ row = cc in absurd (false≢true (sym is ∙ (ap p same ∙ pass)))
    by false true is e h = omega (arith, h e)
    by false false is e h = h e

pub levels_one : (rows : List Row) (f n : ℕ) → 1 ≤ levels_within (suc f) rows n
levels_one rows f n = omega arith

pub levels_child : (rows : List Row) (f n p : ℕ) → parent_of rows n ≡ Some p → 1 + levels_within f rows n ≤ levels_within (suc f) rows p
levels_child rows f n p e = by (row_of rows n) refl e
  where
    by : (o : Option Row) → row_of rows n ≡ o → option_and_then (λ (row : Row). row.parent) o ≡ Some p
        → 1 + levels_within f rows n ≤ levels_within (suc f) rows p
    by None is e = absurd (cc)
    by (Some row) is e =
        let pass : has_parent (Some p) row ≡ true = ap (λ q. is_same q (Some p)) e ∙ eq-eqb p p refl in
        let has = greatest_has (λ (r : Row). levels_within f rows r.number) (has_parent (Some p)) rows n row is pass in
        omega (arith, ap (levels_within f rows) (row-number rows n row is))
