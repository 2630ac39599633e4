-- Rows by number: where the row of a number stands, and what an edit of it is there.
use Rattle.std.proofs.Common.{◌≡◌, ◌≢◌, ℕ, suc, zero, ◌<◌, ◌==◌, Bool, true, false, not, cond, List, [], ◌∷◌, Option, Some, None, length, map, filter, find}
use Rattle.std.proofs.Common.{get_or, set, refl, sym, ap, ◌∙◌, arith, ⊎_elim}
use Rattle.std.specs.List.{AllPairs, remove}
use Rattle.std.specs.List.Sorted.{IsStrictlySortedBy}
use Rattle.std.specs.Option.{is_some}
use Rattle.std.specs.Ordering.{nat_cmp}
use Rattle.std.proofs.lemmas.Bool.{cases_order, eq-eqb, eqb-true, ne_eqb}
use Rattle.std.proofs.lemmas.List.{get_or-map, length-map}
use Rattle.std.proofs.lemmas.Map.Keys.{below_from_sorted}
use Rattle.object_tree.specs.declared.row.Row.{Row}
use Rattle.object_tree.specs.Rows.{has_number, is_there, numbers, row_of}
use Rattle.object_tree.specs.Changes.{changed}

-- what a search finds stands at a place, and passes
pub record Found {X : Type 0} (p : X → Bool) (xs : List X) (x : X) : Type 0 where
  pub at : ℕ
  pub within : at < length xs
  pub is : (d : X) → get_or xs at d ≡ x
  pub passes : p x ≡ true

pub found : {X : Type 0} (p : X → Bool) (xs : List X) (x : X) → find p xs ≡ Some x → Found p xs x
found p [] x e = absurd (cc)
found {X} p (first ∷ rest) x e = by (p first) refl e (found p rest x)
  where
    by : (b : Bool) → p first ≡ b → cond b (Some first) (find p rest) ≡ Some x → (find p rest ≡ Some x → Found p rest x) → Found p (first ∷ rest) x
    by true is e later = let same : first ≡ x = cc in record { at = 0; within = omega arith; is = λ d. same; passes = ap p (sym same) ∙ is }
    by false is e later = let there = later e in record { at = suc there.at; within = omega arith; is = there.is; passes = there.passes }

module _ {X : Type 0} (key : X → ℕ) where
  -- the list where the elements of a key are changed, and the list without them
  abbrev changed_by : (X → X) → ℕ → List X → List X
  changed_by f n xs = map (λ x. cond (key x == n) (f x) x) xs

  abbrev without_by : ℕ → List X → List X
  without_by n xs = filter (λ x. not (key x == n)) xs

  -- nothing is found or changed where none has the key
  pub nowhere : (f : X → X) (n : ℕ) (xs : List X) (d : X) → ((k : ℕ) → k < length xs → key (get_or xs k d) ≢ n)
      → (find (λ x. key x == n) xs ≡ None) × (changed_by f n xs ≡ xs) × (without_by n xs ≡ xs)
  nowhere f n [] d others = (refl, refl, refl)
  nowhere f n (x ∷ rest) d others =
      let other : (key x == n) ≡ false = ne_eqb (key x) n (others 0 (omega arith)) in
      let h = nowhere f n rest d (λ k within. others (suc k) (omega arith)) in
      (rw other h.0, rw other (ap (λ l. x ∷ l) h.1), rw other (ap (λ l. x ∷ l) h.2))

  -- where one alone has it, an edit by the key is one at the place
  pub only_at : (f : X → X) (n : ℕ) (xs : List X) (k : ℕ) (d : X) → k < length xs → key (get_or xs k d) ≡ n
      → ((j : ℕ) → j < length xs → j ≢ k → key (get_or xs j d) ≢ n)
      → (find (λ x. key x == n) xs ≡ Some (get_or xs k d)) × (changed_by f n xs ≡ set xs k (f (get_or xs k d))) × (without_by n xs ≡ remove xs k)
  only_at f n [] k d within is others = absurd (omega arith)
  only_at f n (x ∷ rest) zero d within is others =
      let same : (key x == n) ≡ true = eq-eqb (key x) n is in
      let h = nowhere f n rest d (λ k inside. others (suc k) (omega arith) (λ e. absurd (omega arith))) in
      (rw same refl, rw same (ap (λ l. f x ∷ l) h.1), rw same h.2)
  only_at f n (x ∷ rest) (suc k) d within is others =
      let other : (key x == n) ≡ false = ne_eqb (key x) n (others 0 (omega arith) (λ e. absurd (omega arith))) in
      let h = only_at f n rest k d (omega arith) is (λ j inside differ. others (suc j) (omega arith) (λ e. differ (omega arith))) in
      (rw other h.0, rw other (ap (λ l. x ∷ l) h.1), rw other (ap (λ l. x ∷ l) h.2))

  -- no two have one key where keys rise
  pub apart : (xs : List X) → AllPairs (λ x y. key x < key y) xs → (j k : ℕ) (d : X) → j < length xs → k < length xs → j ≢ k
      → key (get_or xs j d) ≢ key (get_or xs k d)
  apart xs rise j k d first second differ same = ⊎_elim
      (λ e. differ e)
      (λ order. ⊎_elim (λ lt. absurd (omega (arith, rise j k d lt second))) (λ gt. absurd (omega (arith, rise k j d gt first))) order)
      (cases_order j k)

abbrev pub number_of : Row → ℕ
number_of row = row.number

abbrev pub Rise : List Row → Type 0
Rise rows = IsStrictlySortedBy nat_cmp (numbers rows)

-- the rows without that of an object
abbrev pub without : ℕ → List Row → List Row
without number rows = filter (λ row. not (has_number number row)) rows

pub rising : (rows : List Row) → Rise rows → AllPairs (λ a b. number_of a < number_of b) rows
rising rows rise i j d lt within = omega (
  arith,
  below_from_sorted (numbers rows) i j 0 rise lt (omega (arith, within, length-map rows number_of)),
  get_or-map number_of rows i d 0 (omega arith),
  get_or-map number_of rows j d 0 within,
)

pub at_rising : (f : Row → Row) (n : ℕ) (rows : List Row) (k : ℕ) (d : Row) → AllPairs (λ a b. number_of a < number_of b) rows → k < length rows
    → (get_or rows k d).number ≡ n
    → (row_of rows n ≡ Some (get_or rows k d)) × (changed f n rows ≡ set rows k (f (get_or rows k d))) × (without n rows ≡ remove rows k)
at_rising f n rows k d rise within is = only_at number_of f n rows k d within is
    (λ j inside differ same. apart number_of rows rise j k d inside within differ (same ∙ sym is))

pub at_place : (f : Row → Row) (n : ℕ) (rows : List Row) (k : ℕ) (d : Row) → Rise rows → k < length rows → (get_or rows k d).number ≡ n
    → (row_of rows n ≡ Some (get_or rows k d)) × (changed f n rows ≡ set rows k (f (get_or rows k d))) × (without n rows ≡ remove rows k)
at_place f n rows k d rise = at_rising f n rows k d (rising rows rise)

-- no row is changed where none has the number
pub unchanged : (f : Row → Row) (n : ℕ) (rows : List Row) → row_of rows n ≡ None → (changed f n rows ≡ rows) × (without n rows ≡ rows)
unchanged f n [] e = (refl, refl)
unchanged f n (row ∷ rest) e = by (row.number == n) e (λ h. unchanged f n rest h)
  where
    by : (b : Bool) → cond b (Some row) (row_of rest n) ≡ None → (row_of rest n ≡ None → (changed f n rest ≡ rest) × (without n rest ≡ rest))
        → (cond b (f row) row ∷ changed f n rest ≡ row ∷ rest) × (cond (not b) (row ∷ without n rest) (without n rest) ≡ row ∷ rest)
    by true e h = absurd (cc)
    by false e h = (ap (λ l. row ∷ l) (h e).0, ap (λ l. row ∷ l) (h e).1)

-- a row that is there has a place
pub there_at : (rows : List Row) (n : ℕ) → is_there rows n ≡ true → (k : ℕ) × (k < length rows) × ((d : Row) → (get_or rows k d).number ≡ n)
there_at rows n there = by (row_of rows n) refl there
  where
    by : (r : Option Row) → row_of rows n ≡ r → is_some r ≡ true → (k : ℕ) × (k < length rows) × ((d : Row) → (get_or rows k d).number ≡ n)
    by None is some = absurd (cc)
    by (Some row) is some = let place = found (has_number n) rows row is in
        (place.at, place.within, λ d. ap number_of (place.is d) ∙ eqb-true row.number n place.passes)
