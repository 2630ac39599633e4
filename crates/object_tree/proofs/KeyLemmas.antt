-- The row under a key is the row of its number.
use Rattle.std.proofs.Common.{◌≡◌, ℕ, zero, suc, ◌<◌, ◌==◌, ◌∙◌, Bool, true, false, cond, List, [], ◌∷◌, Option, Some, None, length, map, find, get_or, set}
use Rattle.std.proofs.Common.{refl, sym, ap, arith, ⊎_elim}
use Rattle.std.specs.List.{All, AllPairs, Contains, remove}
use Rattle.std.specs.Option.{option_map}
use Rattle.std.proofs.lemmas.Bool.{cases_eq, cases_order, eqb-true}
use Rattle.std.proofs.lemmas.List.{get_or-map, length-map, map-set}
use Rattle.shared_rows.specs.Rows as shared
use Rattle.shared_rows.specs.Rows.{Keyed, key_of, row_under, with_row}
use Rattle.object_tree.specs.declared.row.Row.{Row}
use Rattle.object_tree.specs.Rows.{row_of}
use Rattle.object_tree.specs.Changes.{changed}
use Rattle.object_tree.specs.Children.{rows_of}
use Rattle.object_tree.proofs.NumberLemmas.{Found, apart, at_rising, found, number_of, only_at, without}

mapped : {X Y : Type 0} (f : X → Y) (o : Option X) (y : Y) → option_map f o ≡ Some y → (x : X) × (o ≡ Some x) × (f x ≡ y)
mapped f None y e = absurd (cc)
mapped f (Some x) y e = let same : f x ≡ y = cc in (x, refl, same)

map-remove : {X Y : Type 0} (f : X → Y) (xs : List X) (k : ℕ) → map f (remove xs k) ≡ remove (map f xs) k
map-remove f [] zero = refl
map-remove f [] (suc k) = refl
map-remove f (x ∷ rest) zero = refl
map-remove f (x ∷ rest) (suc k) = ap (λ l. f x ∷ l) (map-remove f rest k)

-- a row under a key, among the rows of numbers
pub record Stands (key n : ℕ) (row : Row) (keyed : List (Keyed Row)) : Type 0 where
  pub numbered : row.number ≡ n
  pub is_row : row_of (rows_of keyed) n ≡ Some row
  pub there : Contains (rows_of keyed) row
  pub only : All (λ (r : Row). (r.number == n) ≡ true → r ≡ row) (rows_of keyed)
  -- changed, and taken out
  pub put : (f : Row → Row) → rows_of (with_row keyed key (f row)) ≡ changed f n (rows_of keyed)
  pub out : rows_of (shared.without keyed key) ≡ without n (rows_of keyed)

-- numbers rise
pub rises : (keyed : List (Keyed Row)) → shared.IsSound number_of keyed → AllPairs (λ a b. number_of a < number_of b) (rows_of keyed)
rises keyed sound i j d lt within =
    let inside : j < length keyed = omega (arith, within, length-map keyed (λ (k : Keyed Row). k.row)) in
    let none : Keyed Row = record { key = 0; row = d } in
    rw (get_or-map (λ (k : Keyed Row). k.row) keyed i none d (omega arith), get_or-map (λ (k : Keyed Row). k.row) keyed j none d inside)
    (sound.rising i j none lt inside)

pub stands : (keyed : List (Keyed Row)) (key n : ℕ) (row : Row) → shared.IsSound number_of keyed → row_under keyed key ≡ Some row → row.number ≡ n
    → Stands key n row keyed
stands keyed key n row sound under numbered = record {
  numbered = numbered;
  is_row = (by_number (λ r. r)).0 ∙ ap Some (is row);
  there = (place.at, within, is row);
  only = λ k d inside same. ⊎_elim
      (λ here. ap (λ i. get_or (rows_of keyed) i d) here ∙ is d)
      (λ differ. absurd (apart number_of (rows_of keyed) (rises keyed sound) k place.at d inside within differ
      (eqb-true _ _ same ∙ sym (ap number_of (is d) ∙ numbered))))
      (cases_eq k place.at);
  put = λ f.
      ap rows_of (by_key (λ _. record { key = key; row = f row })).1
      ∙ (map-set (λ (k : Keyed Row). k.row) keyed place.at (record { key = key; row = f row })
      ∙ (ap (λ r. set (rows_of keyed) place.at (f r)) (sym (is row)) ∙ sym (by_number f).1));
  out = ap rows_of (by_key (λ k. k)).2 ∙ (map-remove (λ (k : Keyed Row). k.row) keyed place.at ∙ sym (by_number (λ r. r)).2);
}
  where
    one : (x : Keyed Row) × (find (λ (k : Keyed Row). k.key == key) keyed ≡ Some x) × (x.row ≡ row)
    one = mapped (λ (k : Keyed Row). k.row) (find (λ (k : Keyed Row). k.key == key) keyed) row under

    place : Found (λ (k : Keyed Row). k.key == key) keyed one.0
    place = found (λ (k : Keyed Row). k.key == key) keyed one.0 one.1

    within : place.at < length (rows_of keyed)
    within = omega (arith, place.within, length-map keyed (λ (k : Keyed Row). k.row))

    is : (d : Row) → get_or (rows_of keyed) place.at d ≡ row
    is d = get_or-map (λ (k : Keyed Row). k.row) keyed place.at one.0 d place.within ∙ (ap (λ (k : Keyed Row). k.row) (place.is one.0) ∙ one.2)

    by_key : (f : Keyed Row → Keyed Row) → (find (λ (k : Keyed Row). k.key == key) keyed ≡ Some (get_or keyed place.at one.0))
        × (map (λ (k : Keyed Row). cond (k.key == key) (f k) k) keyed ≡ set keyed place.at (f (get_or keyed place.at one.0)))
        × (shared.without keyed key ≡ remove keyed place.at)
    by_key f =
        let has : (get_or keyed place.at one.0).key ≡ key = ap (λ (k : Keyed Row). k.key) (place.is one.0) ∙ eqb-true one.0.key key place.passes in
        only_at (λ (k : Keyed Row). k.key) f key keyed place.at one.0 place.within has (λ j inside differ same. ⊎_elim
        (λ e. differ e)
        (λ order. ⊎_elim (λ lt. sound.apart j place.at one.0 lt place.within (same ∙ sym has))
        (λ gt. sound.apart place.at j one.0 gt inside (has ∙ sym same)) order)
        (cases_order j place.at))

    by_number : (f : Row → Row) → (row_of (rows_of keyed) n ≡ Some (get_or (rows_of keyed) place.at row))
        × (changed f n (rows_of keyed) ≡ set (rows_of keyed) place.at (f (get_or (rows_of keyed) place.at row)))
        × (without n (rows_of keyed) ≡ remove (rows_of keyed) place.at)
    by_number f = at_rising f n (rows_of keyed) place.at row (rises keyed sound) within (ap number_of (is row) ∙ numbered)

-- where there is no such number
pub absent_row : (keyed : List (Keyed Row)) (n : ℕ) → None ≡ key_of number_of keyed n → row_of (rows_of keyed) n ≡ None
absent_row [] n e = refl
absent_row (first ∷ rest) n e = by (first.row.number == n) e (absent_row rest n)
  where
    by : (b : Bool) → None ≡ option_map (λ (k : Keyed Row). k.key) (cond b (Some first) (find (λ k. k.row.number == n) rest))
        → (None ≡ key_of number_of rest n → row_of (rows_of rest) n ≡ None) → cond b (Some first.row) (row_of (rows_of rest) n) ≡ None
    by true e later = absurd (cc)
    by false e later = later e
