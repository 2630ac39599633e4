-- Rows of properties by rising object and number.
use Rattle.std.proofs.Common.{◌≡◌, ◌∙◌, ℕ, zero, suc, ◌+◌, ◌<◌, ◌≤◌, ◌==◌, ◌&&◌, ◌||◌, nat_lt, Bool, true, false, List, [], ◌∷◌, ◌++◌, Option, Some, None, All}
use Rattle.std.proofs.Common.{filter, find, length, not, get_or, set, take, drop, refl, sym, ap, subst, arith, ⊎_elim}
use Rattle.std.specs.List.{AllWithin, insert, remove, slice_get}
use Rattle.std.specs.Option.{option_map_or}
use Rattle.std.proofs.lemmas.Option.{slice_get-get_or, slice_get_past}
use Rattle.std.proofs.lemmas.List.Elements.{All-cons, filter_passes}
use Rattle.std.proofs.lemmas.List.Kept.{AllPairs-cons, AllPairs-filter}
use Rattle.std.proofs.lemmas.Bool.{both_ways, cases_Bool, cases_lt}
use Rattle.std.proofs.lemmas.List.{get_or_default}
use Rattle.std.proofs.lemmas.Bool.Decides.{nat_tests}
use Rattle.shared_rows.proofs.LinkLemmas.{filter_back, filter_front}
use Rattle.property_store.specs.declared.property.Property.{Property}
use Rattle.property_store.specs.Property.{is_property}
use Rattle.property_store.proofs.ForCallers.{filter_all}
use Rattle.binding_values.specs.Sorted.{IsCountBefore, IsGapAt, IsRising, IsRowAt, is_before}
use Rattle.binding_values.proofs.FuelLemmas.{is_itself, property_eq}
use Rattle.binding_values.proofs.MapLemmas.{pairs_append}

-- the order of properties

order_trans : (a b c d e f : ℕ) → (nat_lt a c || (a == c && nat_lt b d)) ≡ true → (nat_lt c e || (c == e && nat_lt d f)) ≡ true
    → (nat_lt a e || (a == e && nat_lt b f)) ≡ true
order_trans a b c d e f h k = grind (arith, nat_tests)

order_apart : (a b c d : ℕ) → (nat_lt a c || (a == c && nat_lt b d)) ≡ true → (nat_lt c a || (c == a && nat_lt d b)) ≡ false
order_apart a b c d h = grind (arith, nat_tests)

order_other : (a b c d : ℕ) → (nat_lt a c || (a == c && nat_lt b d)) ≡ true → (a == c && b == d) ≡ false
order_other a b c d h = grind (arith, nat_tests)

order_same : (a b c d : ℕ) → (nat_lt a c || (a == c && nat_lt b d)) ≡ false → (c == a && d == b) ≡ false → (nat_lt c a || (c == a && nat_lt d b)) ≡ true
order_same a b c d h k = grind (arith, nat_tests)

pub before_trans : (p q r : Property) → is_before p q ≡ true → is_before q r ≡ true → is_before p r ≡ true
before_trans p q r h k = order_trans p.object p.number q.object q.number r.object r.number h k

pub not_behind : (p q : Property) → is_before p q ≡ true → is_before q p ≡ false
not_behind p q h = order_apart p.object p.number q.object q.number h

pub is_other : (p q : Property) → is_before p q ≡ true → is_property p q ≡ false
is_other p q h = order_other p.object p.number q.object q.number h

pub is_behind : (p q : Property) → is_before p q ≡ false → is_property q p ≡ false → is_before q p ≡ true
is_behind p q h k = order_same p.object p.number q.object q.number h k

pub is_property_sym : (p q : Property) → is_property p q ≡ is_property q p
is_property_sym p q = by p.object p.number q.object q.number
  where
    by : (a b c d : ℕ) → (a == c && b == d) ≡ (c == a && d == b)
    by a b c d = grind (arith, nat_tests)

pub never_before : (p : Property) → is_before p p ≡ false
never_before p = by p.object p.number
  where
    by : (a b : ℕ) → (nat_lt a a || (a == a && nat_lt b b)) ≡ false
    by a b = grind (arith, nat_tests)

module _ {X : Type 0} (f : X → Property) (rows : List X) (at : Property) where
  -- the rows below `low` stand before those of the property, and those from `high` on do not
  pub record IsSearched (low high : ℕ) : Type 0 where
    pub order : low ≤ high
    pub within : high ≤ length rows
    pub before : AllWithin (λ row. is_before (f row) at ≡ true) rows 0 low
    pub behind : AllWithin (λ row. is_before (f row) at ≡ false) rows high (length rows)

  module _ (rising : IsRising f rows) (low high middle : ℕ) (row : X) (is : IsSearched low high) (from : low ≤ middle) (to : middle < high)
      (here : row ≡ get_or rows middle row) where
    at_default : (d : X) → get_or rows middle d ≡ row
    at_default d = sym (here ∙ get_or_default rows middle row d (omega (arith, to, is.within)))

    pub search_behind : is_before (f row) at ≡ true → IsSearched (middle + 1) high
    search_behind passes = record {
      order = omega (arith, to);
      within = is.within;
      before = λ k d from_0 inside. ⊎_elim
          (λ (before : k < middle). before_trans (f (get_or rows k d)) (f row) at
          (subst (λ (r : X). is_before (f (get_or rows k d)) (f r) ≡ true) (at_default d) (rising k middle d before (omega (arith, to, is.within)))) passes)
          (λ (behind : middle ≤ k). let same : k ≡ middle = omega (arith, behind, inside) in ap (λ n. is_before (f (get_or rows n d)) at) same
          ∙ (ap (λ (r : X). is_before (f r) at) (at_default d) ∙ passes))
          (cases_lt k middle);
      behind = is.behind;
    }

    pub search_before : is_before (f row) at ≡ false → IsSearched low middle
    search_before fails = record {
      order = from;
      within = omega (arith, to, is.within);
      before = is.before;
      behind = λ k d from_middle inside. ⊎_elim
          (λ (behind : middle < k). ⊎_elim
          (λ (h : is_before (f (get_or rows k d)) at ≡ true). absurd
          (both_ways _ fails (before_trans (f row) (f (get_or rows k d)) at
          (subst (λ (r : X). is_before (f r) (f (get_or rows k d)) ≡ true) (at_default d) (rising middle k d behind inside)) h)))
          (λ (h : is_before (f (get_or rows k d)) at ≡ false). h)
          (cases_Bool (is_before (f (get_or rows k d)) at)))
          (λ (level : k ≤ middle). let same : k ≡ middle = omega (arith, from_middle, level) in ap (λ n. is_before (f (get_or rows n d)) at) same
          ∙ (ap (λ (r : X). is_before (f r) at) (at_default d) ∙ fails))
          (cases_lt middle k);
    }

-- what is found so

find_none : {X : Type 0} (p : X → Bool) (rows : List X) → All (λ row. p row ≡ false) rows → find p rows ≡ None
find_none p [] all = refl
find_none p (row ∷ rows) all = let here : p row ≡ false = all 0 row (omega arith) in rw here (find_none p rows (λ k d lt. all (suc k) d (omega arith)))

find_first : {X : Type 0} (p : X → Bool) (rows : List X) (k : ℕ) (d : X) → k < length rows → AllWithin (λ row. p row ≡ false) rows 0 k
    → p (get_or rows k d) ≡ true → find p rows ≡ Some (get_or rows k d)
find_first p [] k d lt before here = absurd (omega arith)
find_first p (row ∷ rows) zero d lt before here = rw here refl
find_first p (row ∷ rows) (suc k) d lt before here =
    let first : p row ≡ false = before 0 row (omega arith) (omega arith) in
    rw first (find_first p rows k d (omega arith) (λ j e low high. before (suc j) e (omega arith) (omega arith)) here)

-- a filter that all pass but one

filter_but : {X : Type 0} (p : X → Bool) (rows : List X) (k : ℕ) → k < length rows → AllWithin (λ row. p row ≡ true) rows 0 k
    → ((d : X) → p (get_or rows k d) ≡ false) → AllWithin (λ row. p row ≡ true) rows (suc k) (length rows) → filter p rows ≡ remove rows k
filter_but p [] k within before here behind = absurd (omega arith)
filter_but p (row ∷ rows) zero within before here behind =
    let off : p row ≡ false = here row in
    rw off (filter_all p rows (λ k d lt. behind (suc k) d (omega arith) (omega arith)))
filter_but p (row ∷ rows) (suc k) within before here behind =
    let on : p row ≡ true = before 0 row (omega arith) (omega arith) in
    rw on (ap (λ ys. row ∷ ys) (filter_but p rows k (omega arith) (λ j d low high. before (suc j) d (omega arith) (omega arith)) here
    (λ j d low high. behind (suc j) d (omega arith) (omega arith))))

-- the row of a property in its place
module _ {X : Type 0} {f : X → Property} {rows : List X} {at : Property} {place : ℕ} (row : IsRowAt f rows at place) where
  pub is_its_row : (d : X) → is_property at (f (get_or rows place d)) ≡ true
  is_its_row d = subst (λ p. is_property at p ≡ true) (sym (row.is d)) (is_itself at)

  module _ (rising : IsRising f rows) where
    rows_before : AllWithin (λ row. is_before (f row) at ≡ true) rows 0 place
    rows_before k d low high = subst (λ p. is_before (f (get_or rows k d)) p ≡ true) (row.is d) (rising k place d high row.within)

    rows_behind : AllWithin (λ row. is_before at (f row) ≡ true) rows (suc place) (length rows)
    rows_behind k d low high = subst (λ p. is_before p (f (get_or rows k d)) ≡ true) (row.is d) (rising place k d (omega (arith, low)) high)

    pub others_before : AllWithin (λ row. is_property at (f row) ≡ false) rows 0 place
    others_before k d low high = is_property_sym at (f (get_or rows k d)) ∙ is_other (f (get_or rows k d)) at (rows_before k d low high)

    pub others_behind : AllWithin (λ row. is_property at (f row) ≡ false) rows (suc place) (length rows)
    others_behind k d low high = is_other at (f (get_or rows k d)) (rows_behind k d low high)

    pub counted : IsCountBefore f rows at place
    counted = record {
      within = omega (arith, row.within);
      before = rows_before;
      behind = λ k d low high. ⊎_elim
          (λ (later : place < k). not_behind at (f (get_or rows k d)) (rows_behind k d later high))
          (λ (level : k ≤ place). let same : k ≡ place = omega (arith, low, level) in ap (λ n. is_before (f (get_or rows n d)) at) same
          ∙ (ap (λ p. is_before p at) (row.is d) ∙ never_before at))
          (cases_lt place k);
    }

    pub found_row : (d : X) → find (λ row. is_property at (f row)) rows ≡ Some (get_or rows place d)
    found_row d = find_first (λ row. is_property at (f row)) rows place d row.within others_before (is_its_row d)

    pub without_row : filter (λ row. not (is_property at (f row))) rows ≡ remove rows place
    without_row = filter_but (λ row. not (is_property at (f row))) rows place row.within (λ k d low high. ap not (others_before k d low high))
        (λ d. ap not (is_its_row d)) (λ k d low high. ap not (others_behind k d low high))

-- the place of a property that has no row
module _ {X : Type 0} {f : X → Property} {rows : List X} {at : Property} {place : ℕ} (gap : IsGapAt f rows at place) where
  all_other : All (λ row. is_property at (f row) ≡ false) rows
  all_other k d lt = ⊎_elim
      (λ (before : k < place). is_property_sym at (f (get_or rows k d)) ∙ is_other (f (get_or rows k d)) at (gap.before k d (omega arith) before))
      (λ (behind : place ≤ k). is_other at (f (get_or rows k d)) (gap.behind k d behind lt))
      (cases_lt k place)

  pub gap_counted : IsCountBefore f rows at place
  gap_counted = record {
    within = gap.within;
    before = gap.before;
    behind = λ k d low high. not_behind at (f (get_or rows k d)) (gap.behind k d low high);
  }

  pub found_none : find (λ row. is_property at (f row)) rows ≡ None
  found_none = find_none (λ row. is_property at (f row)) rows all_other

  pub without_none : filter (λ row. not (is_property at (f row))) rows ≡ rows
  without_none = filter_all (λ row. not (is_property at (f row))) rows (λ k d lt. ap not (all_other k d lt))

-- another row in place of one, and one more row

set_split : {X : Type 0} (xs : List X) (i : ℕ) (x : X) → i < length xs → set xs i x ≡ take i xs ++ x ∷ drop (suc i) xs
set_split [] i x lt = absurd (omega arith)
set_split (y ∷ xs) zero x lt = refl
set_split (y ∷ xs) (suc i) x lt = ap (λ zs. y ∷ zs) (set_split xs i x (omega arith))

module _ {X : Type 0} {f : X → Property} (new : X) {rows : List X} {place : ℕ} where
  -- in place of the row of the same property
  pub replaced : IsRowAt f rows (f new) place → IsRising f rows
      → set rows place new ≡ (filter (λ row. is_before (f row) (f new)) rows ++ new ∷ filter (λ row. is_before (f new) (f row)) rows)
  replaced row rising =
      let front : filter (λ row. is_before (f row) (f new)) rows ≡ take place rows =
      filter_front (λ row. is_before (f row) (f new)) rows place (counted row rising).before (counted row rising).behind in
      let back : filter (λ row. is_before (f new) (f row)) rows ≡ drop (suc place) rows =
      filter_back (λ row. is_before (f new) (f row)) rows (suc place) below (rows_behind row rising) in
      set_split rows place new row.within ∙ rw (front, back) refl
    where
      below : (k : ℕ) (d : X) → 0 ≤ k → k < suc place → is_before (f new) (f (get_or rows k d)) ≡ false
      below k d low high = ⊎_elim
          (λ (before : k < place). not_behind (f (get_or rows k d)) (f new) (rows_before row rising k d low before))
          (λ (level : place ≤ k). let same : k ≡ place = omega (arith, level, high) in ap (λ n. is_before (f new) (f (get_or rows n d))) same
          ∙ (ap (is_before (f new)) (row.is d) ∙ never_before (f new)))
          (cases_lt k place)

  -- among the others
  pub inserted : IsGapAt f rows (f new) place
      → insert rows place new ≡ (filter (λ row. is_before (f row) (f new)) rows ++ new ∷ filter (λ row. is_before (f new) (f row)) rows)
  inserted gap =
      let front : filter (λ row. is_before (f row) (f new)) rows ≡ take place rows =
      filter_front (λ row. is_before (f row) (f new)) rows place gap.before
      (λ k d low high. not_behind (f new) (f (get_or rows k d)) (gap.behind k d low high)) in
      let back : filter (λ row. is_before (f new) (f row)) rows ≡ drop place rows =
      filter_back (λ row. is_before (f new) (f row)) rows place (λ k d low high. not_behind (f (get_or rows k d)) (f new) (gap.before k d low high))
      gap.behind in
      rw (front, back) refl

-- what is asked of a place
module _ {X : Type 0} (f : X → Property) (rows : List X) (place : ℕ) (at : Property) (t : Bool)
    (asked : t ≡ option_map_or (λ row. is_property at (f row)) (slice_get rows place) false) where
  asked_within : (d : X) → place < length rows → is_property at (f (get_or rows place d)) ≡ t
  asked_within d within = sym (asked ∙ ap (λ (found : Option X). option_map_or (λ row. is_property at (f row)) found false)
      (slice_get-get_or rows place d within))

  pub row_there : t ≡ true → IsRowAt f rows at place
  row_there stands = record { within = within; is = λ d. sym (property_eq at (f (get_or rows place d)) (asked_within d within ∙ stands)) }
    where
      within : place < length rows
      within = ⊎_elim
          (λ (within : place < length rows). within)
          (λ (past : length rows ≤ place). absurd
          (let never : true ≡ false = sym stands ∙ (asked ∙ ap (λ (found : Option X). option_map_or (λ row. is_property at (f row)) found false)
          (slice_get_past rows place past)) in cc))
          (cases_lt place (length rows))

  pub gap_there : IsRising f rows → IsCountBefore f rows at place → t ≡ false → IsGapAt f rows at place
  gap_there rising count fails = record {
    within = count.within;
    before = count.before;
    behind = λ k d low high. ⊎_elim
        (λ (later : place < k). before_trans at (f (get_or rows place d)) (f (get_or rows k d)) (first d (omega (arith, later, high)))
        (rising place k d later high))
        (λ (level : k ≤ place). let same : k ≡ place = omega (arith, low, level) in ap (λ n. is_before at (f (get_or rows n d))) same
        ∙ first d (omega (arith, same, high)))
        (cases_lt place k);
  }
    where
      first : (d : X) → place < length rows → is_before at (f (get_or rows place d)) ≡ true
      first d within = is_behind (f (get_or rows place d)) at (count.behind place d (omega arith) within) (asked_within d within ∙ fails)

-- rows before, one, and rows behind

pub with_rising : {X : Type 0} (f : X → Property) (new : X) (rows : List X) → IsRising f rows
    → IsRising f ((filter (λ row. is_before (f row) (f new)) rows ++ new ∷ filter (λ row. is_before (f new) (f row)) rows))
with_rising {X} f new rows rising =
    pairs_append R below (new ∷ above) (AllPairs-filter R (λ row. is_before (f row) (f new)) rows rising)
    (AllPairs-cons R new above (filter_passes (λ row. is_before (f new) (f row)) rows) (AllPairs-filter R (λ row. is_before (f new) (f row)) rows rising))
    (λ k d lt. All-cons (R (get_or below k d)) new above (passes k d lt)
    (λ j e in_above. before_trans (f (get_or below k d)) (f new) (f (get_or above j e)) (passes k d lt)
    (filter_passes (λ row. is_before (f new) (f row)) rows j e in_above)))
  where
    R : X → X → Type 0
    R earlier later = is_before (f earlier) (f later) ≡ true

    below : List X
    below = filter (λ row. is_before (f row) (f new)) rows

    above : List X
    above = filter (λ row. is_before (f new) (f row)) rows

    passes : All (λ row. is_before (f row) (f new) ≡ true) below
    passes = filter_passes (λ row. is_before (f row) (f new)) rows

-- rows stay in order
module _ {X : Type 0} {f : X → Property} {rows : List X} {place : ℕ} (rising : IsRising f rows) (new : X) where
  pub set_rising : {at : Property} → IsRowAt f rows at place → at ≡ f new → IsRising f (set rows place new)
  set_rising row is = subst (IsRising f) (sym (replaced new (subst (λ p. IsRowAt f rows p place) is row) rising)) (with_rising f new rows rising)

  pub insert_rising : IsGapAt f rows (f new) place → IsRising f (insert rows place new)
  insert_rising gap = subst (IsRising f) (sym (inserted new gap)) (with_rising f new rows rising)
