-- The children of all parents, in one order.
use Rattle.std.proofs.Common.{◌≡◌, ◌≢◌, ◌⊎◌, ℕ, zero, suc, ◌+◌, ◌-◌, ◌<◌, ◌≤◌, ◌==◌, ◌∙◌, Bool, true, false, not, cond, List, [], ◌∷◌, Option, Some, None}
use Rattle.std.proofs.Common.{length, map, filter, get_or, set, take, drop, refl, sym, ap, subst, arith, ⊎_elim, inl, inr, nat_le, nat_lt}
use Rattle.std.proofs.Math.Bool.{not-not}
use Rattle.std.specs.Cmp.{IsTotalOrder}
use Rattle.std.specs.Option.{is_some, option_and_then}
use Rattle.std.specs.List.{All, AllPairs, Any, Contains, slice_range}
use Rattle.std.specs.List.Sorted.{IsPartitionedBy, IsPermutation}
use Rattle.std.specs.Ordering.{is_lt, nat_cmp, ordering_reverse, ordering_then}
use Rattle.std.specs.declared.cmp.Ordering.TheVariants.{Less, Equal}
use Rattle.std.proofs.lemmas.Bool.{cases_Bool, cases_eq, cases_lt, cond-true, cond-false, cond_both, eqb-true, eqb-false, eq-eqb, ne_eqb, leb-true, le-leb}
use Rattle.std.proofs.lemmas.Bool.{ltb-true, ltb-false, false≢true}
use Rattle.std.proofs.lemmas.Bool.Decides.{nat_tests}
use Rattle.std.proofs.lemmas.Cmp.{back_total, nat_cmp_total, on_total, then_total}
use Rattle.std.proofs.Math.Seq.{drop-cons, map-set_same}
use Rattle.std.proofs.lemmas.List.{get_or-map, length-map}
use Rattle.std.proofs.lemmas.List.Elements.{All-cons, All-contains, All-tail, All-weaker}
use Rattle.std.proofs.lemmas.List.Kept.{AllPairs-cons, AllPairs-filter}
use Rattle.std.proofs.lemmas.List.Sorted.{All-permutation, Contains-permutation, IsPermutation-cons, IsPermutation-middle, IsPermutation-refl}
use Rattle.std.proofs.lemmas.List.Sorted.{IsPermutation-sym, IsPermutation-trans}
use Rattle.std.proofs.lemmas.Map.Views.{Contains-from_any}
use Rattle.std.proofs.lemmas.Simd.{map-map}
use Rattle.shared_rows.specs.Links.{AreLinked, IsInOrder, with_link, without_link}
use Rattle.shared_rows.specs.Rows as shared
use Rattle.shared_rows.specs.Rows.{Keyed, with_row}
use Rattle.shared_rows.proofs.ForCallers.{then_equal}
use Rattle.shared_rows.proofs.LinkedLemmas.{all_from, any_of, contains_from, contains_kept, contains_map, contains_mapped, linked_filter, linked_map}
use Rattle.shared_rows.proofs.LinkedLemmas.{same_links}
use Rattle.object_tree.specs.declared.row.Row.{Row}
use Rattle.object_tree.specs.declared.child.Child.{Child}
use Rattle.object_tree.specs.Rows.{by_stamp, children, has_number, has_parent, inserted, is_same, is_there, numbers, parent_of, row_of}
use Rattle.object_tree.specs.Forest.{Forest, IsSound}
use Rattle.object_tree.specs.Changes.{changed, orphaned}
use Rattle.object_tree.specs.Children.{IsCountFrom, child_cmp, child_of, order_of, rows_of}
use Rattle.object_tree.proofs.NumberLemmas.{Rise, at_place, at_rising, nowhere, number_of, there_at, unchanged, without}
use Rattle.object_tree.proofs.KeyLemmas.{Stands}
use Rattle.object_tree.proofs.RowLemmas.{among, change_one}
use Rattle.object_tree.proofs.ForestLemmas.{nobody}

-- the order
pub child_total : IsTotalOrder child_cmp
child_total = then_total (then_total (on_total (λ (c : Child). c.parent) (back_total nat_cmp_total)) (on_total (λ (c : Child). c.stamp) nat_cmp_total))
    (on_total (λ (c : Child). c.number) nat_cmp_total)

less_cmp : (a b : ℕ) → a < b → nat_cmp a b ≡ Less
less_cmp a b h = grind (arith, nat_tests)

same-from_cmp : (a b : ℕ) → nat_cmp a b ≡ Equal → a ≡ b
same-from_cmp a b e = grind (arith, nat_tests)

equal_cmp : (a b : ℕ) → a ≡ b → nat_cmp a b ≡ Equal
equal_cmp a b h = grind (arith, nat_tests)

pub child_same : (x y : Child) → child_cmp x y ≡ Equal → x ≡ y
child_same x y e =
    let outer = then_equal (ordering_then (nat_cmp y.parent x.parent) (nat_cmp x.stamp y.stamp)) (nat_cmp x.number y.number) e in
    let inner = then_equal (nat_cmp y.parent x.parent) (nat_cmp x.stamp y.stamp) outer.0 in
    λ i. record {
      stamp = same-from_cmp x.stamp y.stamp inner.1 i;
      parent = sym (same-from_cmp y.parent x.parent inner.0) i;
      number = same-from_cmp x.number y.number outer.1 i;
    }

younger : (a b : Child) → a.parent ≡ b.parent → a.stamp < b.stamp → child_cmp a b ≡ Less
younger a b same lt = λ i. ordering_then (ordering_then (equal_cmp b.parent a.parent (sym same) i) (less_cmp a.stamp b.stamp lt i)) (nat_cmp a.number b.number)

pub not_below : (a b : Child) → is_lt (child_cmp a b) ≡ false → a.parent ≤ b.parent
not_below a b e = ⊎_elim
    (λ low.
    let less : is_lt (child_cmp a b) ≡ true =
    λ i. is_lt (ordering_then (ordering_then (less_cmp b.parent a.parent (ltb-true _ _ low) i) (nat_cmp a.stamp b.stamp))
    (nat_cmp a.number b.number)) in
    absurd (false≢true (sym e ∙ less)))
    (λ high. ltb-false _ _ high)
    (cases_Bool (nat_lt b.parent a.parent))

-- the links of rows where one moves, or goes, which is the only one of its number
module _ {key n : ℕ} {row : Row} {keyed : List (Keyed Row)} {links : List Child} (stands : Stands key n row keyed)
    (linked : AreLinked child_of (rows_of keyed) links) where
  other_link : (r : Row) → (r.number == n) ≡ false → child_of r ≢ child_of row
  other_link r other e = eqb-false r.number n other (ap (λ (c : Child). c.number) e ∙ stands.numbered)

  pub links_put : (f : Row → Row) → AreLinked child_of (rows_of (with_row keyed key (f row)))
      (with_link child_cmp (without_link child_cmp links (child_of row)) (child_of (f row)))
  links_put f = rw (stands.put f)
      (linked_map child_total child_same child_of (change_one f n) (rows_of keyed) links (child_of row) (child_of (f row)) linked
      (All-weaker (λ (r : Row). (r.number == n) ≡ true → r ≡ row)
      (λ (r : Row). ((child_of r ≡ child_of row) × (child_of (change_one f n r) ≡ child_of (f row)))
      ⊎ ((child_of r ≢ child_of row) × (child_of (change_one f n r) ≡ child_of r))) (λ r same. ⊎_elim
      (λ here. inl (
        ap child_of (same here),
        ap child_of (cond-true (r.number == n) (f r) r here)
            ∙ ap (λ q. child_of (f q)) (same here),
      ))
      (λ other. inr (other_link r other, ap child_of (cond-false (r.number == n) (f r) r other)))
      (cases_Bool (r.number == n))) (rows_of keyed) stands.only)
      (any_of (λ (r : Row). child_of r ≡ child_of row) (rows_of keyed) row stands.there refl))

  pub links_out : AreLinked child_of (rows_of (shared.without keyed key)) (without_link child_cmp links (child_of row))
  links_out = rw stands.out
      (linked_filter child_total child_same child_of (λ r. not (has_number n r)) (rows_of keyed) links (child_of row) linked
      (λ k d within stays. other_link (get_or (rows_of keyed) k d) (sym (not-not _) ∙ ap not stays))
      (λ k d within goes. ap child_of (stands.only k d within (sym (not-not _) ∙ ap not goes))))

-- rows by stamp are the same rows
inserted_same : (row : Row) (rows : List Row) → IsPermutation (inserted row rows) (row ∷ rows)
inserted_same row [] = IsPermutation-refl (row ∷ [])
inserted_same row (first ∷ rest) = cond_both (nat_lt row.stamp first.stamp) (row ∷ first ∷ rest) (first ∷ inserted row rest)
    (λ list. IsPermutation list (row ∷ first ∷ rest))
    (λ _. IsPermutation-refl (row ∷ first ∷ rest))
    (λ _. IsPermutation-trans _ _ _ (IsPermutation-cons first _ _ (inserted_same row rest)) (IsPermutation-middle (first ∷ []) row rest))

pub sorted_same : (rows : List Row) → IsPermutation (by_stamp rows) rows
sorted_same [] = IsPermutation-refl []
sorted_same (row ∷ rest) = IsPermutation-trans _ _ _ (inserted_same row (by_stamp rest)) (IsPermutation-cons row _ _ (sorted_same rest))

-- and their stamps rise where no two are the same
inserted_rise : (row : Row) (rows : List Row) → All (λ (r : Row). row.stamp ≢ r.stamp) rows → AllPairs (λ (a b : Row). a.stamp < b.stamp) rows
    → AllPairs (λ (a b : Row). a.stamp < b.stamp) (inserted row rows)
inserted_rise row [] differ rise = λ i j d lt within. absurd (omega arith)
inserted_rise row (first ∷ rest) differ rise = cond_both (nat_lt row.stamp first.stamp) (row ∷ first ∷ rest) (first ∷ inserted row rest)
    (AllPairs (λ (a b : Row). a.stamp < b.stamp))
    (λ low. AllPairs-cons (λ (a b : Row). a.stamp < b.stamp) row (first ∷ rest)
    (All-cons (λ (r : Row). row.stamp < r.stamp) first rest (ltb-true _ _ low)
    (λ k d within. omega (arith, ltb-true _ _ low, rise 0 (suc k) d (omega arith) (omega arith)))) rise)
    (λ high. AllPairs-cons (λ (a b : Row). a.stamp < b.stamp) first (inserted row rest)
    (All-permutation (λ (r : Row). first.stamp < r.stamp) (row ∷ rest) (inserted row rest) (IsPermutation-sym _ _ (inserted_same row rest))
    (All-cons (λ (r : Row). first.stamp < r.stamp) row rest (omega (arith, ltb-false _ _ high, differ 0 first (omega arith)))
    (λ k d within. rise 0 (suc k) d (omega arith) (omega arith))))
    (inserted_rise row rest (All-tail (λ (r : Row). row.stamp ≢ r.stamp) first rest differ)
    (λ i j d lt within. rise (suc i) (suc j) d (omega arith) (omega arith))))

sorted_rise : (rows : List Row) → AllPairs (λ (a b : Row). a.stamp ≢ b.stamp) rows → AllPairs (λ (a b : Row). a.stamp < b.stamp) (by_stamp rows)
sorted_rise [] differ = λ i j d lt within. absurd (omega arith)
sorted_rise (row ∷ rest) differ = inserted_rise row (by_stamp rest)
    (All-permutation (λ (r : Row). row.stamp ≢ r.stamp) rest (by_stamp rest) (IsPermutation-sym _ _ (sorted_same rest))
    (λ k d within. differ 0 (suc k) d (omega arith) (omega arith)))
    (sorted_rise rest (λ i j d lt within. differ (suc i) (suc j) d (omega arith) (omega arith)))

in_order : (o : ℕ) (rows : List Row) → All (λ (r : Row). order_of r.parent ≡ o) rows → AllPairs (λ (a b : Row). a.stamp < b.stamp) rows
    → IsInOrder child_cmp (map child_of rows)
in_order o rows same rise i j d lt within =
    let inside : j < length rows = omega (arith, length-map rows child_of) in
    rw (get_or-map child_of rows i nobody d (omega arith), get_or-map child_of rows j nobody d inside)
    (younger (child_of (get_or rows i nobody)) (child_of (get_or rows j nobody)) (same i nobody (omega arith) ∙ sym (same j nobody inside))
    (rise i j nobody lt inside))

-- two parents stand in one place only where they are the same
same_order : (p q : Option ℕ) → is_same p (Some 0) ≡ false → is_same q (Some 0) ≡ false → (order_of p == order_of q) ≡ is_same p q
same_order None None not_p not_q = refl
same_order None (Some q) not_p not_q = ne_eqb 0 q (λ same. eqb-false q 0 not_q (sym same))
same_order (Some p) None not_p not_q = not_p
same_order (Some p) (Some q) not_p not_q = refl

order_same : (p q : Option ℕ) → is_same p q ≡ true → order_of p ≡ order_of q
order_same None None e = refl
order_same None (Some q) e = absurd (cc)
order_same (Some p) None e = absurd (cc)
order_same (Some p) (Some q) e = eqb-true p q e

-- the children of a parent
module _ (rows : List Row) (links : List Child) (linked : AreLinked child_of rows links) (begin : All (λ (r : Row). has_parent (Some 0) r ≡ false) rows)
    (parent : Option ℕ) (above : is_same parent (Some 0) ≡ false) where
  abbrev kids : List Row
  kids = filter (has_parent parent) rows

  to : (x : Child) → Contains (filter (λ child. child.parent == order_of parent) links) x → Contains (map child_of (by_stamp kids)) x
  to x there =
      let kept = contains_from (λ child. child.parent == order_of parent) links x there in
      let any : Any (λ r. child_of r ≡ x) rows = All-contains (λ link. Any (λ r. child_of r ≡ link) rows) links x linked.all kept.0 in
      let stood : Contains rows any.1 = (any.0, any.2, any.3) in
      let has : has_parent parent any.1 ≡ true =
      sym (same_order any.1.parent parent (All-contains (λ (r : Row). has_parent (Some 0) r ≡ false) rows any.1 begin stood) above)
      ∙ (ap (λ (c : Child). c.parent == order_of parent) any.4 ∙ kept.1) in
      subst (Contains (map child_of (by_stamp kids))) any.4
      (contains_map child_of (by_stamp kids) any.1
      (Contains-permutation kids (by_stamp kids) any.1 (IsPermutation-sym _ _ (sorted_same kids)) (contains_kept (has_parent parent) rows any.1 stood has)))

  from : (x : Child) → Contains (map child_of (by_stamp kids)) x → Contains (filter (λ child. child.parent == order_of parent) links) x
  from x there =
      let row = contains_mapped child_of (by_stamp kids) x there in
      let kept = contains_from (has_parent parent) rows row.0 (Contains-permutation (by_stamp kids) kids row.0 (sorted_same kids) row.1) in
      subst (Contains (filter (λ child. child.parent == order_of parent) links)) row.2
      (contains_kept (λ child. child.parent == order_of parent) links (child_of row.0)
      (All-contains (λ r. Contains links (child_of r)) rows row.0 linked.each kept.0)
      (eq-eqb (order_of row.0.parent) (order_of parent) (order_same row.0.parent parent kept.1)))

  parents_same : All (λ (r : Row). order_of r.parent ≡ order_of parent) (by_stamp kids)
  parents_same = all_from (λ (r : Row). order_of r.parent ≡ order_of parent) (by_stamp kids)
      (λ r there. order_same r.parent parent (contains_from (has_parent parent) rows r
      (Contains-permutation (by_stamp kids) kids r (sorted_same kids) there)).1)

  pub group_is : IsInOrder child_cmp links → AllPairs (λ (a b : Row). a.stamp ≢ b.stamp) rows
      → map (λ (child : Child). child.number) (filter (λ child. child.parent == order_of parent) links) ≡ children rows parent
  unfolding children
  group_is order differ =
      ap (map (λ (child : Child). child.number))
      (same_links child_total child_same (filter (λ child. child.parent == order_of parent) links) (map child_of (by_stamp kids))
      (AllPairs-filter (λ a b. child_cmp a b ≡ Less) (λ child. child.parent == order_of parent) links order)
      (in_order (order_of parent) (by_stamp kids) parents_same
      (sorted_rise kids (AllPairs-filter (λ (a b : Row). a.stamp ≢ b.stamp) (has_parent parent) rows differ)))
      to from)
      ∙ map-map (λ (child : Child). child.number) child_of (by_stamp kids)

-- the children of a parent stand together
parents_fall : (list : List Child) → IsInOrder child_cmp list → (i j : ℕ) (d : Child) → i ≤ j → j < length list
    → (get_or list j d).parent ≤ (get_or list i d).parent
parents_fall list order i j d le within = ⊎_elim
    (λ same. omega (arith, ap (λ k. (get_or list k d).parent) same))
    (λ differ. not_below (get_or list j d) (get_or list i d)
    (ap is_lt (child_total.antisymm (get_or list j d) (get_or list i d) ∙ ap ordering_reverse (order i j d (omega arith) within))))
    (cases_eq i j)

pub parted : (list : List Child) → IsInOrder child_cmp list → (parent : ℕ) → IsPartitionedBy (λ (c : Child). nat_le parent c.parent) list
parted list order parent i j d le within later = le-leb _ _ (omega (arith, leb-true _ _ later, parents_fall list order i j d le within))

-- so many have this parent or a later one, where that is so of the last of them and not of the next child
pub count_from_ends : (list : List Child) → IsInOrder child_cmp list → (parent count : ℕ) → count ≤ length list
    → (count < length list → (d : Child) → (get_or list count d).parent < parent) → (0 < count → (d : Child) → parent ≤ (get_or list (count - 1) d).parent)
    → IsCountFrom list parent count
count_from_ends list order parent count within next last = record {
  within = within;
  before = λ k d lt. omega (arith, last (omega arith) d, parents_fall list order k (count - 1) d (omega arith) (omega arith));
  behind = λ k d ge inside. omega (arith, next (omega arith) d, parents_fall list order count k d ge inside);
}

-- none has a parent where none stands behind those of a later one, or the first that does is of an earlier one
pub none_of : (list : List Child) → IsInOrder child_cmp list → (parent from : ℕ) → IsCountFrom list (parent + 1) from
    → (from < length list → (d : Child) → (get_or list from d).parent ≢ parent) → All (λ (child : Child). child.parent ≢ parent) list
none_of list order parent from starts other k d within = λ same. ⊎_elim
    (λ lt. absurd (omega (arith, starts.before k d lt)))
    (λ ge.
    let inside : from < length list = omega arith in
    absurd (omega (arith, parents_fall list order from k d ge within, starts.behind from d (omega arith) inside, other inside d)))
    (cases_lt k from)

no_one : Child
no_one = record { stamp = 0; parent = 0; number = 0 }

module _ {X : Type 0} where
  take_nil : (n : ℕ) → ◌≡◌ {A = List X} (take n []) []
  take_nil zero = refl
  take_nil (suc n) = refl

  -- a stretch of a list
  pub stretch : (p : X → Bool) (xs : List X) (from to : ℕ) → from ≤ to → to ≤ length xs → ((k : ℕ) (d : X) → k < from → p (get_or xs k d) ≡ false)
      → ((k : ℕ) (d : X) → from ≤ k → k < to → p (get_or xs k d) ≡ true) → ((k : ℕ) (d : X) → to ≤ k → k < length xs → p (get_or xs k d) ≡ false)
      → filter p xs ≡ take (to - from) (drop from xs)
  stretch p [] zero to order within before in' behind = sym (take_nil (to - 0))
  stretch p [] (suc from) to order within before in' behind = sym (take_nil (to - suc from))
  stretch p (x ∷ rest) zero zero order within before in' behind =
      cond-false (p x) _ _ (behind 0 x (omega arith) (omega arith))
      ∙ stretch p rest zero zero (omega arith) (omega arith) (λ k d h. absurd (omega arith)) (λ k d ge lt. absurd (omega arith))
      (λ k d ge lt. behind (suc k) d (omega arith) (omega arith))
  stretch p (x ∷ rest) zero (suc to) order within before in' behind =
      let short : suc to - 0 ≡ suc (to - 0) = omega arith in
      cond-true (p x) _ _ (in' 0 x (omega arith) (omega arith))
      ∙ (ap (λ l. x ∷ l) (stretch p rest zero to (omega arith) (omega arith) (λ k d h. absurd (omega arith))
      (λ k d ge lt. in' (suc k) d (omega arith) (omega arith)) (λ k d ge lt. behind (suc k) d (omega arith) (omega arith)))
      ∙ sym (ap (λ n. take n (x ∷ rest)) short))
  stretch p (x ∷ rest) (suc from) zero order within before in' behind = absurd (omega arith)
  stretch p (x ∷ rest) (suc from) (suc to) order within before in' behind =
      let short : suc to - suc from ≡ to - from = omega arith in
      cond-false (p x) _ _ (before 0 x (omega arith))
      ∙ (stretch p rest from to (omega arith) (omega arith) (λ k d h. before (suc k) d (omega arith))
      (λ k d ge lt. in' (suc k) d (omega arith) (omega arith)) (λ k d ge lt. behind (suc k) d (omega arith) (omega arith))
      ∙ sym (ap (λ n. take n (drop from rest)) short))

module _ (list : List Child) (parent from to : ℕ) (starts : IsCountFrom list (parent + 1) from) (ends : IsCountFrom list parent to) where
  pub group_order : from ≤ to
  group_order = ⊎_elim (λ lt. absurd (omega (arith, starts.before to no_one lt, ends.behind to no_one (omega arith) (omega arith))))
      (λ ge. ge) (cases_lt to from)

  pub group_between : take (to - from) (drop from list) ≡ filter (λ child. child.parent == parent) list
  group_between = sym (stretch (λ (child : Child). child.parent == parent) list from to group_order ends.within
      (λ k d lt. ne_eqb (get_or list k d).parent parent (λ same. absurd (omega (arith, starts.before k d lt))))
      (λ k d ge lt. eq-eqb (get_or list k d).parent parent (omega (arith, starts.behind k d ge (omega arith), ends.before k d lt)))
      (λ k d ge lt. ne_eqb (get_or list k d).parent parent (λ same. absurd (omega (arith, ends.behind k d ge lt)))))

-- the first of a stretch, and the rest
pub stretch_next : {X : Type 0} (list : List X) (from to : ℕ) (d : X) → from < to → to ≤ length list
    → slice_range list from to ≡ get_or list from d ∷ slice_range list (from + 1) to
stretch_next list from to d less within =
    let one : to - from ≡ suc (to - (from + 1)) = omega arith in
    let next : suc from ≡ from + 1 = omega arith in
    ap (λ n. take n (drop from list)) one
    ∙ (ap (take (suc (to - (from + 1)))) (drop-cons list from d (omega arith))
    ∙ ap (λ k. get_or list from d ∷ take (to - (from + 1)) (drop k list)) next)

-- nothing stands behind its end
pub stretch_ends : {X : Type 0} (list : List X) (from to : ℕ) → to ≤ from → slice_range list from to ≡ []
stretch_ends list from to past =
    let none : to - from ≡ 0 = omega arith in ap (λ n. take n (drop from list)) none

-- one that passes gives way to one that does not
fewer : (p : Row → Bool) (rows : List Row) (k : ℕ) (d x : Row) → k < length rows → p (get_or rows k d) ≡ true → p x ≡ false
    → length (filter p (set rows k x)) < length (filter p rows)
fewer p [] k d x within has lacks = absurd (omega arith)
fewer p (row ∷ rest) zero d x within has lacks = rw (has, lacks) (omega arith)
fewer p (row ∷ rest) (suc k) d x within has lacks = by (p row) (fewer p rest k d x (omega arith) has lacks)
  where
    by : (b : Bool) → length (filter p (set rest k x)) < length (filter p rest)
        → length (cond b (row ∷ filter p (set rest k x)) (filter p (set rest k x))) < length (cond b (row ∷ filter p rest) (filter p rest))
    by true h = omega arith
    by false h = h

-- an object that no row has as its parent
orphans_none : (o : ℕ) (rows : List Row) → All (λ (r : Row). has_parent (Some o) r ≡ false) rows
    → (map (orphaned o) rows ≡ rows) × (filter (has_parent (Some o)) rows ≡ [])
orphans_none o [] lacks = (refl, refl)
orphans_none o (row ∷ rest) lacks =
    let here : has_parent (Some o) row ≡ false = lacks 0 row (omega arith) in
    let later = orphans_none o rest (All-tail (λ (r : Row). has_parent (Some o) r ≡ false) row rest lacks) in
    (λ i. cond-false (has_parent (Some o) row) (record row { parent = None }) row here i ∷ later.0 i, rw here later.1)

same_parent : (p : Option ℕ) (n : ℕ) → is_same p (Some n) ≡ true → p ≡ Some n
same_parent None n e = absurd (cc)
same_parent (Some p) n e = ap Some (eqb-true p n e)

-- a child of an object, or none
module _ {rows : List Row} {links : List Child} (linked : AreLinked child_of rows links) (object : ℕ) where
  pub none_there : All (λ (child : Child). child.parent ≢ object) links → map (orphaned object) rows ≡ rows
  none_there none = (orphans_none object rows (all_from (λ (r : Row). has_parent (Some object) r ≡ false) rows (λ r there. ⊎_elim
      (λ has.
      absurd (All-contains (λ (child : Child). child.parent ≢ object) links (child_of r) none
      (All-contains (λ r. Contains links (child_of r)) rows r linked.each there) (order_same r.parent (Some object) has)))
      (λ lacks. lacks)
      (cases_Bool (has_parent (Some object) r))))).0

  -- a child that becomes a root is as it is when the object has gone, and there is one child less
  pub one_there : AllPairs (λ a b. number_of a < number_of b) rows → 1 ≤ object → (child : Child) → Contains links child → child.parent ≡ object
      → (map (orphaned object) (changed (λ row. record row { parent = None; stamp = child.stamp }) child.number rows) ≡ map (orphaned object) rows)
      × (length (filter (has_parent (Some object)) (changed (λ row. record row { parent = None; stamp = child.stamp }) child.number rows)) < length
      (filter (has_parent (Some object)) rows))
  one_there rise begins child there same = rw free (
    map-set_same (orphaned object) rows some.0 (frees (get_or rows some.0 row)) row
        (ap (λ (r : Row). orphaned object (frees r)) some.3 ∙ (alike ∙ ap (orphaned object) (sym some.3))),
    fewer (has_parent (Some object)) rows some.0 row (frees (get_or rows some.0 row)) some.2 (ap (has_parent (Some object)) some.3 ∙ has) refl,
  )
    where
      some : Any (λ r. child_of r ≡ child) rows
      some = All-contains (λ link. Any (λ r. child_of r ≡ link) rows) links child linked.all there

      row : Row
      row = some.1

      frees : Row → Row
      frees r = record r { parent = None; stamp = child.stamp }

      free : changed frees child.number rows ≡ set rows some.0 (frees (get_or rows some.0 row))
      free = (at_rising frees child.number rows some.0 row rise some.2 (ap number_of some.3 ∙ ap (λ (c : Child). c.number) some.4)).1

      has : has_parent (Some object) row ≡ true
      has = by row.parent (ap (λ (c : Child). c.parent) some.4 ∙ same)
        where
          by : (p : Option ℕ) → order_of p ≡ object → is_same p (Some object) ≡ true
          by None e = absurd (omega arith)
          by (Some p) e = eq-eqb p object e

      alike : orphaned object (frees row) ≡ orphaned object row
      alike = (λ i. record row { parent = None; stamp = ap (λ (c : Child). c.stamp) (sym some.4) i })
          ∙ sym (cond-true (has_parent (Some object) row) (record row { parent = None }) row has)

-- who is among the children of an object has it as parent
pub child_parent : (rows : List Row) (n c : ℕ) → Rise rows → among (children rows (Some n)) c ≡ true → (parent_of rows c ≡ Some n) × (is_there rows c ≡ true)
unfolding children
child_parent rows n c rise in' =
    let kids : List Row = filter (has_parent (Some n)) rows in
    let row = contains_mapped number_of (by_stamp kids) c (Contains-from_any (λ x y e. eqb-true x y e) c (numbers (by_stamp kids)) in') in
    let kept = contains_from (has_parent (Some n)) rows row.0 (Contains-permutation (by_stamp kids) kids row.0 (sorted_same kids) row.1) in
    let is : row_of rows c ≡ Some row.0 = (at_place (λ r. r) c rows kept.0.0 row.0 rise kept.0.1 (ap number_of kept.0.2 ∙ row.2)).0 ∙ ap Some kept.0.2 in
    (ap (option_and_then (λ (r : Row). r.parent)) is ∙ same_parent row.0.parent n kept.1, ap is_some is)

module _ (forest : Forest) (sound : IsSound forest) where
  -- who is not there has no child
  childless : (n : ℕ) → row_of forest.rows n ≡ None → All (λ (r : Row). has_parent (Some n) r ≡ false) forest.rows
  childless n absent k d within = ⊎_elim
      (λ has.
      let row : Row = get_or forest.rows k d in
      let below : parent_of forest.rows row.number ≡ Some n =
      ap (option_and_then (λ (r : Row). r.parent)) (at_place (λ r. r) row.number forest.rows k d sound.numbers_rise within refl).0
      ∙ same_parent row.parent n has in
      absurd (false≢true (ap is_some (sym absent) ∙ sound.parents row.number n below)))
      (λ lacks. lacks)
      (cases_Bool (has_parent (Some n) (get_or forest.rows k d)))

  pub parents_begin : All (λ (r : Row). has_parent (Some 0) r ≡ false) forest.rows
  parents_begin = childless 0 (nowhere number_of (λ r. r) 0 forest.rows nobody
      (λ k within is. absurd (omega (arith, sound.numbers_begin k nobody within)))).0

  pub none_below : (parent : Option ℕ) → is_same parent (Some 0) ≡ true → children forest.rows parent ≡ []
  unfolding children
  none_below parent e = rw (same_parent parent 0 e) (ap (λ l. numbers (by_stamp l)) (orphans_none 0 forest.rows parents_begin).1)

  pub orphans_absent : (n : ℕ) → row_of forest.rows n ≡ None → map (orphaned n) (without n forest.rows) ≡ forest.rows
  orphans_absent n absent = ap (map (orphaned n)) (unchanged (λ r. r) n forest.rows absent).1 ∙ (orphans_none n forest.rows (childless n absent)).0

  -- who is there has a number from 1
  pub number_begins : (n : ℕ) (row : Row) → row_of forest.rows n ≡ Some row → 1 ≤ n
  number_begins n row is = let place = there_at forest.rows n (ap is_some is) in omega (arith, sound.numbers_begin place.0 row place.1, place.2 row)
