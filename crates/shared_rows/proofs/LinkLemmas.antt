-- Links in order.
use Rattle.std.proofs.Common.{◌≡◌, ◌∙◌, ℕ, zero, suc, ◌+◌, ◌-◌, ◌<◌, ◌≤◌, Bool, true, false, not, List, [], ◌∷◌, ◌++◌, Some, Ok, Err, length, filter, find}
use Rattle.std.proofs.Common.{get_or, take, drop, set, slice_get, refl, subst, sym, ap, arith, ⊎_elim}
use Rattle.shared_rows.specs.Gapped.{Gapped}
use Rattle.std.specs.Cmp.{IsTotalOrder, alike_right}
use Rattle.std.specs.List.{All, AllPairs, AllWithin, HoldsAt, insert, remove}
use Rattle.std.specs.List.Sorted.{IsPartitionPoint, IsPartitionedBy}
use Rattle.std.specs.Ordering.{is_eq, is_ge, is_lt, ordering_reverse, ordering_then}
use Rattle.std.specs.declared.cmp.Ordering.{Ordering}
use Rattle.std.specs.declared.cmp.Ordering.TheVariants.{Less, Equal, Greater}
use Rattle.std.proofs.lemmas.Bool.{cases_Bool, cases_lt}
use Rattle.std.proofs.lemmas.List.{get_or_default, set_split, take_all}
use Rattle.std.proofs.lemmas.List.Edits.{length-remove}
use Rattle.std.proofs.lemmas.List.Elements.{All-append, All-cons, filter_passes}
use Rattle.std.proofs.lemmas.List.Kept.{AllPairs-cons, AllPairs-filter}
use Rattle.std.proofs.lemmas.List.Quantifiers.{all_pairs_remove}
use Rattle.shared_rows.specs.Links.{HasMemory, IsBetween, Linked, IsInOrder, IsSeat, first_from, with_link, without_link}

-- a list in order with one more element between its two parts
pub all_pairs_between : {X : Type 0} (R : X → X → Type 0) → ((x y z : X) → R x y → R y z → R x z) → (xs ys : List X) (y : X) → AllPairs R xs → AllPairs R ys
    → All (λ x. R x y) xs → All (R y) ys → AllPairs R (xs ++ y ∷ ys)
all_pairs_between R trans [] ys y front back below above = AllPairs-cons R y ys above back
all_pairs_between R trans (x ∷ xs) ys y front back below above =
    let low = below 0 x (omega arith) in
    AllPairs-cons R x (xs ++ y ∷ ys)
    (All-append (R x) xs (y ∷ ys) (λ k d within. front 0 (suc k) d (omega arith) (omega arith))
    (All-cons (R x) y ys low (λ k d within. trans x y (get_or ys k d) low (above k d within))))
    (all_pairs_between R trans xs ys y (λ i j d lt within. front (suc i) (suc j) d (omega arith) (omega arith)) back
    (λ k d within. below (suc k) d (omega arith)) above)

-- a filter whose test the front passes and the rest fails
pub filter_front : {X : Type 0} (p : X → Bool) (xs : List X) (n : ℕ) → AllWithin (λ x. p x ≡ true) xs 0 n → AllWithin (λ x. p x ≡ false) xs n (length xs)
    → filter p xs ≡ take n xs
filter_front p [] zero passes fails = refl
filter_front p [] (suc n) passes fails = refl
filter_front p (x ∷ xs) zero passes fails =
    let here : p x ≡ false = fails 0 x (omega arith) (omega arith) in
    rw here (filter_front p xs 0 (λ k d low high. absurd (omega arith)) (λ k d low high. fails (suc k) d (omega arith) (omega arith)))
filter_front p (x ∷ xs) (suc n) passes fails =
    let here : p x ≡ true = passes 0 x (omega arith) (omega arith) in
    rw here (ap (λ rest. x ∷ rest) (filter_front p xs n (λ k d low high. passes (suc k) d (omega arith) (omega arith))
    (λ k d low high. fails (suc k) d (omega arith) (omega arith))))

-- and the other way
pub filter_back : {X : Type 0} (p : X → Bool) (xs : List X) (n : ℕ) → AllWithin (λ x. p x ≡ false) xs 0 n → AllWithin (λ x. p x ≡ true) xs n (length xs)
    → filter p xs ≡ drop n xs
filter_back p [] zero fails passes = refl
filter_back p [] (suc n) fails passes = refl
filter_back p (x ∷ xs) zero fails passes =
    let here : p x ≡ true = passes 0 x (omega arith) (omega arith) in
    rw here (ap (λ rest. x ∷ rest) (filter_back p xs 0 (λ k d low high. absurd (omega arith)) (λ k d low high. passes (suc k) d (omega arith) (omega arith))))
filter_back p (x ∷ xs) (suc n) fails passes =
    let here : p x ≡ false = fails 0 x (omega arith) (omega arith) in
    rw here (filter_back p xs n (λ k d low high. fails (suc k) d (omega arith) (omega arith)) (λ k d low high. passes (suc k) d (omega arith) (omega arith)))

-- a filter whose test one element fails
filter_out : {X : Type 0} (p : X → Bool) (xs : List X) (n : ℕ) (d : X) → n < length xs → AllWithin (λ x. p x ≡ true) xs 0 n → p (get_or xs n d) ≡ false
    → AllWithin (λ x. p x ≡ true) xs (n + 1) (length xs) → filter p xs ≡ remove xs n
filter_out p [] n d within before at behind = absurd (omega arith)
filter_out p (x ∷ xs) zero d within before at behind =
    rw at (filter_back p xs 0 (λ k e low high. absurd (omega arith)) (λ k e low high. behind (suc k) e (omega arith) (omega arith)))
filter_out p (x ∷ xs) (suc n) d within before at behind =
    let here : p x ≡ true = before 0 x (omega arith) (omega arith) in
    rw here (ap (λ rest. x ∷ rest) (filter_out p xs n d (omega arith) (λ k e low high. before (suc k) e (omega arith) (omega arith)) at
    (λ k e low high. behind (suc k) e (omega arith) (omega arith))))

-- the first that passes: the front one
pub find_front : {X : Type 0} (p : X → Bool) (xs : List X) (first : X) → 0 < length xs → first ≡ get_or xs 0 first → p first ≡ true → Some first ≡ find p xs
find_front p [] first some is passes = absurd (omega arith)
find_front p (x ∷ xs) first some is passes = let here : p x ≡ true = ap p (sym is) ∙ passes in rw here (ap Some is)

-- or the one before which all fail
find_at : {X : Type 0} (p : X → Bool) (xs : List X) (n : ℕ) → AllWithin (λ x. p x ≡ false) xs 0 n → AllWithin (λ x. p x ≡ true) xs n (length xs)
    → find p xs ≡ slice_get xs n
find_at p [] zero fails passes = refl
find_at p [] (suc n) fails passes = refl
find_at p (x ∷ xs) zero fails passes = let here : p x ≡ true = passes 0 x (omega arith) (omega arith) in rw here refl
find_at p (x ∷ xs) (suc n) fails passes =
    let here : p x ≡ false = fails 0 x (omega arith) (omega arith) in
    rw here (find_at p xs n (λ k d low high. fails (suc k) d (omega arith) (omega arith)) (λ k d low high. passes (suc k) d (omega arith) (omega arith)))

-- elements that pass a test stand before the others, if one that stands before one that passes does too
pub parted_by : {X : Type 0} (p : X → Bool) (xs : List X)
    → ((i j : ℕ) (d : X) → i < j → j < length xs → p (get_or xs j d) ≡ true → p (get_or xs i d) ≡ true) → IsPartitionedBy p xs
parted_by p xs earlier i j d upto within passes = ⊎_elim
    (λ front. earlier i j d front within passes)
    (λ at. let same : i ≡ j = omega arith in ap (λ n. p (get_or xs n d)) same ∙ passes)
    (cases_lt i j)

-- where the elements that pass a test end, two neighbours tell
pub parted_at : {X : Type 0} (p : X → Bool) (xs : List X) → IsPartitionedBy p xs → (at : ℕ) → at ≤ length xs
    → (0 < at → HoldsAt (λ x. p x ≡ true) xs (at - 1)) → (at < length xs → HoldsAt (λ x. p x ≡ false) xs at)
    → IsPartitionPoint (λ x. p x ≡ true) (λ x. p x ≡ false) xs at
parted_at p xs parted at within low high = (
  λ k d first upto. parted k (at - 1) d (omega arith) (omega arith) (low (omega arith) d),
  λ k d from inside. ⊎_elim
      (λ passes. let there = parted at k d from inside passes in let here = high (omega arith) d in absurd (cc))
      (λ fails. fails)
      (cases_Bool (p (get_or xs k d))),
)

pub not_less : (o : Ordering) → is_ge o ≡ true → not (is_lt o) ≡ true
not_less Less high = absurd (cc)
not_less Equal high = refl
not_less Greater high = refl

pub less_from : (o : Ordering) → is_lt o ≡ true → o ≡ Less
less_from Less low = refl
less_from Equal low = absurd (cc)
less_from Greater low = absurd (cc)

pub equal_from : (o : Ordering) → is_eq o ≡ true → o ≡ Equal
equal_from Less same = absurd (cc)
equal_from Equal same = refl
equal_from Greater same = absurd (cc)

-- two tests one after the other find two links equal if both do
pub then_equal : (a b : Ordering) → ordering_then a b ≡ Equal → (a ≡ Equal) × (b ≡ Equal)
then_equal Less b e = absurd (cc)
then_equal Equal b e = (refl, e)
then_equal Greater b e = absurd (cc)

greater_from : (o : Ordering) → is_lt o ≡ false → is_eq o ≡ false → o ≡ Greater
greater_from Less low same = absurd (cc)
greater_from Equal low same = absurd (cc)
greater_from Greater low same = refl

module _ {K : Type 0} {cmp : K → K → Ordering} (total : IsTotalOrder cmp) where
  below_back : (x y : K) → cmp x y ≡ Less → cmp y x ≡ Greater
  below_back x y e = total.antisymm y x ∙ ap ordering_reverse e

  above_back : (x y : K) → cmp x y ≡ Greater → cmp y x ≡ Less
  above_back x y e = total.antisymm y x ∙ ap ordering_reverse e

  module _ (links : List K) (order : IsInOrder cmp links) (link : K) where
    -- a link that is equal stands where it is looked for
    pub seat_found : (at : ℕ) → at < length links → HoldsAt (λ other. cmp other link ≡ Equal) links at → IsSeat cmp links link (Ok at)
    seat_found at within equal = (
      within,
      equal,
      record {
        below = λ k d low high. sym (alike_right total (get_or links at d) link (get_or links k d) (equal d)) ∙ order k at d high within;
        above = λ k d low high. sym (total.congr (get_or links at d) link (get_or links k d) (equal d)) ∙ order at k d (omega arith) high;
      },
    )

    -- those below stand before the others
    pub below_parted : IsPartitionedBy (λ other. is_lt (cmp other link)) links
    below_parted = parted_by (λ other. is_lt (cmp other link)) links (λ i j d lt within low.
        ap is_lt (total.trans (get_or links i d) (get_or links j d) link (order i j d lt within) (less_from (cmp (get_or links j d) link) low)))

    -- a link would stand between one below it and one above it
    seat_between : (at : ℕ) → at ≤ length links → (0 < at → HoldsAt (λ other. cmp other link ≡ Less) links (at - 1))
        → (at < length links → HoldsAt (λ other. cmp link other ≡ Less) links at) → IsSeat cmp links link (Err at)
    seat_between at within low high = (
      within,
      record {
        below = λ k d from upto. ⊎_elim
            (λ before. total.trans (get_or links k d) (get_or links (at - 1) d) link (order k (at - 1) d before (omega arith))
            (low (omega arith) d))
            (λ here. let same : k ≡ at - 1 = omega arith in ap (λ n. cmp (get_or links n d) link) same ∙ low (omega arith) d)
            (cases_lt k (at - 1));
        above = λ k d from upto. ⊎_elim
            (λ behind. total.trans link (get_or links at d) (get_or links k d) (high (omega arith) d) (order at k d behind upto))
            (λ here. let same : k ≡ at = omega arith in ap (λ n. cmp link (get_or links n d)) same ∙ high (omega arith) d)
            (cases_lt at k);
      },
    )

    -- where those below end, if it does not stand there
    pub seat_parted : (at : ℕ) → at ≤ length links → IsPartitionPoint (λ other. is_lt (cmp other link) ≡ true)
        (λ other. is_lt (cmp other link) ≡ false) links at
        → ((d : K) → at < length links → is_eq (cmp (get_or links at d) link) ≡ false) → IsSeat cmp links link (Err at)
    seat_parted at within point differs = seat_between at within
        (λ some d. less_from (cmp (get_or links (at - 1) d) link) (point.0 (at - 1) d (omega arith) (omega arith)))
        (λ there d. above_back (get_or links at d) link (greater_from (cmp (get_or links at d) link) (point.1 at d (omega arith) there) (differs d there)))

    -- behind all others where the last one is below
    pub seat_behind : {last : K} → 0 < length links → last ≡ get_or links (length links - 1) last → is_lt (cmp last link) ≡ true
        → IsSeat cmp links link (Err (length links))
    seat_behind {last} some is low = seat_between (length links) (omega arith)
        (λ some d. ap (λ l. cmp l link) (sym (is ∙ get_or_default links (length links - 1) last d (omega arith))) ∙ less_from (cmp last link) low)
        (λ there d. absurd (omega arith))

    -- and before them where the first one is above
    pub seat_before : {first : K} → first ≡ get_or links 0 first → is_lt (cmp link first) ≡ true → IsSeat cmp links link (Err 0)
    seat_before {first} is low = seat_between 0 (omega arith) (λ some d. absurd (omega arith))
        (λ there d. ap (cmp link) (sym (is ∙ get_or_default links 0 first d there)) ∙ less_from (cmp link first) low)

    -- and between two that stand beside each other
    pub seat_amid : (at : ℕ) → at < length links → HoldsAt (λ other. cmp other link ≡ Less) links (at - 1)
        → HoldsAt (λ other. cmp other link ≡ Greater) links at → IsSeat cmp links link (Err at)
    seat_amid at within low high = seat_between at (omega arith) (λ some d. low d) (λ there d. above_back (get_or links at d) link (high d))

    -- with a link in its place they stay in order
    pub with_order : IsInOrder cmp (with_link cmp links link)
    with_order = all_pairs_between (λ x y. cmp x y ≡ Less) total.trans (filter (λ other. is_lt (cmp other link)) links)
        (filter (λ other. is_lt (cmp link other)) links) link
        (AllPairs-filter (λ x y. cmp x y ≡ Less) (λ other. is_lt (cmp other link)) links order)
        (AllPairs-filter (λ x y. cmp x y ≡ Less) (λ other. is_lt (cmp link other)) links order)
        (λ k d within. less_from _ (filter_passes (λ other. is_lt (cmp other link)) links k d within))
        (λ k d within. less_from _ (filter_passes (λ other. is_lt (cmp link other)) links k d within))

    module _ (before from : ℕ) (upto : before ≤ from) (within : from ≤ length links) (between : IsBetween cmp links link before from)
        (middle : AllWithin (λ other. cmp other link ≡ Equal) links before from) where
      not_below : AllWithin (λ other. is_lt (cmp other link) ≡ false) links before (length links)
      not_below = λ k d low high. ⊎_elim
          (λ mid. ap is_lt (middle k d low mid))
          (λ behind. ap is_lt (below_back link (get_or links k d) (between.above k d behind high)))
          (cases_lt k from)

      not_above : AllWithin (λ other. is_lt (cmp link other) ≡ false) links 0 from
      not_above = λ k d low high. ⊎_elim
          (λ front. ap is_lt (below_back (get_or links k d) link (between.below k d low front)))
          (λ mid. ap is_lt (total.antisymm link (get_or links k d) ∙ ap ordering_reverse (middle k d mid high)))
          (cases_lt k before)

      with_between : with_link cmp links link ≡ take before links ++ link ∷ drop from links
      with_between =
          rw (
            filter_front (λ other. is_lt (cmp other link)) links before (λ k d low high. ap is_lt (between.below k d low high)) not_below,
            filter_back (λ other. is_lt (cmp link other)) links from not_above (λ k d low high. ap is_lt (between.above k d low high)),
          ) refl

    pub set_link : (at : ℕ) → IsSeat cmp links link (Ok at) → set links at link ≡ with_link cmp links link
    set_link at seat =
        let next : suc at ≡ at + 1 = omega arith in
        set_split links at link seat.0
        ∙ (ap (λ from. take at links ++ link ∷ drop from links) next
        ∙ sym (with_between at (at + 1) (omega arith) (omega arith) seat.2
        (λ k d low high. let here : k ≡ at = omega arith in ap (λ i. cmp (get_or links i d) link) here ∙ seat.1 d)))

    pub insert_link : (at : ℕ) → IsSeat cmp links link (Err at) → insert links at link ≡ with_link cmp links link
    insert_link at seat = sym (with_between at at (omega arith) seat.0 seat.1 (λ k d low high. absurd (omega arith)))

    pub remove_link : (at : ℕ) (d : K) → IsSeat cmp links link (Ok at) → remove links at ≡ without_link cmp links link
    remove_link at d seat =
        sym (filter_out (λ other. not (is_eq (cmp other link))) links at d seat.0
        (λ k e low high. ap (λ o. not (is_eq o)) (seat.2.below k e low high))
        (ap (λ o. not (is_eq o)) (seat.1 d))
        (λ k e low high. ap (λ o. not (is_eq o)) (below_back link (get_or links k e) (seat.2.above k e low high))))

    pub without_absent : (at : ℕ) → IsSeat cmp links link (Err at) → links ≡ without_link cmp links link
    without_absent at seat =
        sym (filter_front (λ other. not (is_eq (cmp other link))) links (length links)
        (λ k d low high. ⊎_elim
        (λ below. ap (λ o. not (is_eq o)) (seat.1.below k d low below))
        (λ above. ap (λ o. not (is_eq o)) (below_back link (get_or links k d) (seat.1.above k d above high)))
        (cases_lt k at))
        (λ k d low high. absurd (omega arith)) ∙ take_all (length links) links (omega arith))

    -- the least that is not below the link stands where those below end
    pub first_at : (at : ℕ) → IsPartitionPoint (λ other. is_lt (cmp other link) ≡ true) (λ other. is_lt (cmp other link) ≡ false) links at
        → slice_get links at ≡ first_from cmp links link
    first_at at point = sym (find_at (λ other. not (is_lt (cmp other link))) links at (λ k d low high. ap not (point.0 k d low high))
        (λ k d low high. ap not (point.1 k d low high)))

    pub first_above : (at : ℕ) → IsSeat cmp links link (Err at) → slice_get links at ≡ first_from cmp links link
    first_above at seat =
        sym (find_at (λ other. not (is_lt (cmp other link))) links at (λ k e low high. ap (λ o. not (is_lt o)) (seat.1.below k e low high))
        (λ k e low high. ap (λ o. not (is_lt o)) (below_back link (get_or links k e) (seat.1.above k e low high))))

-- a change of what contracts see
abbrev linked : {K : Type 0} → List K → ℕ → Linked K
linked links capacity = record { links = links; capacity = capacity }

pub relinked : {K : Type 0} (change : List K → List K) {old : Linked K} {links new : List K} {capacity size : ℕ} → linked links capacity ≡ old
    → new ≡ change links → size ≡ capacity → linked new size ≡ linked (change old.links) old.capacity
relinked {K} change {links = links} {new = new} {capacity = capacity} view_is new_is same =
    ap (linked new) same ∙ (ap (λ (list : List K). linked list capacity) new_is ∙ ap (λ (l : Linked K). linked (change l.links) l.capacity) view_is)

-- what stays in order where a link goes
pub order_kept : {K : Type 0} (cmp : K → K → Ordering) (links : List K) (at : ℕ) → at < length links → IsInOrder cmp links → (left : List K)
    → left ≡ remove links at → IsInOrder cmp left
order_kept {K} cmp links at within ordered left same = subst (λ (list : List K). IsInOrder cmp list) (sym same)
    (all_pairs_remove (λ (x y : K). cmp x y ≡ Less) links at within ordered)

-- and what memory there is
pub memory_kept : {K : Type 0} (capacity : ℕ) (items : Gapped K) (at : ℕ) → at < length items.items → HasMemory capacity items → (left : Gapped K)
    → left ≡ record items { items = remove items.items at } → HasMemory capacity left
memory_kept {K} capacity items at within memory left same = (
  omega (arith, ap (λ (list : Gapped K). length list.items) same, length-remove items.items at within),
  omega (arith, ap (λ (list : Gapped K). list.capacity) same),
)
