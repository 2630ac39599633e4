-- What is left of a list by a test.
use Rattle.std.proofs.Common.{◌≡◌, ◌&&◌, ◌||◌, ℕ, Bool, true, false, cond, List, [], ◌∷◌, Some, None, filter, find, get_or, not, refl, slice_get, ap}
use Rattle.std.proofs.Common.{subst, arith, ⊎_elim}
use Rattle.std.specs.List.{All, AllByRecursion, list_any}
use Rattle.std.proofs.lemmas.Bool.{cases_Bool, not-true}
use Rattle.std.proofs.lemmas.List.Elements.{All-filter, All-head, All-tail, All-from_recursion, filter_passes, recursion_from_All}
use Rattle.std.proofs.lemmas.Option.{get_or_from_slice_get, slice_get_within}

-- two tests one after the other
pub filter-both : {X : Type 0} (p q : X → Bool) (xs : List X) → filter q (filter p xs) ≡ filter (λ x. p x && q x) xs
filter-both p q [] = refl
filter-both p q (x ∷ xs) = let rest = filter-both p q xs in
    ⊎_elim
    (λ e. ⊎_elim (λ f. grind (arith, e, f, rest)) (λ f. grind (arith, e, f, rest)) (cases_Bool (q x)))
    (λ e. grind (arith, e, rest))
    (cases_Bool (p x))

-- a test that all pass
pub filter-all : {X : Type 0} (xs : List X) → filter (λ x. true) xs ≡ xs
filter-all [] = refl
filter-all (x ∷ xs) = ap (λ rest. x ∷ rest) (filter-all xs)

-- two tests that agree leave the same
pub filter-alike : {X : Type 0} (p q : X → Bool) (xs : List X) → AllByRecursion (λ x. p x ≡ q x) xs → filter p xs ≡ filter q xs
filter-alike p q [] same = refl
filter-alike p q (x ∷ xs) same = rw same.0 (ap (λ rest. cond (q x) (x ∷ rest) rest) (filter-alike p q xs same.1))

pub filter-swap : {X : Type 0} (p q : X → Bool) (xs : List X) → filter p (filter q xs) ≡ filter q (filter p xs)
filter-swap p q [] = refl
filter-swap p q (x ∷ xs) = let rest = filter-swap p q xs in
    ⊎_elim
    (λ e. ⊎_elim (λ f. grind (arith, e, f, rest)) (λ f. grind (arith, e, f, rest)) (cases_Bool (q x)))
    (λ e. ⊎_elim (λ f. grind (arith, e, f, rest)) (λ f. grind (arith, e, f, rest)) (cases_Bool (q x)))
    (cases_Bool (p x))

pub filter-none : {X : Type 0} (q : X → Bool) (xs : List X) → AllByRecursion (λ x. q x ≡ false) xs → filter q xs ≡ []
filter-none q [] none = refl
filter-none q (x ∷ xs) none = rw none.0 (filter-none q xs none.1)

-- what is found passes, and where nothing is found nothing passes
pub find-passes : {X : Type 0} (q : X → Bool) (xs : List X) (x : X) → find q xs ≡ Some x → q x ≡ true
find-passes q [] x e = absurd (cc)
find-passes q (first ∷ xs) x e = by (q first) refl e (find-passes q xs x)
  where
    by : (passed : Bool) → q first ≡ passed → cond passed (Some first) (find q xs) ≡ Some x → (find q xs ≡ Some x → q x ≡ true) → q x ≡ true
    by true is e later = let same : first ≡ x = cc in subst (λ x. q x ≡ true) same is
    by false is e later = later e

pub find-none : {X : Type 0} (q : X → Bool) (xs : List X) → find q xs ≡ None → filter q xs ≡ []
find-none q [] e = refl
find-none q (first ∷ xs) e = by (q first) e (find-none q xs)
  where
    by : (passed : Bool) → cond passed (Some first) (find q xs) ≡ None → (find q xs ≡ None → filter q xs ≡ [])
        → cond passed (first ∷ filter q xs) (filter q xs) ≡ []
    by true e later = absurd (cc)
    by false e later = later e

pub none-found : {X : Type 0} (q : X → Bool) (xs : List X) → list_any q xs ≡ false → find q xs ≡ None
none-found q [] e = refl
none-found q (first ∷ xs) e = by (q first) e (none-found q xs)
  where
    by : (passed : Bool) → (passed || list_any q xs) ≡ false → (list_any q xs ≡ false → find q xs ≡ None) → cond passed (Some first) (find q xs) ≡ None
    by true e later = absurd (cc)
    by false e later = later e

-- what holds of each of some rows holds of those of them that are left
pub each_left : {X : Type 0} (P : X → Type 0) (test : X → Bool) (xs : List X) → AllByRecursion P xs → AllByRecursion P (filter test xs)
each_left P test xs all = recursion_from_All P (filter test xs) (All-filter test P xs (All-from_recursion P xs all))

-- what is left where some are taken out does not pass their test
pub all_left : {X : Type 0} (P : X → Type 0) (test : X → Bool) (xs : List X) → All P xs
    → All (λ x. P x × (test x ≡ false)) (filter (λ x. not (test x)) xs)
all_left P test xs all index default within = (
  All-filter (λ x. not (test x)) P xs all index default within,
  not-true (test (get_or (filter (λ x. not (test x)) xs) index default)) (filter_passes (λ x. not (test x)) xs index default within),
)

-- what holds of each holds of one that is found
pub of_found : {X : Type 0} (P : X → Type 0) (test : X → Bool) (xs : List X) (x : X) → find test xs ≡ Some x → All P xs → P x
of_found P test [] x found all = absurd (cc)
of_found P test (first ∷ rest) x found all = by (test first) found (λ found. of_found P test rest x found (All-tail P first rest all))
  where
    by : (passes : Bool) → cond passes (Some first) (find test rest) ≡ Some x → (find test rest ≡ Some x → P x) → P x
    by true found later = let same : first ≡ x = cc in subst P same (All-head P first rest all)
    by false found later = later found

-- what holds of each holds of the one at an index
pub of_slice : {X : Type 0} (P : X → Type 0) (xs : List X) (index : ℕ) (x : X) → slice_get xs index ≡ Some x → All P xs → P x
of_slice P xs index x is all = subst P (get_or_from_slice_get xs index x x is) (all index x (slice_get_within xs index x is))
