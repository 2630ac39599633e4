-- Lists: the first index that passes, and lists with no element twice.
use Rattle.std.proofs.Common.{◌≡◌, ◌≢◌, inl, inr, ℕ, suc, zero, ◌+◌, ◌-◌, ◌<◌, ◌≤◌, ◌==◌, ◌||◌, Bool, true, false, not, cond, List, [], ◌∷◌, ◌++◌, length, map}
use Rattle.std.proofs.Common.{position, slice_get, Option, Some, None, get_or, refl, sym, ap, ◌∙◌, arith, add-zero, nat_lt, take}
use Rattle.std.specs.Option.{option_or, option_map, option_map_or}
use Rattle.std.specs.List.{list_any, position_from, prefix_len}
use Rattle.std.proofs.lemmas.Bool.Decides.{eqb_tells}
use Rattle.std.proofs.lemmas.Iterator.Adapters.{position_from-zero}
use Rattle.std.proofs.lemmas.List.{length-map, map-append, take_all, take_more}
use Rattle.std.proofs.lemmas.List.Quantifiers.{position-Some}
use Rattle.std.proofs.lemmas.Option.{get_or_from_slice_get, slice_get-map, slice_get_within}

pub eq_self : (n : ℕ) → (n == n) ≡ true
eq_self n = elim (eqb_tells n n) [ inl p ↦ p.0 | inr p ↦ absurd (p.1 refl) ]

pub eq_other : (m n : ℕ) → m ≢ n → (m == n) ≡ false
eq_other m n h = elim (eqb_tells m n) [ inl p ↦ absurd (h p.1) | inr p ↦ p.0 ]

-- the first index that passes, where indexes are counted from `at`
from_append : {X : Type 0} (p : X → Bool) (at : ℕ) (xs ys : List X)
    → position_from p at (xs ++ ys) ≡ option_or (position_from p at xs) (position_from p (at + length xs) ys)
from_append p at [] ys = λ i. position_from p (sym (add-zero at) i) ys
from_append p at (x ∷ xs) ys = by (p x) (from_append p (at + 1) xs ys)
  where
    moved : (at + 1) + length xs ≡ at + length (x ∷ xs)
    moved = omega arith

    by : (b : Bool) → position_from p (at + 1) (xs ++ ys) ≡ option_or (position_from p (at + 1) xs) (position_from p ((at + 1) + length xs) ys)
        → cond b (Some at) (position_from p (at + 1) (xs ++ ys))
        ≡ option_or (cond b (Some at) (position_from p (at + 1) xs)) (position_from p (at + length (x ∷ xs)) ys)
    by true rest = refl
    by false rest = rest ∙ λ i. option_or (position_from p (at + 1) xs) (position_from p (moved i) ys)

from_shifted : {X : Type 0} (p : X → Bool) (at more : ℕ) (xs : List X) → position_from p (more + at) xs ≡ option_map (λ i. more + i) (position_from p at xs)
from_shifted p at more [] = refl
from_shifted p at more (x ∷ xs) = by (p x) (from_shifted p (at + 1) more xs)
  where
    moved : (more + at) + 1 ≡ more + (at + 1)
    moved = omega arith

    by : (b : Bool) → position_from p (more + (at + 1)) xs ≡ option_map (λ i. more + i) (position_from p (at + 1) xs)
        → cond b (Some (more + at)) (position_from p ((more + at) + 1) xs) ≡ option_map (λ i. more + i) (cond b (Some at) (position_from p (at + 1) xs))
    by true rest = refl
    by false rest = (λ i. position_from p (moved i) xs) ∙ rest

-- the first index that passes in two lists, one behind the other
pub position-append : {X : Type 0} (p : X → Bool) (xs ys : List X)
    → position p (xs ++ ys) ≡ option_or (position p xs) (option_map (λ i. length xs + i) (position p ys))
position-append p xs ys =
    let apart : position_from p 0 (xs ++ ys) ≡ option_or (position_from p 0 xs) (position_from p (0 + length xs) ys) = from_append p 0 xs ys in
    let moved : 0 + length xs ≡ length xs + 0 = omega arith in
    let behind : position_from p (0 + length xs) ys ≡ option_map (λ i. length xs + i) (position_from p 0 ys) = (λ i. position_from p (moved i) ys)
    ∙ from_shifted p 0 (length xs) ys in
    position_from-zero p (xs ++ ys) ∙ (apart
    ∙ (λ i. option_or (sym (position_from-zero p xs) i) ((behind ∙ (λ j. option_map (λ k. length xs + k) (sym (position_from-zero p ys) j))) i)))

-- a index that holds nothing is past the end
pub past_end : {X : Type 0} (xs : List X) (i : ℕ) → slice_get xs i ≡ None → length xs ≤ i
past_end [] i e = omega arith
past_end (x ∷ xs) zero e = absurd (cc)
past_end (x ∷ xs) (suc i) e = omega (arith, past_end xs i e)

prefix_len-map : {X Y : Type 0} (p : Y → Bool) (f : X → Y) (xs : List X) → prefix_len p (map f xs) ≡ prefix_len (λ x. p (f x)) xs
prefix_len-map p f [] = refl
prefix_len-map p f (x ∷ xs) = λ i. cond (p (f x)) (1 + prefix_len-map p f xs i) 0

-- the first index that passes, seen through a map
pub position-map : {X Y : Type 0} (p : Y → Bool) (f : X → Y) (xs : List X) → position p (map f xs) ≡ position (λ x. p (f x)) xs
position-map p f xs = λ i. cond (nat_lt (prefix_len-map (λ y. not (p y)) f xs i) (length-map xs f i)) (Some (prefix_len-map (λ y. not (p y)) f xs i)) None

pub list_any-map : {X Y : Type 0} (p : Y → Bool) (f : X → Y) (xs : List X) → list_any p (map f xs) ≡ list_any (λ x. p (f x)) xs
list_any-map p f [] = refl
list_any-map p f (x ∷ xs) = ap (λ rest. p (f x) || rest) (list_any-map p f xs)

-- the value of an entry
pub entry_value : {K V : Type 0} (entries : List (K × V)) (i : ℕ) (k : K) (v : V) → Some (k, v) ≡ slice_get entries i
    → slice_get (map (λ e. e.1) entries) i ≡ Some v
entry_value entries i k v e = slice_get-map (λ e. e.1) entries i ∙ ap (option_map (λ e. e.1)) (sym e)

pub entry_none : {K V : Type 0} (entries : List (K × V)) (i : ℕ) → None ≡ slice_get entries i → length (map (λ e. e.1) entries) ≤ i
entry_none entries i e = past_end (map (λ e. e.1) entries) i (slice_get-map (λ e. e.1) entries i ∙ ap (option_map (λ e. e.1)) (sym e))

option_or-assoc : {A : Type 0} (a b c : Option A) → option_or (option_or a b) c ≡ option_or a (option_or b c)
option_or-assoc None b c = refl
option_or-assoc (Some a) b c = refl

-- the first index that passes in two lists, or else another
pub position-seam : {X : Type 0} (p : X → Bool) (xs ys : List X) (other : Option ℕ)
    → option_or (position p (xs ++ ys)) other ≡ option_or (position p xs) (option_or (option_map (λ i. length xs + i) (position p ys)) other)
position-seam p xs ys other = (λ i. option_or (position-append p xs ys i) other)
    ∙ option_or-assoc (position p xs) (option_map (λ i. length xs + i) (position p ys)) other

-- an element of two lists, one behind the other
pub slice_get-front : {X : Type 0} (xs ys : List X) (k : ℕ) → k < length xs → slice_get (xs ++ ys) k ≡ slice_get xs k
slice_get-front [] ys k h = absurd (omega arith)
slice_get-front (x ∷ xs) ys zero h = refl
slice_get-front (x ∷ xs) ys (suc k) h = slice_get-front xs ys k (omega arith)

pub slice_get-behind : {X : Type 0} (xs ys : List X) (k : ℕ) → slice_get (xs ++ ys) (length xs + k) ≡ slice_get ys k
slice_get-behind [] ys k = let e : 0 + k ≡ k = omega arith in rw e
slice_get-behind (x ∷ xs) ys k = let e : length (x ∷ xs) + k ≡ suc (length xs + k) = omega arith in rw e (slice_get-behind xs ys k)

-- an element of the list that stands behind, by its number in both together
pub slice_get-own : {X : Type 0} (before own all : List X) (offset number : ℕ) → all ≡ before ++ own → offset ≡ length before → offset ≤ number
    → slice_get own (number - offset) ≡ slice_get all number
slice_get-own before own all offset number whole at past =
    let split : length before + (number - offset) ≡ number = omega (arith, at, past) in
    sym (slice_get-behind before own (number - offset)) ∙ (ap (λ n. slice_get (before ++ own) n) split ∙ ap (λ l. slice_get l number) (sym whole))

pub taken : {X : Type 0} (xs : List X) (i : ℕ) (x : X) → Some x ≡ slice_get xs i → take (i + 1) xs ≡ take i xs ++ x ∷ []
taken xs i x e = take_more xs i x (slice_get_within xs i x (sym e)) ∙ ap (λ y. take i xs ++ y ∷ []) (get_or_from_slice_get xs i x x (sym e))

-- one more element of a list, seen so
pub map-taken : {X Y : Type 0} (f : X → Y) (xs : List X) (i : ℕ) (x : X) → Some x ≡ slice_get xs i → map f (take (i + 1) xs) ≡ map f (take i xs) ++ f x ∷ []
map-taken f xs i x e = ap (map f) (taken xs i x e) ∙ map-append f (take i xs) (x ∷ [])

pub taken-whole : {X : Type 0} (xs : List X) (i : ℕ) → length xs ≤ i → take i xs ≡ xs
taken-whole xs i h = take_all i xs h

-- what stands at the first index that passes does pass
pub position_passes : {X : Type 0} (p : X → Bool) (xs : List X) (i : ℕ) → position p xs ≡ Some i → option_map_or p (slice_get xs i) false ≡ true
position_passes p [] i e = absurd (cc)
position_passes {X = X} p (x ∷ xs) i e = by (slice_get (x ∷ xs) i) refl
  where
    passed : (i < length (x ∷ xs)) × (p (get_or (x ∷ xs) i x) ≡ true) × ((k : ℕ) → k < i → p (get_or (x ∷ xs) k x) ≡ false)
    passed = position-Some p (x ∷ xs) i x e

    by : (o : Option X) → slice_get (x ∷ xs) i ≡ o → option_map_or p o false ≡ true
    by None h = absurd (omega (arith, past_end (x ∷ xs) i h, passed.0))
    by (Some y) h = ap p (sym (get_or_from_slice_get (x ∷ xs) i y x h)) ∙ passed.1
