-- Lists, searched and changed.
use Rattle.std.proofs.Common.{◌≡◌, ◌∙◌, ℕ, zero, suc, ◌+◌, ◌<◌, nat_lt, not, Bool, true, false, List, [], ◌∷◌, Option, Some, None, filter, find, map, length}
use Rattle.std.proofs.Common.{get_or, refl, sym, ap, arith, ⊎_elim, rules}
use Rattle.std.proofs.lemmas.Grind.{common_steps}
use Rattle.std.specs.List.{All, AllPairs, position, position_or_len, remove, slice_get}
use Rattle.std.specs.Option.{option_map}
use Rattle.std.proofs.lemmas.Bool.{cases_Bool, lt-ltb, ltb-true}
use Rattle.std.proofs.lemmas.List.Folds.{find_at}
use Rattle.std.proofs.lemmas.Option.{slice_get-get_or, slice_get_past}

module _ {X Y : Type 0} where
  -- functions that agree at each element
  pub map_at : (f g : X → Y) (xs : List X) → All (λ x. f x ≡ g x) xs → map f xs ≡ map g xs
  map_at f g [] same = refl
  map_at f g (x ∷ xs) same = search (rules, f x, g x, same 0 x (omega arith), map_at f g xs (λ k d within. same (suc k) d (omega arith)))

  -- a filter, and a search, of what a function makes of the elements
  pub filter_over_map : (f : X → Y) (p : Y → Bool) (xs : List X) → filter p (map f xs) ≡ map f (filter (λ x. p (f x)) xs)
  filter_over_map f p [] = refl
  filter_over_map f p (x ∷ xs) = search (rules, p (f x), f x, filter_over_map f p xs)

  pub find_over_map : (f : X → Y) (p : Y → Bool) (xs : List X) → find p (map f xs) ≡ option_map f (find (λ x. p (f x)) xs)
  find_over_map f p [] = refl
  find_over_map f p (x ∷ xs) = search (rules, p (f x), f x, find_over_map f p xs)

pub map_over_map : {X Y Z : Type 0} (g : Y → Z) (f : X → Y) (xs : List X) → map g (map f xs) ≡ map (λ x. g (f x)) xs
map_over_map g f [] = refl
map_over_map g f (x ∷ xs) = ap (λ ys. g (f x) ∷ ys) (map_over_map g f xs)

module _ {X : Type 0} where
  pub map_same : (f : X → X) (xs : List X) → All (λ x. f x ≡ x) xs → map f xs ≡ xs
  map_same f [] same = refl
  map_same f (x ∷ xs) same = search (rules, f x, same 0 x (omega arith), map_same f xs (λ k d within. same (suc k) d (omega arith)))

  -- tests that agree at each element
  pub filter_at : (p q : X → Bool) (xs : List X) → All (λ x. p x ≡ q x) xs → filter p xs ≡ filter q xs
  filter_at p q [] same = refl
  filter_at p q (x ∷ xs) same = search (rules, p x, q x, same 0 x (omega arith), filter_at p q xs (λ k d within. same (suc k) d (omega arith)))

  -- each element passes
  pub filter_all : (p : X → Bool) (xs : List X) → All (λ x. p x ≡ true) xs → filter p xs ≡ xs
  filter_all p [] all = refl
  filter_all p (x ∷ xs) all = search (rules, p x, all 0 x (omega arith), filter_all p xs (λ k d within. all (suc k) d (omega arith)))

  -- nothing is found where no element passes, and the other way round
  pub none_passes : (p : X → Bool) (xs : List X) → find p xs ≡ None → All (λ x. p x ≡ false) xs
  none_passes p [] none k d within = absurd (omega arith)
  none_passes p (x ∷ xs) none zero d within = search (rules, p x)
  none_passes p (x ∷ xs) none (suc k) d within = search (rules, p x, none_passes p xs)

  -- what a search finds stands somewhere
  pub record IsFound (p : X → Bool) (xs : List X) (x : X) : Type 0 where
    pub at : ℕ
    pub within : at < length xs
    pub is : (d : X) → get_or xs at d ≡ x
    pub passes : p x ≡ true

  pub found : (p : X → Bool) (xs : List X) (x : X) → find p xs ≡ Some x → IsFound p xs x
  found p [] x e = absurd (cc)
  found p (first ∷ xs) x e = ⊎_elim
      (λ (here : p first ≡ true).
      let same : Some first ≡ Some x = rw here at e in
      let is : first ≡ x = cc in
      record { at = 0; within = omega arith; is = λ d. is; passes = ap p (sym is) ∙ here })
      (λ (other : p first ≡ false).
      let later : find p xs ≡ Some x = rw other at e in
      let rest = found p xs x later in
      record { at = suc rest.at; within = omega (arith, rest.within); is = λ d. rest.is d; passes = rest.passes })
      (cases_Bool (p first))

-- what a function makes a value of was there
pub record IsMapped {X Y : Type 0} (f : X → Y) (o : Option X) (y : Y) : Type 0 where
  pub x : X
  pub is : o ≡ Some x
  pub gives : f x ≡ y

pub mapped : {X Y : Type 0} (f : X → Y) (o : Option X) (y : Y) → option_map f o ≡ Some y → IsMapped f o y
mapped f None y e = absurd (cc)
mapped f (Some x) y e = search (rules, f x)

pub unmapped : {X Y : Type 0} (f : X → Y) (o : Option X) → option_map f o ≡ None → o ≡ None
unmapped f None e = refl
unmapped f (Some x) e = absurd (cc)

-- what a look-up tells
pub looked_up : {X : Type 0} (xs : List X) (k : ℕ) (x : X) → true ≡ nat_lt k (length xs) → x ≡ get_or xs k x → slice_get xs k ≡ Some x
looked_up xs k x within is = search (rules, slice_get-get_or, ltb-true)

-- where a test passes first
module _ {X : Type 0} (p : X → Bool) (xs : List X) where
  pub position_some : (k : ℕ) → position p xs ≡ Some k → (position_or_len p xs ≡ k) × (k < length xs)
  position_some k e = grind (arith, common_steps)

  pub position_none : position p xs ≡ None → find p xs ≡ None
  position_none e = search (rules, lt-ltb, find_at, slice_get_past)

  pub found_at : (k : ℕ) (d : X) → position p xs ≡ Some k → find p xs ≡ Some (get_or xs k d)
  found_at k d e = search (rules, position_some, find_at, slice_get-get_or)

-- where one element at most passes, the others are left when it is taken out
pub filter_one : {X : Type 0} (p : X → Bool) (xs : List X) → AllPairs (λ x y. p x ≡ true → p y ≡ false) xs → (k : ℕ) → position_or_len p xs ≡ k → k < length xs
    → filter (λ x. not (p x)) xs ≡ remove xs k
filter_one p [] one k is within = absurd (omega (arith, within))
filter_one p (x ∷ xs) one zero is within = ⊎_elim
    (λ (here : p x ≡ true).
    rw here (filter_all (λ x. not (p x)) xs (λ k d inside. let other : p (get_or xs k d) ≡ false = one 0 (suc k) d (omega arith) (omega arith) here in rw other
    refl)))
    (λ (other : p x ≡ false). let never : 1 + position_or_len p xs ≡ 0 = rw other at is in absurd (omega (arith, never)))
    (cases_Bool (p x))
filter_one p (x ∷ xs) one (suc k) is within = search (rules, p x, filter_one p xs (λ i j d lt within. one (suc i) (suc j) d (omega arith) (omega arith)) k)
