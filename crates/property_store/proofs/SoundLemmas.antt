-- What each change leaves of a store: the numbers of its objects, the properties of each, and that it is
-- sound.
use Rattle.std.proofs.Common.{◌≡◌, ◌∙◌, ℕ, zero, suc, ◌<◌, ◌==◌, nat_lt, not, Bool, true, false, cond, List, [], ◌∷◌, ◌++◌, Option, Some, None, filter, find}
use Rattle.std.proofs.Common.{map, length, get_or, refl, ap, arith, rules}
use Rattle.std.proofs.lemmas.Grind.{common_steps}
use Rattle.std.specs.List.{All, AllByRecursion, AllPairs}
use Rattle.std.specs.Option.{option_map, option_or}
use Rattle.std.proofs.lemmas.Bool.{eqb-true}
use Rattle.std.proofs.lemmas.Bool.Decides.{nat_tests}
use Rattle.std.proofs.lemmas.List.{map_push}
use Rattle.std.proofs.lemmas.List.Elements.{All-append, All-cons, All-filter, All-map, All-weaker, filter_passes}
use Rattle.std.proofs.lemmas.List.Folds.{find-append}
use Rattle.std.proofs.lemmas.List.Kept.{AllPairs-cons, AllPairs-filter}
use Rattle.property_store.specs.declared.field.Field.{Field}
use Rattle.property_store.specs.Store.{AreSound, IsSound, Properties, Store, added, changed, fresh, properties_of, without}
use Rattle.property_store.proofs.KindLemmas.{fresh_sound}

-- do these properties belong to an object
abbrev is_of : ℕ → Properties → Bool
is_of object of = of.object == object

abbrev pub objects : Store → List ℕ
objects store = map (λ of. of.object) store

-- what is found where some are left out
find_kept : (test kept : Properties → Bool) → ((of : Properties) → test of ≡ true → kept of ≡ true) → (store : Store)
    → find test (filter kept store) ≡ find test store
find_kept test kept so [] = refl
find_kept test kept so (of ∷ rest) = search (rules, kept of, find_kept test kept so rest)

find_none : (test kept : Properties → Bool) → ((of : Properties) → kept of ≡ true → test of ≡ false) → (store : Store) → find test (filter kept store) ≡ None
find_none test kept so [] = refl
find_none test kept so (of ∷ rest) = search (rules, kept of, find_none test kept so rest)

or_nothing : {A : Type 0} (found : Option A) → option_or found None ≡ found
or_nothing None = refl
or_nothing (Some x) = refl

module _ (store : Store) (object : ℕ) (fields : List Field) where
  -- what is added is found
  pub added_found : properties_of (added store object fields) object ≡ Some (fresh object fields)
  added_found = search (rules, find-append, is_of, find_none)

  -- and all others as before
  pub added_others : (other : ℕ) → (object == other) ≡ false → properties_of (added store object fields) other ≡ properties_of store other
  added_others other apart =
      find-append (is_of other) (filter (λ of. nat_lt of.object object) store) (fresh object fields ∷ filter (λ of. nat_lt object of.object) store)
      ∙ (ap (λ same. option_or (find (is_of other) (filter (λ of. nat_lt of.object object) store))
      (cond same (Some (fresh object fields)) (find (is_of other) (filter (λ of. nat_lt object of.object) store)))) apart
      ∙ by (nat_lt other object) refl)
    where
      by : (less : Bool) → nat_lt other object ≡ less → option_or (find (is_of other) (filter (λ of. nat_lt of.object object) store))
          (find (is_of other) (filter (λ of. nat_lt object of.object) store)) ≡ properties_of store other
      by true less =
          ap (option_or (find (is_of other) (filter (λ of. nat_lt of.object object) store)))
          (find_none (is_of other) (λ of. nat_lt object of.object) (λ of more. grind (arith, nat_tests, less, more)) store)
          ∙ (or_nothing (find (is_of other) (filter (λ of. nat_lt of.object object) store))
          ∙ find_kept (is_of other) (λ of. nat_lt of.object object) (λ of same. grind (arith, nat_tests, less, same)) store)
      by false more =
          ap (λ found. option_or found (find (is_of other) (filter (λ of. nat_lt object of.object) store)))
          (find_none (is_of other) (λ of. nat_lt of.object object) (λ of less. grind (arith, nat_tests, less, more)) store)
          ∙ find_kept (is_of other) (λ of. nat_lt object of.object) (λ of same. grind (arith, nat_tests, apart, more, same)) store

-- the others are found as before where one is taken out
pub without_others : (store : Store) (object other : ℕ) → (other == object) ≡ false → properties_of (without object store) other ≡ properties_of store other
without_others store object other apart = search (rules, find_kept, is_of, eqb-true)

-- an object of a number that is above all others stands behind them
pub objects_added : (store : Store) (object : ℕ) (fields : List Field) → AllByRecursion (λ number. number < object) (objects store)
    → objects (added store object fields) ≡ objects store ++ object ∷ []
objects_added store object fields less = ap objects (λ i. all store less i ++ fresh object fields ∷ none store less i)
    ∙ map_push (λ (of : Properties). of.object) store (fresh object fields)
  where
    all : (store : Store) → AllByRecursion (λ number. number < object) (objects store) → filter (λ of. nat_lt of.object object) store ≡ store
    all [] less = refl
    all (of ∷ rest) less = let here : nat_lt of.object object ≡ true = grind (arith, nat_tests, less.0) in rw here (ap (λ rest. of ∷ rest) (all rest less.1))

    none : (store : Store) → AllByRecursion (λ number. number < object) (objects store) → filter (λ of. nat_lt object of.object) store ≡ []
    none [] less = refl
    none (of ∷ rest) less = let here : nat_lt object of.object ≡ false = grind (arith, nat_tests, less.0) in rw here (none rest less.1)

pub objects_without : (store : Store) (object : ℕ) → objects (without object store) ≡ filter (λ number. not (number == object)) (objects store)
objects_without [] object = refl
objects_without (of ∷ rest) object = search (rules, objects_without rest object)

-- a change that leaves an object its number
module _ (change : Properties → Properties) (object : ℕ) (same : (of : Properties) → (change of).object ≡ of.object) where
  abbrev one : Properties → Properties
  one of = cond (is_of object of) (change of) of

  same_one : (of : Properties) → (one of).object ≡ of.object
  same_one of = search (rules, is_of)

  pub objects_changed : (store : Store) → objects (changed change object store) ≡ objects store
  objects_changed [] = refl
  objects_changed (of ∷ rest) = (λ i. same_one of i ∷ objects_changed rest i)

  changed_found : (store : Store) (other : ℕ) → properties_of (changed change object store) other ≡ option_map one (properties_of store other)
  changed_found [] other = refl
  changed_found (of ∷ rest) other = search (rules, changed_found rest other, one, same_one)

  -- and its declared properties
  pub changed_fields : ((of : Properties) → (change of).fields ≡ of.fields) → (store : Store) (other : ℕ)
      → option_map (λ of. of.fields) (properties_of (changed change object store) other) ≡ option_map (λ of. of.fields) (properties_of store other)
  changed_fields fields store other = search (rules, changed_found)

-- pairs of what is listed, of what it is mapped to, and of two lists behind each other
module _ {X : Type 0} (R : X → X → Type 0) where
  pairs_head : (x : X) (xs : List X) → AllPairs R (x ∷ xs) → All (R x) xs
  pairs_head x xs pairs index default within = pairs 0 (suc index) default (omega arith) (omega arith)

  pairs_tail : (x : X) (xs : List X) → AllPairs R (x ∷ xs) → AllPairs R xs
  pairs_tail x xs pairs i j default lt within = pairs (suc i) (suc j) default (omega arith) (omega arith)

  pairs_append : (xs ys : List X) → AllPairs R xs → AllPairs R ys → All (λ x. All (R x) ys) xs → AllPairs R (xs ++ ys)
  pairs_append [] ys one other both = other
  pairs_append (x ∷ xs) ys one other both =
      AllPairs-cons R x (xs ++ ys) (All-append (R x) xs ys (pairs_head x xs one) (both 0 x (omega arith)))
      (pairs_append xs ys (pairs_tail x xs one) other (λ index default within. both (suc index) default (omega arith)))

  pairs_map : (f : X → X) → ((x y : X) → R x y → R (f x) (f y)) → (xs : List X) → AllPairs R xs → AllPairs R (map f xs)
  pairs_map f so [] pairs = λ i j default lt within. absurd (omega arith)
  pairs_map f so (x ∷ xs) pairs =
      AllPairs-cons R (f x) (map f xs) (All-map (R (f x)) f xs (All-weaker (R x) (λ y. R (f x) (f y)) (so x) xs (pairs_head x xs pairs)))
      (pairs_map f so xs (pairs_tail x xs pairs))

abbrev IsBefore : Properties → Properties → Type 0
IsBefore earlier later = earlier.object < later.object

pub sound_empty : IsSound []
sound_empty = grind (arith, common_steps)

pub sound_added : (store : Store) (object : ℕ) (fields : List Field) → IsSound store → IsSound (added store object fields)
sound_added store object fields sound = record {
  rising = pairs_append IsBefore low (fresh object fields ∷ high) (AllPairs-filter IsBefore (λ of. nat_lt of.object object) store sound.rising)
      (AllPairs-cons IsBefore (fresh object fields) high above (AllPairs-filter IsBefore (λ of. nat_lt object of.object) store sound.rising))
      (All-weaker (λ of. of.object < object) (λ of. All (IsBefore of) (fresh object fields ∷ high))
      (λ of less. All-cons (IsBefore of) (fresh object fields) high less
      (All-weaker (λ later. object < later.object) (IsBefore of) (λ later more. omega (arith, less, more)) high above)) low below);
  each = All-append AreSound low (fresh object fields ∷ high) (All-filter (λ of. nat_lt of.object object) AreSound store sound.each)
      (All-cons AreSound (fresh object fields) high (fresh_sound object fields) (All-filter (λ of. nat_lt object of.object) AreSound store sound.each));
}
  where
    low : Store
    low = filter (λ of. nat_lt of.object object) store

    high : Store
    high = filter (λ of. nat_lt object of.object) store

    below : All (λ of. of.object < object) low
    below = All-weaker (λ of. nat_lt of.object object ≡ true) (λ of. of.object < object) (λ of less. grind (arith, nat_tests, less)) low
        (filter_passes (λ of. nat_lt of.object object) store)

    above : All (λ of. object < of.object) high
    above = All-weaker (λ of. nat_lt object of.object ≡ true) (λ of. object < of.object) (λ of more. grind (arith, nat_tests, more)) high
        (filter_passes (λ of. nat_lt object of.object) store)

pub sound_without : (store : Store) (object : ℕ) → IsSound store → IsSound (without object store)
sound_without store object sound = search (rules, AllPairs-filter, is_of, All-filter)

-- an object stands once
found_once : (store : Store) (object index : ℕ) (default : Properties) → AllPairs IsBefore store → index < length store
    → is_of object (get_or store index default) ≡ true → properties_of store object ≡ Some (get_or store index default)
found_once [] object index default rising within is = absurd (omega arith)
found_once (of ∷ rest) object zero default rising within is = ap (λ same. cond same (Some of) (properties_of rest object)) is
found_once (of ∷ rest) object (suc index) default rising within is =
    grind (
      arith,
      nat_tests,
      of.object,
      pairs_head IsBefore of rest rising index default (omega arith),
      eqb-true (get_or rest index default).object object is,
      found_once rest object index default (pairs_tail IsBefore of rest rising) (omega arith) is,
      pairs_tail IsBefore of rest rising,
    )

pub sound_changed : (change : Properties → Properties) (object : ℕ) → ((of : Properties) → (change of).object ≡ of.object)
    → (store : Store) → ((of : Properties) → properties_of store object ≡ Some of → AreSound of → AreSound (change of)) → IsSound store
    → IsSound (changed change object store)
sound_changed change object same store keeps sound = record {
  rising = pairs_map IsBefore (one change object same)
      (λ earlier later before. omega (arith, before, same_one change object same earlier, same_one change object same later)) store sound.rising;
  each = All-map AreSound (one change object same) store (λ index default within.
      by (get_or store index default) (is_of object (get_or store index default)) (found_once store object index default sound.rising within) refl
      (sound.each index default within));
}
  where
    by : (of : Properties) (is : Bool) → (is_of object of ≡ true → properties_of store object ≡ Some of) → is_of object of ≡ is → AreSound of
        → AreSound (cond is (change of) of)
    by of true found is whole = keeps of (found is) whole
    by of false found is whole = whole
