-- Marks that are taken one by one, and kept.
use Rattle.std.proofs.Common.{◌≡◌, ◌∙◌, ◌+◌, ◌<◌, ◌||◌, ℕ, suc, Bool, true, false, cond, not, List, [], ◌∷◌, filter, length, refl, sym, ap, ⊎_elim, arith}
use Rattle.std.proofs.lemmas.Bool.{both_ways, cases_Bool, or_cases, or_left, or_right}
use Rattle.std.proofs.lemmas.List.Folds.{list_any-append}
use Rattle.property_store.specs.declared.property.Property.{Property}
use Rattle.property_store.specs.declared.written.Written.TheVariants as told
use Rattle.property_store.specs.Marks.{IsTaken, Marks, is_marked}
use Rattle.property_store.specs.Property.{among, is_property}
use Rattle.property_store.specs.Pending.{AreMore, both}
use Rattle.property_store.proofs.ChainLemmas.{same_property}

-- what one or the other marks

pub both_marked : (a b : Marks) (q : Property) → is_marked (both a b) q ≡ (is_marked a q || is_marked b q)
both_marked a b q = ap (λ here. (a.all || b.all) || here) (list_any-append (is_property q) a.each b.each)
    ∙ exchanged a.all b.all (among q a.each) (among q b.each)
  where
    exchanged : (s t x y : Bool) → ((s || t) || (x || y)) ≡ ((s || x) || (t || y))
    exchanged true t x y = refl
    exchanged false true true y = refl
    exchanged false true false y = refl
    exchanged false false x y = refl

-- how many marks are left
abbrev pub left : Marks → ℕ
left marks = cond marks.all 1 0 + length marks.each

-- without one that was there there are fewer

no_longer : (at : Property) (each : List Property) → length (filter (λ q. not (is_property at q)) each) < suc (length each)
no_longer at [] = omega arith
no_longer at (p ∷ each) = by (is_property at p) (no_longer at each)
  where
    rest : List Property
    rest = filter (λ q. not (is_property at q)) each

    by : (t : Bool) → length rest < suc (length each) → length (cond (not t) (p ∷ rest) rest) < suc (suc (length each))
    by true less = omega arith
    by false less = omega arith

fewer : (at : Property) (each : List Property) → among at each ≡ true → length (filter (λ q. not (is_property at q)) each) < length each
fewer at [] is = absurd (cc)
fewer at (p ∷ each) is = by (is_property at p) is (no_longer at each) (fewer at each)
  where
    rest : List Property
    rest = filter (λ q. not (is_property at q)) each

    by : (t : Bool) → (t || among at each) ≡ true → length rest < suc (length each) → (among at each ≡ true → length rest < length each)
        → length (cond (not t) (p ∷ rest) rest) < suc (length each)
    by true e less later = less
    by false e less later = let least : length rest < length each = later e in omega (arith, least)

pub fewer_left : (old new : Marks) (at : Property) → IsTaken old new (told.One at) → left new < left old
fewer_left old new at (none, here, rest) =
    let is : left new ≡ 0 + length (filter (λ q. not (is_property at q)) old.each) = ap left rest in
    let was : left old ≡ 0 + length old.each = ap (λ t. cond t 1 0 + length old.each) none in
    omega (arith, is, was, fewer at old.each here)

-- what was taken is marked with what was marked before, and the rest is left

other_stays : (at q : Property) → is_property at q ≡ false → (each : List Property) → among q each ≡ true
    → among q (filter (λ p. not (is_property at p)) each) ≡ true
other_stays at q apart [] is = is
other_stays at q apart (p ∷ each) is = by (is_property at p) refl (is_property q p) refl is (other_stays at q apart each)
  where
    rest : List Property
    rest = filter (λ p. not (is_property at p)) each

    by : (its : Bool) → is_property at p ≡ its → (here : Bool) → is_property q p ≡ here → (here || among q each) ≡ true
        → (among q each ≡ true → among q rest ≡ true) → among q (cond (not its) (p ∷ rest) rest) ≡ true
    by true e true f is later = absurd (both_ways (is_property at q) apart (ap (is_property at) (same_property q p f) ∙ e))
    by true e false f is later = later is
    by false e true f is later = or_left (is_property q p) _ f
    by false e false f is later = or_right (is_property q p) _ (later is)

pub one_taken : (old new before after : Marks) (at : Property) → IsTaken old new (told.One at) → AreMore before after → is_marked after at ≡ true
    → AreMore (both old before) (both new after)
one_taken old new before after at (none, here, rest) are_more marked q on =
    both_marked new after q ∙ ⊎_elim own (λ was. or_right (is_marked new q) _ (are_more q was))
    (or_cases (is_marked old q) (is_marked before q) (sym (both_marked old before q) ∙ on))
  where
    apart : is_marked old q ≡ true → is_property at q ≡ false → (is_marked new q || is_marked after q) ≡ true
    apart was e =
        let each : among q old.each ≡ true = sym (ap (λ t. t || among q old.each) none) ∙ was in
        or_left (is_marked new q) _ (ap (λ marks. is_marked marks q) rest ∙ other_stays at q e old.each each)

    own : is_marked old q ≡ true → (is_marked new q || is_marked after q) ≡ true
    own was = ⊎_elim (λ e. or_right (is_marked new q) _ (ap (is_marked after) (sym (same_property at q e)) ∙ marked))
        (apart was) (cases_Bool (is_property at q))
