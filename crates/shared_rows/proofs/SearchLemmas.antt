-- A search by halves.
use Rattle.std.proofs.Common.{◌≡◌, ◌⊎◌, ⊎_elim, ℕ, ◌+◌, ◌<◌, ◌≤◌, Bool, true, false, List, [], ◌∷◌, length, get_or, refl, arith, rules}
use Rattle.std.proofs.lemmas.Grind.{common_steps}
use Rattle.std.proofs.lemmas.Bool.Decides.{nat_tests}
use Rattle.std.specs.Fn.{AlwaysReturns, Called}
use Rattle.std.specs.List.{AllWithin, HoldsAt}
use Rattle.std.specs.List.Sorted.{IsPartitionPoint, IsPartitionedBy}
use denote.Param.Members.{Mut}

module _ {T : Type 0} (p : T → Bool) (xs : List T) where
  -- the element at the base passes, or the base is the front, and from the end of what is left on all fail
  pub record Halved (base size : ℕ) : Type 0 where
    pub low : (base ≡ 0) ⊎ HoldsAt (λ y. p y ≡ true) xs base
    pub high : IsPartitionedBy p xs → AllWithin (λ y. p y ≡ false) xs (base + size) (length xs)

  not_true : (b : Bool) → (b ≡ true → b ≡ false) → b ≡ false
  not_true true h = h refl
  not_true false h = refl

  from_failing : (at low : ℕ) → at ≤ low → HoldsAt (λ y. p y ≡ false) xs at → IsPartitionedBy p xs → AllWithin (λ y. p y ≡ false) xs low (length xs)
  from_failing at low h q first k d a b =
      not_true (p (get_or xs k d)) (λ passes. let here : p (get_or xs at d) ≡ true = first at k d (omega arith) b passes in
      let there : p (get_or xs at d) ≡ false = q d in absurd (cc))

  pub failed : (base size middle left : ℕ) → middle ≤ base + left → Halved base size → HoldsAt (λ y. p y ≡ false) xs middle → Halved base left
  failed base size middle left h n q = search (rules, from_failing)

  pub passed : (base size middle left : ℕ) → base + size ≤ middle + left → Halved base size → HoldsAt (λ y. p y ≡ true) xs middle → Halved middle left
  passed base size middle left h n q = grind (arith, common_steps)

  pub after_passing : (base size : ℕ) → size ≤ 1 → base < length xs → Halved base size → HoldsAt (λ y. p y ≡ true) xs base → IsPartitionedBy p xs
      → IsPartitionPoint (λ y. p y ≡ true) (λ y. p y ≡ false) xs (base + 1)
  after_passing base size one within n q first = grind (arith, nat_tests, n.high first)

  pub at_failing : (base size : ℕ) → Halved base size → HoldsAt (λ y. p y ≡ false) xs base → IsPartitionedBy p xs
      → IsPartitionPoint (λ y. p y ≡ true) (λ y. p y ≡ false) xs base
  at_failing base size n q first = (
    λ k d a b. ⊎_elim (λ front. absurd (omega arith))
        (λ passes. let here : p (get_or xs base d) ≡ true = passes d in let there : p (get_or xs base d) ≡ false = q d in
        absurd (cc)) n.low,
    from_failing base base (omega arith) q first,
  )

-- one more call
pub answers_next : {F X R : Type 0} (g : Mut F X R) (P : X → R → Type 0) (f : F) (a : X) (r : R) (f' : F) → Called g f a r f' → AlwaysReturns g P f
    → P a r × AlwaysReturns g P f'
answers_next g P f a r f' c h = ((h.at (a ∷ []) r f' c).0, record { at = λ xs. (h.at (a ∷ xs) r f' c).1 })

-- what was read holds there
pub at_read : {T : Type 0} (xs : List T) (P : T → Type 0) (at : ℕ) (x : T) → at < length xs → x ≡ get_or xs at x → P x → HoldsAt P xs at
at_read xs P at x within read holds d = grind (arith, common_steps)
