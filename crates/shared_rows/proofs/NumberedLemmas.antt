-- Links that are ordered by a number of each: which one has a number.
use Rattle.std.proofs.Common.{◌≡◌, ◌≢◌, ◌∙◌, ℕ, zero, suc, ◌<◌, ◌≤◌, ◌==◌, Bool, true, false, not, cond, List, [], ◌∷◌, Option, Some, None, filter, find}
use Rattle.std.proofs.Common.{get_or, slice_get, length, nat_lt, Ok, Err, refl, sym, ap, arith, ⊎_elim}
use Rattle.std.specs.Cmp.{IsTotalOrder, nat_cmp_is}
use Rattle.std.specs.List.Sorted.{IsPartitionPoint, IsPartitionedBy}
use Rattle.std.specs.Option.{option_map_or, option_or}
use Rattle.std.specs.Ordering.{is_eq, is_lt, nat_cmp, on}
use Rattle.std.specs.declared.cmp.Ordering.TheVariants.{Less, Equal, Greater}
use Rattle.std.proofs.lemmas.Bool.{cases_lt, cases_order, eq-eqb, eqb-true, ne_eqb}
use Rattle.std.proofs.lemmas.Bool.Decides.{nat_tests}
use Rattle.std.proofs.lemmas.Cmp.{nat_cmp_total, on_total, ranked}
use Rattle.std.proofs.lemmas.List.Folds.{find-append}
use Rattle.shared_rows.specs.Links.{IsInOrder, IsSeat, first_from, with_link, without_link}
use Rattle.shared_rows.proofs.LinkLemmas.{below_parted, first_at, seat_parted}

module _ {K : Type 0} (number : K → ℕ) where
  -- the link of a number
  abbrev pub numbered : ℕ → List K → Option K
  numbered n links = find (λ link. number link == n) links

  pub number_total : IsTotalOrder (on number nat_cmp)
  number_total = on_total number nat_cmp_total

  -- a filter that decides by the number keeps the link of a number, or drops it
  numbered_filtered : (n : ℕ) (kept : K → Bool) (b : Bool) → ((link : K) → number link ≡ n → kept link ≡ b) → (links : List K)
      → numbered n (filter kept links) ≡ cond b (numbered n links) None
  numbered_filtered n kept true same [] = refl
  numbered_filtered n kept false same [] = refl
  numbered_filtered n kept b same (link ∷ links) = by (number link == n) (kept link) refl refl (numbered_filtered n kept b same links)
    where
      by : (here stays : Bool) → (number link == n) ≡ here → kept link ≡ stays → numbered n (filter kept links) ≡ cond b (numbered n links) None
          → numbered n (filter kept (link ∷ links)) ≡ cond b (numbered n (link ∷ links)) None
      by true true e f rest = let is : b ≡ true = sym (same link (eqb-true (number link) n e)) ∙ f in rw f (rw e (rw is refl))
      by true false e f rest = let is : b ≡ false = sym (same link (eqb-true (number link) n e)) ∙ f in rw f (rest ∙ rw is refl)
      by false true e f rest = rw f (rw e rest)
      by false false e f rest = rw f (rw e rest)

  or_none : (found : Option K) → option_or found None ≡ found
  or_none None = refl
  or_none (Some link) = refl

  chosen : (n m : ℕ) (link : K) (found : Option K)
      → option_or (cond (is_lt (nat_cmp n m)) found None) (cond (m == n) (Some link) (cond (is_lt (nat_cmp m n)) found None))
      ≡ cond (m == n) (Some link) found
  chosen n m link found = ⊎_elim
      (λ (same : n ≡ m). rw (sym (nat_cmp_is n m Equal same), eq-eqb m n (sym same)) refl)
      (λ differ. ⊎_elim
      (λ (low : n < m). rw (sym (nat_cmp_is n m Less low), sym (nat_cmp_is m n Greater low), ne_eqb m n (λ e. absurd (omega arith))) (or_none found))
      (λ (high : m < n). rw (sym (nat_cmp_is n m Greater high), sym (nat_cmp_is m n Less high), ne_eqb m n (λ e. absurd (omega arith))) refl)
      differ)
      (cases_order n m)

  unless_same : (n m : ℕ) (found : Option K) → cond (not (is_eq (nat_cmp n m))) found None ≡ cond (m == n) None found
  unless_same n m found = grind (arith, nat_tests)

  -- with a link in its place, and without it
  numbered_with : (links : List K) (link : K) (n : ℕ)
      → numbered n (with_link (on number nat_cmp) links link) ≡ cond (number link == n) (Some link) (numbered n links)
  numbered_with links link n =
      find-append (λ other. number other == n) (filter (λ other. is_lt (nat_cmp (number other) (number link))) links) _
      ∙ ((λ i. option_or (numbered_filtered n _ (is_lt (nat_cmp n (number link))) (λ other e. ap (λ m. is_lt (nat_cmp m (number link))) e) links i)
      (cond (number link == n) (Some link)
      (numbered_filtered n _ (is_lt (nat_cmp (number link) n)) (λ other e. ap (λ m. is_lt (nat_cmp (number link) m)) e) links i)))
      ∙ chosen n (number link) link (numbered n links))

  numbered_without : (links : List K) (link : K) (n : ℕ)
      → numbered n (without_link (on number nat_cmp) links link) ≡ cond (number link == n) None (numbered n links)
  numbered_without links link n =
      numbered_filtered n _ (not (is_eq (nat_cmp n (number link)))) (λ other e. ap (λ m. not (is_eq (nat_cmp m (number link)))) e) links
      ∙ unless_same n (number link) (numbered n links)

  -- the value of the link of a number
  module _ {V : Type 0} (value : K → V) (none : V) where
    abbrev pub value_of : ℕ → List K → V
    value_of n links = option_map_or value (numbered n links) none

    valued : (b : Bool) (first second : Option K)
        → option_map_or value (cond b first second) none ≡ cond b (option_map_or value first none) (option_map_or value second none)
    valued true first second = refl
    valued false first second = refl

    pub value_with : (links after : List K) (link : K) → after ≡ with_link (on number nat_cmp) links link → (n : ℕ)
        → value_of n after ≡ cond (number link == n) (value link) (value_of n links)
    value_with links after link e n = ap (value_of n) e
        ∙ (ap (λ found. option_map_or value found none) (numbered_with links link n) ∙ valued (number link == n) (Some link) (numbered n links))

    pub value_without : (links after : List K) (link : K) → after ≡ without_link (on number nat_cmp) links link → (n : ℕ)
        → value_of n after ≡ cond (number link == n) none (value_of n links)
    value_without links after link e n = ap (value_of n) e
        ∙ (ap (λ found. option_map_or value found none) (numbered_without links link n) ∙ valued (number link == n) None (numbered n links))

  -- where no link has the number there is none
  pub numbered_none : (links : List K) (n : ℕ) → ((k : ℕ) (d : K) → k < length links → number (get_or links k d) ≢ n) → numbered n links ≡ None
  numbered_none [] n differ = refl
  numbered_none (link ∷ links) n differ =
      rw (ne_eqb (number link) n (differ 0 link (omega arith))) (numbered_none links n (λ k d within. differ (suc k) d (omega arith)))

  -- numbers rise with the positions
  pub rises : (links : List K) → IsInOrder (on number nat_cmp) links → (i j : ℕ) (d : K) → i < j → j < length links
      → number (get_or links i d) < number (get_or links j d)
  rises links order i j d before within = ranked _ _ Less (sym (order i j d before within))

  -- the link at a position is that of its number, if those before it have other numbers
  pub numbered_at : (links : List K) (at n : ℕ) (d : K) → at < length links → ((k : ℕ) → k < at → number (get_or links k d) ≢ n)
      → number (get_or links at d) ≡ n → numbered n links ≡ Some (get_or links at d)
  numbered_at [] at n d within differ same = absurd (omega arith)
  numbered_at (link ∷ links) zero n d within differ same = rw (eq-eqb (number link) n same) refl
  numbered_at (link ∷ links) (suc at) n d within differ same =
      rw (ne_eqb (number link) n (differ 0 (omega arith))) (numbered_at links at n d (omega arith) (λ k before. differ (suc k) (omega arith)) same)

  is_lt_number : (a b : ℕ) → is_lt (nat_cmp a b) ≡ nat_lt a b
  is_lt_number a b = grind (arith, nat_tests)

  module _ (links : List K) (order : IsInOrder (on number nat_cmp) links) (probe : K) where
    -- links of lower numbers stand before the others
    pub lower_parted : IsPartitionedBy (λ link. nat_lt (number link) (number probe)) links
    lower_parted i j d upto within low = sym (is_lt_number _ (number probe))
        ∙ below_parted number_total links order probe i j d upto within (is_lt_number (number (get_or links j d)) (number probe) ∙ low)

    module _ (at : ℕ) (point : IsPartitionPoint (λ link. nat_lt (number link) (number probe) ≡ true)
        (λ link. nat_lt (number link) (number probe) ≡ false) links at) where
      below_point : IsPartitionPoint (λ other. is_lt (on number nat_cmp other probe) ≡ true) (λ other. is_lt (on number nat_cmp other probe) ≡ false) links at
      below_point = (
        λ k d from upto. is_lt_number (number (get_or links k d)) (number probe) ∙ point.0 k d from upto,
        λ k d from upto. is_lt_number (number (get_or links k d)) (number probe) ∙ point.1 k d from upto,
      )

      -- the first link whose number is not lower stands where those end
      pub first_numbered : slice_get links at ≡ first_from (on number nat_cmp) links probe
      first_numbered = first_at number_total links order probe at below_point

      -- and a link of the probe's number would stand there, if none does
      pub seat_numbered : at ≤ length links → ((d : K) → at < length links → number (get_or links at d) ≢ number probe)
          → IsSeat (on number nat_cmp) links probe (Err at)
      seat_numbered within differs = seat_parted number_total links order probe at within below_point
          (λ d there. let other = differs d there in grind (arith, nat_tests))

  -- what a search finds: the link of the probe's number, or that there is none
  pub seat_there : (links : List K) (probe : K) (at : ℕ) (d : K) → IsSeat (on number nat_cmp) links probe (Ok at)
      → numbered (number probe) links ≡ Some (get_or links at d)
  seat_there links probe at d seat = numbered_at links at (number probe) d seat.0
      (λ k before same. let low : number (get_or links k d) < number probe = ranked _ _ Less (sym (seat.2.below k d (omega arith) before)) in omega arith)
      (ranked (number (get_or links at d)) (number probe) Equal (sym (seat.1 d)))

  pub seat_vacant : (links : List K) (probe : K) (at : ℕ) → IsSeat (on number nat_cmp) links probe (Err at) → numbered (number probe) links ≡ None
  seat_vacant links probe at seat = numbered_none links (number probe) (λ k d within same. ⊎_elim
      (λ low. omega (arith, ranked (number (get_or links k d)) (number probe) Less (sym (seat.1.below k d (omega arith) low))))
      (λ high. omega (arith, ranked (number probe) (number (get_or links k d)) Less (sym (seat.1.above k d high within))))
      (cases_lt k at))
