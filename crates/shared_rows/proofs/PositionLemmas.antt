-- What a search by number finds.
use Rattle.std.proofs.Common.{◌≡◌, ◌∙◌, ◌⊎◌, ℕ, zero, suc, ◌+◌, ◌<◌, ◌≤◌, true, false, nat_lt, List, ◌∷◌, ◌++◌, filter, length, slice_index_or, take, drop, ◌-◌}
use Rattle.std.proofs.Common.{min, arith, sym, ap, subst, ⊎_elim}
use Rattle.std.specs.List.{AllPairs, AllWithin, insert}
use Rattle.std.specs.List.Sorted.{IsNonDecreasingBy, IsPartitionPoint, IsPartitionedBy}
use Rattle.std.proofs.lemmas.Bool.{cases_lt, le-ltb, lt-ltb, ltb-false, ltb-true}
use Rattle.std.proofs.lemmas.List.{get_or_default}
use Rattle.std.proofs.lemmas.List.Elements.{filter_passes}
use Rattle.std.proofs.lemmas.List.Kept.{AllPairs-filter}
use Rattle.std.proofs.lemmas.List.Sorted.{IsPartitionedBy-ltb}
use Rattle.shared_rows.specs.declared.index.Entry.{Entry}
use Rattle.shared_rows.specs.declared.index.Window.{Window}
use Rattle.shared_rows.specs.Index.{HasNot, IsCountBelow, IsRisingIndex, IsWindow}
use Rattle.shared_rows.proofs.LinkLemmas.{all_pairs_between, filter_back, filter_front}

pub least_below : (guess ahead count : ℕ) → guess ≡ min ahead (count - 1) → 0 < count → guess < count
least_below guess ahead count least some = grind (arith, least)

module _ {N : Type 0} (value : N → ℕ) (entries : List (Entry N)) (rising : IsRisingIndex value entries) (number : ℕ) where
  abbrev number_at : ℕ → Entry N → ℕ
  number_at k default = value (slice_index_or entries k default).number

  numbers_rise : IsNonDecreasingBy (λ entry. value entry.number) entries
  numbers_rise i j default upto in_range = grind (arith, rising i j default, λ (same : i ≡ j). ap (λ k. number_at k default) same)

  -- none has a number below the first one
  pub none_before : (first : Entry N) → first ≡ slice_index_or entries 0 first → number < value first.number → HasNot value entries number
  none_before first is low k d within same =
      let at_first : value first.number ≡ number_at 0 d = ap (λ (entry : Entry N). value entry.number) (is ∙ get_or_default entries 0 first d (omega arith)) in
      omega (arith, numbers_rise 0 k d (omega arith) within)

  -- two entries are no farther apart than their numbers
  spread : (j i : ℕ) (d : Entry N) → i ≤ j → j < length entries → number_at i d + (j - i) ≤ number_at j d
  spread zero i d le within = let same : i ≡ 0 = omega arith in omega (arith, ap (λ k. number_at k d) same)
  spread (suc j) i d le within = ⊎_elim
      (λ below. let step : number_at j d < number_at (suc j) d = rising j (suc j) d (omega arith) within in
      omega (arith, spread j i d (omega (arith, below)) (omega (arith, within))))
      (λ here. let same : i ≡ suc j = omega arith in omega (arith, ap (λ k. number_at k d) same))
      (cases_lt i (suc j))

  -- no two entries have one number
  pub only_one : (i j : ℕ) (d : Entry N) → i < length entries → j < length entries → number_at j d ≡ number_at i d → i ≡ j
  only_one i j d within_i within_j equal = ⊎_elim
      (λ below. absurd (omega (arith, rising i j d below within_j)))
      (λ above. ⊎_elim
      (λ less. absurd (omega (arith, rising j i d less within_i)))
      (λ least. omega arith)
      (cases_lt j i))
      (cases_lt i j)

  -- what a look at a position sees
  pub there_at : (at there : ℕ) (entry : Entry N) → entry ≡ slice_index_or entries at entry → at < length entries → there ≡ value entry.number → (d : Entry N)
      → number_at at d ≡ there
  there_at at there entry is within same d = sym (same ∙ ap (λ (e : Entry N). value e.number) (is ∙ get_or_default entries at entry d within))

  -- at first all positions are left
  pub all_left : (count guess : ℕ) → count ≡ length entries → guess < count → IsWindow value entries number (record { low = 0; high = count; guess = guess })
  all_left count guess all within = record {
    in_range = omega arith;
    guess = λ some. (omega arith, within);
    only = λ k d inside same. (omega arith, omega arith);
  }

  -- and where none is left there is no entry
  pub none_left : (window : Window) → IsWindow value entries number window → window.high ≤ window.low → HasNot value entries number
  none_left window left empty k d within same = let only = left.only k d within same in omega arith

  module _ (window : Window) (left : IsWindow value entries number window) (at there : ℕ) (low : window.low ≤ at) (high : at < window.high)
      (is : (d : Entry N) → number_at at d ≡ there) where
    -- an entry below leaves those behind it
    pub left_behind : (behind : ℕ) → there < number → behind ≡ min (number - there) (window.high - 1 - at)
        → IsWindow value entries number (record { low = at + 1; high = at + behind + 1; guess = at + behind })
    left_behind behind below least = record {
      in_range = omega (arith, most);
      guess = λ some. (omega arith, omega arith);
      only = λ k d within same.
          let only = left.only k d within same in
          ⊎_elim
          (λ later. (
            omega arith,
            ⊎_elim
                (λ near. near)
                (λ far. absurd (omega (arith, is d, spread k at d (omega (arith, later)) within, which)))
                (cases_lt k (at + behind + 1)),
          ))
          (λ upto. absurd (omega (arith, is d, numbers_rise k at d upto (omega (arith, high, left.in_range)))))
          (cases_lt at k);
    }
      where
        most : behind ≤ window.high - 1 - at
        most = grind (arith, least)

        which : (behind ≡ number - there) ⊎ (behind ≡ window.high - 1 - at)
        which = grind (arith, least)

    -- and one above those before it
    pub left_before : (before : ℕ) → number < there → before ≡ min (there - number) (at - window.low)
        → IsWindow value entries number (record { low = at - before; high = at; guess = at - before })
    left_before before above least = record {
      in_range = omega arith;
      guess = λ some. (omega arith, some);
      only = λ k d within same.
          let only = left.only k d within same in
          ⊎_elim
          (λ earlier. (
            ⊎_elim
                (λ far. absurd (omega (arith, is d, spread at k d (omega (arith, earlier)) (omega (arith, high, left.in_range)), which)))
                (λ near. near)
                (cases_lt k (at - before)),
            earlier,
          ))
          (λ from. absurd (omega (arith, is d, numbers_rise at k d from within)))
          (cases_lt k at);
    }
      where
        which : (before ≡ there - number) ⊎ (before ≡ at - window.low)
        which = grind (arith, least)

  -- what a split by a number counts
  pub parted : IsPartitionedBy (λ entry. nat_lt (value entry.number) number) entries
  parted = IsPartitionedBy-ltb (λ entry. value entry.number) entries number numbers_rise

  pub counted : (count : ℕ) → count ≤ length entries → IsPartitionPoint (λ entry. nat_lt (value entry.number) number ≡ true)
      (λ entry. nat_lt (value entry.number) number ≡ false) entries count → IsCountBelow value entries number count
  counted count in_range point = record {
    in_range = in_range;
    below = λ k default low high. ltb-true (number_at k default) number (point.0 k default low high);
    above = λ k default low high. ltb-false (number_at k default) number (point.1 k default low high);
  }

  -- all are, where the last one is
  pub counted_all : (count : ℕ) (last : Entry N) → count ≡ length entries → 0 < count → last ≡ slice_index_or entries (count - 1) last
      → value last.number < number → IsCountBelow value entries number count
  counted_all count last all some is low = record {
    in_range = omega arith;
    below = λ k default from upto.
        let at_last : number_at (count - 1) default < number =
        subst (λ (entry : Entry N). value entry.number < number) (is ∙ get_or_default entries (count - 1) last default (omega arith)) low in
        let rise : number_at k default ≤ number_at (count - 1) default = numbers_rise k (count - 1) default (omega arith) (omega arith) in
        omega arith;
    above = λ k default from upto. absurd (omega arith);
  }

  module _ (at : ℕ) (count : IsCountBelow value entries number at) (absent : HasNot value entries number) where
    pub strictly_above : AllWithin (λ entry. number < value entry.number) entries at (length entries)
    strictly_above k default low high = ⊎_elim
        (λ above. above)
        (λ below. absurd (absent k default high (omega (arith, count.above k default low high))))
        (cases_lt number (number_at k default))

    -- the entries below and above the number
    pub front_is : filter (λ entry. nat_lt (value entry.number) number) entries ≡ take at entries
    front_is = filter_front (λ entry. nat_lt (value entry.number) number) entries at (λ k d low high. lt-ltb _ _ (count.below k d low high))
        (λ k d low high. le-ltb _ _ (count.above k d low high))

    pub back_is : filter (λ entry. nat_lt number (value entry.number)) entries ≡ drop at entries
    back_is = filter_back (λ entry. nat_lt number (value entry.number)) entries at
        (λ k d low high. le-ltb _ _ (let below = count.below k d low high in omega arith)) (λ k d low high. lt-ltb _ _ (strictly_above k d low high))

    -- with an entry of the number between them
    pub inserted_rises : (entry : Entry N) → value entry.number ≡ number → IsRisingIndex value (insert entries at entry)
    inserted_rises entry is =
        let Rises : Entry N → Entry N → Type 0 = λ earlier later. value earlier.number < value later.number in
        let front = filter (λ entry. nat_lt (value entry.number) number) entries in
        let back = filter (λ entry. nat_lt number (value entry.number)) entries in
        subst (λ xs. AllPairs Rises (xs ++ entry ∷ drop at entries)) front_is (subst (λ ys. AllPairs Rises (front ++ entry ∷ ys)) back_is
        (all_pairs_between Rises (λ x y z low high. omega arith) front back entry
        (AllPairs-filter Rises (λ entry. nat_lt (value entry.number) number) entries rising)
        (AllPairs-filter Rises (λ entry. nat_lt number (value entry.number)) entries rising)
        (λ k d within. let low = ltb-true _ _ (filter_passes (λ entry. nat_lt (value entry.number) number) entries k d within) in omega arith)
        (λ k d within. let high = ltb-true _ _ (filter_passes (λ entry. nat_lt number (value entry.number)) entries k d within) in omega arith)))
