-- Places in their order: how many joins of one are listed.
use Rattle.std.proofs.Common.{◌≡◌, ◌∙◌, ℕ, suc, ◌+◌, ◌-◌, ◌<◌, ◌≤◌, ◌==◌, Bool, true, false, cond, List, [], ◌∷◌, Option, Some, None, find}
use Rattle.std.proofs.Common.{get_or, length, nat_lt, refl, sym, ap, subst, arith, ⊎_elim}
use Rattle.std.specs.Cmp.{nat_cmp_is}
use Rattle.std.specs.List.{Contains, HoldsAt, slice_get}
use Rattle.std.specs.List.Sorted.{IsPartitionedBy}
use Rattle.std.specs.Option.{option_map, option_map_or}
use Rattle.std.specs.Ordering.{is_lt}
use Rattle.std.specs.declared.cmp.Ordering.TheVariants.{Less, Equal, Greater}
use Rattle.std.proofs.lemmas.Bool.{cases_lt, cases_order, eqb-true, ne_eqb, eq-eqb, lt-ltb, le-ltb}
use Rattle.std.proofs.lemmas.Bool.Decides.{nat_tests}
use Rattle.shared_rows.specs.Links.{IsInOrder, first_from, with_link, without_link}
use Rattle.shared_rows.proofs.ForCallers.{parted_at}
use Rattle.shared_rows.proofs.NumberedLemmas.{first_numbered, lower_parted, numbered_at, numbered_none, rises, value_with, value_without}
use Rattle.publish_board.specs.declared.listed.Listed.{Listed}
use Rattle.publish_board.specs.Joiners.{IsFirstOf}
use Rattle.publish_board.specs.Listed.{IsSeatFrom, count_in, listed_cmp}

abbrev place_of : Listed → ℕ
place_of listed = listed.place

-- the one that is listed of a place
abbrev pub listed_of : ℕ → List Listed → Option Listed
listed_of place links = find (λ listed. listed.place == place) links

abbrev joins_of : Listed → ℕ
joins_of listed = listed.further + 1

-- those behind one are above it
behind_none : (listed : Listed) (links : List Listed) (place : ℕ) → IsInOrder listed_cmp (listed ∷ links) → place ≤ listed.place
    → listed_of place links ≡ None
behind_none listed links place order upto = numbered_none place_of links place (λ k d within same.
    omega (arith, upto, same, rises place_of (listed ∷ links) order 0 (suc k) d (omega arith) (omega arith)))

-- the first one from a place on, where it is of that place
abbrev pub kept_for : ℕ → Option Listed → Option Listed
kept_for place None = None
kept_for place (Some listed) = cond (listed.place == place) (Some listed) None

pub listed_found : (links : List Listed) (probe : Listed) → IsInOrder listed_cmp links
    → kept_for probe.place (first_from listed_cmp links probe) ≡ listed_of probe.place links
listed_found [] probe order = refl
listed_found (listed ∷ links) probe order = ⊎_elim
    (λ (same : listed.place ≡ probe.place). rw (sym (nat_cmp_is listed.place probe.place Equal same), eq-eqb listed.place probe.place same) refl)
    (λ differ. ⊎_elim
    (λ (low : listed.place < probe.place).
    rw (sym (nat_cmp_is listed.place probe.place Less low), ne_eqb listed.place probe.place (λ e. absurd (omega arith)))
    (listed_found links probe (λ i j d before within. order (suc i) (suc j) d (omega arith) (omega arith))))
    (λ (high : probe.place < listed.place).
    rw (sym (nat_cmp_is listed.place probe.place Greater high), ne_eqb listed.place probe.place (λ e. absurd (omega arith)))
    (sym (behind_none listed links probe.place order (omega (arith, high)))))
    differ)
    (cases_order listed.place probe.place)

module _ (links : List Listed) (probe : Listed) (order : IsInOrder listed_cmp links) where
  pub found_some : (listed : Listed) → Some listed ≡ first_from listed_cmp links probe → listed.place ≡ probe.place → Some listed ≡ listed_of probe.place links
  found_some listed first same =
      (λ i. cond (sym (eq-eqb listed.place probe.place same) i) (Some listed) None) ∙ (ap (kept_for probe.place) first ∙ listed_found links probe order)

  pub found_other : (listed : Listed) → Some listed ≡ first_from listed_cmp links probe → (listed.place ≡ probe.place → ⊥) → None ≡ listed_of probe.place links
  found_other listed first differ =
      (λ i. cond (sym (ne_eqb listed.place probe.place differ) i) (Some listed) None) ∙ (ap (kept_for probe.place) first ∙ listed_found links probe order)

  pub found_none : None ≡ first_from listed_cmp links probe → None ≡ listed_of probe.place links
  found_none first = ap (kept_for probe.place) first ∙ listed_found links probe order

-- the first from a number on
pub first_counted : (links : List Listed) (probe : Listed) → IsInOrder listed_cmp links
    → IsFirstOf (λ place. nat_lt 0 (count_in links place)) probe.place (option_map (λ listed. listed.place) (first_from listed_cmp links probe))
first_counted [] probe order = λ other from. refl
first_counted (listed ∷ links) probe order = ⊎_elim
    (λ (low : listed.place < probe.place). rw (sym (nat_cmp_is listed.place probe.place Less low))
    (further (option_map (λ listed. listed.place) (first_from listed_cmp links probe))
    (λ other from. ne_eqb listed.place other (λ same. absurd (omega (arith, low, from, same))))
    (first_counted links probe (λ i j d before within. order (suc i) (suc j) d (omega arith) (omega arith)))))
    (λ (high : probe.place ≤ listed.place). rw (at_least high) (high, here, λ other from before. none other before))
    (cases_lt listed.place probe.place)
  where
    further : (result : Option ℕ) → ((other : ℕ) → probe.place ≤ other → (listed.place == other) ≡ false)
        → IsFirstOf (λ place. nat_lt 0 (count_in links place)) probe.place result
        → IsFirstOf (λ place. nat_lt 0 (count_in (listed ∷ links) place)) probe.place result
    further None differ first = λ other from. rw (differ other from) (first other from)
    further (Some found) differ first = (
      first.0,
      rw (differ found first.0) first.1,
      λ other from before. rw (differ other from) (first.2 other from before),
    )

    at_least : probe.place ≤ listed.place → is_lt (listed_cmp listed probe) ≡ false
    at_least high = grind (arith, nat_tests, high)

    here : nat_lt 0 (count_in (listed ∷ links) listed.place) ≡ true
    here = rw (eq-eqb listed.place listed.place refl) (lt-ltb 0 (listed.further + 1) (omega arith))

    none : (other : ℕ) → other < listed.place → nat_lt 0 (count_in (listed ∷ links) other) ≡ false
    none other before =
        rw (ne_eqb listed.place other (λ same. absurd (omega (arith, before, same))))
        (ap (λ found. nat_lt 0 (option_map_or joins_of found 0)) (behind_none listed links other order (omega (arith, before))))

-- where those below a place end
module _ (links : List Listed) (order : IsInOrder listed_cmp links) (least : ℕ) where
  abbrev probe : Listed
  probe = record { place = least; further = 0 }

  pub seat_parted : IsPartitionedBy (λ (listed : Listed). nat_lt listed.place least) links
  seat_parted = lower_parted place_of links order probe

  -- a place that is not below it and follows one that is
  pub seat_between : (at : ℕ) → at ≤ length links → (0 < at → HoldsAt (λ (listed : Listed). listed.place < least) links (at - 1))
      → (at < length links → HoldsAt (λ (listed : Listed). least ≤ listed.place) links at) → IsSeatFrom links least at
  seat_between at within low high = (
    within,
    parted_at (λ (listed : Listed). nat_lt listed.place least) links seat_parted at within
        (λ some d. lt-ltb (get_or links (at - 1) d).place least (low some d)) (λ there d. le-ltb (get_or links at d).place least (high there d)),
  )

  -- the first place from there on
  pub first_seated : (at : ℕ) → IsSeatFrom links least at
      → IsFirstOf (λ place. nat_lt 0 (count_in links place)) least (option_map (λ (listed : Listed). listed.place) (slice_get links at))
  first_seated at seat = subst (λ found. IsFirstOf (λ place. nat_lt 0 (count_in links place)) least (option_map (λ (listed : Listed). listed.place) found))
      (sym (first_numbered place_of links order probe at seat.1)) (first_counted links probe order)

-- how many joins the place at a position has
pub counted_at : (links : List Listed) → IsInOrder listed_cmp links → (at : ℕ) (listed : Listed) → at < length links → listed ≡ get_or links at listed
    → count_in links listed.place ≡ listed.further + 1
counted_at links order at listed within is =
    ap (λ found. option_map_or joins_of found 0)
    (numbered_at place_of links at listed.place listed within
    (λ k before same. absurd (omega (arith, rises place_of links order k at listed before within, ap place_of is, same)))
    (ap place_of (sym is)))
    ∙ ap joins_of (sym is)

-- the one that is found stands there
pub found_there : (links : List Listed) (place : ℕ) (listed : Listed) → Some listed ≡ listed_of place links → Contains links listed × (listed.place ≡ place)
found_there [] place listed is = absurd (cc)
found_there (first ∷ links) place listed is = by (first.place == place) refl (found_there links place listed)
  where
    by : (here : Bool) → (first.place == place) ≡ here
        → (Some listed ≡ listed_of place links → Contains links listed × (listed.place ≡ place))
        → Contains (first ∷ links) listed × (listed.place ≡ place)
    by true e later =
        let same : listed ≡ first = ap (λ found. option_map_or (λ it. it) found first) (is ∙ (λ i. cond (e i) (Some first) (listed_of place links))) in
        ((0, omega arith, sym same), ap (λ (it : Listed). it.place) same ∙ eqb-true first.place place e)
    by false e later =
        let there = later (is ∙ (λ i. cond (e i) (Some first) (listed_of place links))) in
        ((suc there.0.0, omega (arith, there.0.1), there.0.2), there.1)

module _ (links : List Listed) (place : ℕ) where
  counted : (old : Listed) → Some old ≡ listed_of place links → (at : ℕ) → (place == at) ≡ true → count_in links at ≡ old.further + 1
  counted old stood at same = sym (ap (count_in links) (eqb-true place at same))
      ∙ sym (ap (λ found. option_map_or joins_of found 0) stood)

  -- one more join of a place
  pub one_more : (after : List Listed) (further : ℕ) → after ≡ with_link listed_cmp links (record { place = place; further = further })
      → further ≡ count_in links place → (at : ℕ) → count_in after at ≡ count_in links at + cond (place == at) 1 0
  one_more after further e is at = value_with place_of joins_of 0 links after (record { place = place; further = further }) e at ∙ by (place == at) refl
    where
      by : (same : Bool) → (place == at) ≡ same → cond same (further + 1) (count_in links at) ≡ count_in links at + cond same 1 0
      by true s = ap (λ n. n + 1) (is ∙ ap (count_in links) (eqb-true place at s))
      by false s = omega arith

  -- one fewer, which leaves others
  pub one_fewer : (after : List Listed) (old : Listed) (further : ℕ)
      → after ≡ with_link listed_cmp (without_link listed_cmp links old) (record { place = place; further = further })
      → Some old ≡ listed_of place links → old.further ≡ further + 1 → (at : ℕ) → count_in after at ≡ count_in links at - cond (place == at) 1 0
  one_fewer after old further e stood more at =
      value_with place_of joins_of 0 (without_link listed_cmp links old) after (record { place = place; further = further }) e at
      ∙ (ap (cond (place == at) (further + 1)) (value_without place_of joins_of 0 links (without_link listed_cmp links old) old refl at
      ∙ (λ i. cond ((found_there links place old stood).1 i == at) 0 (count_in links at))) ∙ by (place == at) refl)
    where
      by : (same : Bool) → (place == at) ≡ same → cond same (further + 1) (cond same 0 (count_in links at)) ≡ count_in links at - cond same 1 0
      by true s = let now : count_in links at ≡ old.further + 1 = counted old stood at s in omega (arith, now, more)
      by false s = omega arith

  -- the last one
  pub none_left : (after : List Listed) (old : Listed) → after ≡ without_link listed_cmp links old → Some old ≡ listed_of place links → old.further ≡ 0
      → (at : ℕ)
      → count_in after at ≡ count_in links at - cond (place == at) 1 0
  none_left after old e stood last at =
      value_without place_of joins_of 0 links after old e at
      ∙ ((λ i. cond ((found_there links place old stood).1 i == at) 0 (count_in links at)) ∙ by (place == at) refl)
    where
      by : (same : Bool) → (place == at) ≡ same → cond same 0 (count_in links at) ≡ count_in links at - cond same 1 0
      by true s = let now : count_in links at ≡ old.further + 1 = counted old stood at s in omega (arith, now, last)
      by false s = omega arith

  -- or none where none was
  pub none_there : None ≡ listed_of place links → (at : ℕ) → count_in links at ≡ count_in links at - cond (place == at) 1 0
  none_there none at = by (place == at) refl
    where
      by : (same : Bool) → (place == at) ≡ same → count_in links at ≡ count_in links at - cond same 1 0
      by true s =
          let now : 0 ≡ count_in links at = ap (λ found. option_map_or joins_of found 0) none
          ∙ ap (count_in links) (eqb-true place at s) in omega (arith, now)
      by false s = omega arith
