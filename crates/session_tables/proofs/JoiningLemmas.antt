-- Which sessions join another one.
use Rattle.std.proofs.Common.{◌≡◌, ◌⊎◌, inl, inr, ◌≤◌, ◌<◌, ◌+◌, ◌==◌, ◌||◌, ℕ, Bool, true, false, true≢false, eqb, List, [], ◌∷◌, ◌++◌, length, get_or, refl}
use Rattle.std.proofs.Common.{sym, ap, subst, ◌∙◌, ⊎_elim, arith}
use Rattle.std.specs.List.{list_any}
use Rattle.std.specs.List.Sorted.{IsStrictlyIncreasing}
use Rattle.std.proofs.lemmas.Bool.{cases_lt}
use Rattle.std.proofs.lemmas.Bool.Decides.{nat_tests}
use Rattle.std.proofs.lemmas.List.{get_or_append_left, get_or_past, get_or_push, length_push}
use Rattle.std.proofs.lemmas.List.Folds.{list_any-append, list_any_at}
use Rattle.shared_rows.specs.Table.{IsPlace}
use Rattle.publish_board.specs.Desk.{names_session, no_desk}
use Rattle.publish_board.specs.Table.{desk_at}
use Rattle.session_model.specs.Thread.{joins_name}
use Rattle.session_tables.specs.declared.tables.Tables.{Tables}
use Rattle.session_tables.specs.Joining.{AreJoiners}

-- is the place among these
abbrev pub is_among : List ℕ → ℕ → Bool
is_among places at = list_any (λ place. place == at) places

-- these are the places below an end that pass a test, by rising number
pub record ArePassing (test : ℕ → Bool) (end : ℕ) (places : List ℕ) : Type 0 where
  pub rising : IsStrictlyIncreasing places
  pub below : (at : ℕ) → at < end → is_among places at ≡ test at
  pub past : (at : ℕ) → end ≤ at → is_among places at ≡ false

among_push : (places : List ℕ) (place at : ℕ) → is_among (places ++ place ∷ []) at ≡ (is_among places at || (eqb place at || false))
among_push places place at = list_any-append (λ place. place == at) places (place ∷ [])

each_below : (test : ℕ → Bool) (end : ℕ) (places : List ℕ) → ArePassing test end places → (i : ℕ) → i < length places → get_or places i 0 < end
each_below test end places are i within = ⊎_elim (λ less. less) (λ up. absurd (true≢false (sym there ∙ are.past it up))) (cases_lt it end)
  where
    it : ℕ
    it = get_or places i 0

    there : is_among places it ≡ true
    there = list_any_at (λ place. place == it) places i 0 within (grind (arith, nat_tests))

-- none passes so far
pub passing_first : (test : ℕ → Bool) (places : List ℕ) → places ≡ [] → ArePassing test 0 places
passing_first test places empty = subst (ArePassing test 0) (sym empty)
    (record { rising = λ k within. absurd (omega (arith, within)); below = λ at within. absurd (omega (arith, within)); past = λ at up. refl })

-- the next one that passes goes last
pub passing_next : (test : ℕ → Bool) (least place : ℕ) (places : List ℕ) → least ≤ place → test place ≡ true
    → ((other : ℕ) → least ≤ other → other < place → test other ≡ false)
    → ArePassing test least places → ArePassing test (place + 1) (places ++ place ∷ [])
passing_next test least place places up passes before are = record {
  rising = rises;
  below = λ at within. ⊎_elim (λ less. lower at less)
      (λ from_least. ⊎_elim (λ less. between at from_least less) (λ last. here at (omega (arith, last, within))) (cases_lt at place)) (cases_lt at least);
  past = λ at above. let apart : eqb place at ≡ false = grind (arith, nat_tests, above) in
      among_push places place at ∙ grind (arith, are.past at (omega (arith, above, up)), apart);
}
  where
    rises : IsStrictlyIncreasing (places ++ place ∷ [])
    rises k within =
        let long = length_push places place in
        let low : get_or (places ++ place ∷ []) k 0 ≡ get_or places k 0 = get_or_append_left places (place ∷ []) 0 k (omega (arith, long, within)) in
        ⊎_elim
        (λ inside. let high : get_or (places ++ place ∷ []) (k + 1) 0 ≡ get_or places (k + 1) 0 = get_or_append_left places (place ∷ []) 0 (k + 1) inside in
        let less = are.rising k inside in omega (arith, low, high, less))
        (λ at_end. let high : get_or (places ++ place ∷ []) (k + 1) 0 ≡ place = get_or_push places place 0 (k + 1) (omega (arith, long, within, at_end)) in
        let less = each_below test least places are k (omega (arith, long, within)) in omega (arith, low, high, less, up))
        (cases_lt (k + 1) (length places))

    lower : (at : ℕ) → at < least → is_among (places ++ place ∷ []) at ≡ test at
    lower at less = let apart : eqb place at ≡ false = grind (arith, nat_tests, less, up) in among_push places place at
        ∙ grind (arith, are.below at less, apart)

    between : (at : ℕ) → least ≤ at → at < place → is_among (places ++ place ∷ []) at ≡ test at
    between at from_least less = let apart : eqb place at ≡ false = grind (arith, nat_tests, less) in among_push places place at
        ∙ grind (arith, are.past at from_least, before at from_least less, apart)

    here : (at : ℕ) → at ≡ place → is_among (places ++ place ∷ []) at ≡ test at
    here at same = let is : eqb place at ≡ true = grind (arith, nat_tests, same) in among_push places place at ∙ grind (arith, is, passes, same)

-- does the session at a place join one of this name
abbrev pub joins : Tables → List ℕ → ℕ → Bool
joins tables from at = names_session from (desk_at tables.desks at)

-- where no place from an end on joins it, the places that do are found
pub joiners_found : (tables : Tables) (from : List ℕ) (least : ℕ) (places : List ℕ)
    → ((at : ℕ) → least ≤ at → IsPlace tables.desks at → joins tables from at ≡ false)
    → ArePassing (joins tables from) least places → AreJoiners tables from places
unfolding joins_name
joiners_found tables from least places none are =
    record {
      rising = are.rising;
      exact = λ at. ⊎_elim (are.below at) (λ up. are.past at up ∙ sym (strange at up (cases_lt at (length tables.desks.places))))
          (cases_lt at least);
    }
  where
    strange : (at : ℕ) → least ≤ at → (at < length tables.desks.places) ⊎ (length tables.desks.places ≤ at) → joins tables from at ≡ false
    strange at up (inl placed) = none at up placed
    strange at up (inr past) = ap (names_session from) (get_or_past tables.desks.places at no_desk past)
