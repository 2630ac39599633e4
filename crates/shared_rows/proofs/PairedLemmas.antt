-- Two lists of places, seen as one.
use Rattle.std.proofs.Common.{◌≡◌, ◌≢◌, ◌∙◌, ℕ, zero, suc, ◌+◌, ◌-◌, ◌<◌, ◌≤◌, List, [], ◌∷◌, ◌++◌, length, get_or, min, set, refl, sym, ap, arith, ⊎_elim}
use Rattle.std.proofs.lemmas.Bool.{cases_eq, cases_lt}
use Rattle.std.proofs.lemmas.List.{get_or-set_other, get_or-set_same, get_or_append_left, get_or_push}
use Rattle.shared_rows.specs.Paired.{paired, paired_tables}
use Rattle.shared_rows.specs.Table.{Table, opened, with_place}

module _ {P Q T : Type 0} (join : P → Q → T) where
  pub length-paired : (firsts : List P) (seconds : List Q) → length firsts ≡ length seconds → length (paired join firsts seconds) ≡ length firsts
  length-paired [] seconds same = refl
  length-paired (first ∷ firsts) [] same = absurd (omega arith)
  length-paired (first ∷ firsts) (second ∷ seconds) same = ap suc (length-paired firsts seconds (omega arith))

  -- what stands at a place, whatever stands past the ends
  pub paired_at : (firsts : List P) (seconds : List Q) (place : ℕ) (p : P) (q : Q) (t : T) → length firsts ≡ length seconds → place < length firsts
      → get_or (paired join firsts seconds) place t ≡ join (get_or firsts place p) (get_or seconds place q)
  paired_at [] seconds place p q t same within = absurd (omega arith)
  paired_at (first ∷ firsts) [] place p q t same within = absurd (omega arith)
  paired_at (first ∷ firsts) (second ∷ seconds) zero p q t same within = refl
  paired_at (first ∷ firsts) (second ∷ seconds) (suc place) p q t same within = paired_at firsts seconds place p q t (omega arith) (omega arith)

  -- both at a place changed
  pub paired_set : (firsts : List P) (seconds : List Q) (place : ℕ) (p : P) (q : Q) → length firsts ≡ length seconds
      → paired join (set firsts place p) (set seconds place q) ≡ set (paired join firsts seconds) place (join p q)
  paired_set [] seconds place p q same = refl
  paired_set (first ∷ firsts) [] place p q same = absurd (omega arith)
  paired_set (first ∷ firsts) (second ∷ seconds) zero p q same = refl
  paired_set (first ∷ firsts) (second ∷ seconds) (suc place) p q same =
      ap (λ rest. join first second ∷ rest) (paired_set firsts seconds place p q (omega arith))

  -- one more place of both
  pub paired_push : (firsts : List P) (seconds : List Q) (p : P) (q : Q) → length firsts ≡ length seconds
      → paired join (firsts ++ p ∷ []) (seconds ++ q ∷ []) ≡ paired join firsts seconds ++ join p q ∷ []
  paired_push [] [] p q same = refl
  paired_push [] (second ∷ seconds) p q same = absurd (omega arith)
  paired_push (first ∷ firsts) [] p q same = absurd (omega arith)
  paired_push (first ∷ firsts) (second ∷ seconds) p q same = ap (λ rest. join first second ∷ rest) (paired_push firsts seconds p q (omega arith))

-- the table of pairs
module _ {P Q T : Type 0} (join : P → Q → T) (firsts : Table P) (seconds : Table Q) {table : Table T}
    (same : length firsts.places ≡ length seconds.places) (view_is : paired_tables join firsts seconds ≡ table) where
  pub pairs_length : length table.places ≡ length firsts.places
  pairs_length = ap (λ (t : Table T). length t.places) (sym view_is) ∙ length-paired join firsts.places seconds.places same

  pub pairs_at : (place : ℕ) (p : P) (q : Q) (t : T) → place < length firsts.places
      → get_or table.places place t ≡ join (get_or firsts.places place p) (get_or seconds.places place q)
  pairs_at place p q t within =
      ap (λ (pairs : Table T). get_or pairs.places place t) (sym view_is) ∙ paired_at join firsts.places seconds.places place p q t same within

  -- both changed at a place
  pub pairs_with : (place : ℕ) (p : P) (q : Q)
      → paired_tables join (with_place firsts place p) (with_place seconds place q) ≡ with_place table place (join p q)
  pairs_with place p q =
      ap (λ places. record { places = places; room = min firsts.room seconds.room }) (paired_set join firsts.places seconds.places place p q same)
      ∙ ap (λ t. with_place t place (join p q)) view_is

  -- one more place of both
  pub pairs_opened : (p : P) (q : Q) → paired_tables join (opened firsts p) (opened seconds q) ≡ opened table (join p q)
  pairs_opened p q =
      (λ i. record { places = paired_push join firsts.places seconds.places p q same i; room = rooms i }) ∙ ap (λ t. opened t (join p q)) view_is
    where
      rooms : min (firsts.room - 1) (seconds.room - 1) ≡ min firsts.room seconds.room - 1
      rooms = omega arith

-- a fact of the values of each place
module _ {P Q : Type 0} (Fact : P → Q → Type 0) (firsts : List P) (seconds : List Q) (p : P) (same : length firsts ≡ length seconds)
    (each : (place : ℕ) (q : Q) → place < length firsts → Fact (get_or firsts place p) (get_or seconds place q)) where
  -- holds when both change at a place, if it holds of the new values
  pub each_with : (place : ℕ) (first : P) (second : Q) → place < length firsts → Fact first second → (other : ℕ) (q : Q) → other < length firsts
      → Fact (get_or (set firsts place first) other p) (get_or (set seconds place second) other q)
  each_with place first second is_place holds other q within = ⊎_elim
      (λ here.
      rw (here, get_or-set_same firsts place first p is_place, get_or-set_same seconds place second q (omega arith)) holds)
      (λ differ. rw (get_or-set_other firsts place other first p differ, get_or-set_other seconds place other second q differ)
      (each other q within))
      (cases_eq other place)

  -- and with one more place, if it holds there
  pub each_opened : (first : P) (second : Q) → Fact first second → (place : ℕ) (q : Q) → place < length firsts + 1
      → Fact (get_or (firsts ++ first ∷ []) place p) (get_or (seconds ++ second ∷ []) place q)
  each_opened first second holds place q within = ⊎_elim
      (λ old. rw (
        get_or_append_left firsts (first ∷ []) p place old,
        get_or_append_left seconds (second ∷ []) q place (omega arith),
      ) (each place q old))
      (λ last.
      let here : length firsts ≡ place = omega arith in
      rw (get_or_push firsts first p place here, get_or_push seconds second q place (omega arith)) holds)
      (cases_lt place (length firsts))
