-- What is noted of commands, as it stands, and the way back over it.
use Rattle.std.proofs.Common.{◌≡◌, ◌∙◌, ℕ, zero, suc, ◌+◌, ◌<◌, ◌≤◌, ◌==◌, ◌||◌, Bool, true, false, List, [], ◌∷◌, ◌++◌, length, drop, get_or, set, reverse}
use Rattle.std.proofs.Common.{add-one, drop-cons, refl, sym, ap, ap₂, subst, ⊎_elim, arith}
use Rattle.std.specs.List.{All, list_any}
use Rattle.std.proofs.lemmas.Bool.{both_ways, cases_Bool, eq-eqb, or_left}
use Rattle.std.proofs.lemmas.Grind.{get_or-set_at}
use Rattle.std.proofs.lemmas.List.{get_or-set_other, length-set, get_or-map, length-map, map-append, reverse-append}
use Rattle.isolation.specs.Slice.{Note, Slice, back, with_mark}
use Rattle.isolation.specs.World.{is_in}
use Rattle.server_world.specs.declared.notes.Row.{Row}
use Rattle.server_world.specs.Noting.{IsWithin, marked_from}
use Rattle.server_world.specs.NotedInside.{by_place, joiners_at, note_at, noted}

pub all_front : {X : Type 0} (P : X → Type 0) (x : X) (xs : List X) → All P (x ∷ xs) → P x
all_front P x xs all = all 0 x (omega arith)

pub all_rest : {X : Type 0} (P : X → Type 0) (x : X) (xs : List X) → All P (x ∷ xs) → All P xs
all_rest P x xs all = λ k d within. all (suc k) d (omega arith)

pub all_more : {X : Type 0} (P : X → Type 0) (x : X) (xs : List X) → P x → All P xs → All P (x ∷ xs)
all_more P x xs here all zero d within = here
all_more P x xs here all (suc k) d within = all k d (omega arith)

-- the notes stay where the lists of their rows do
pub noted_stays : (rows : List Row) (old new : List (List ℕ)) → All (λ row. row.list ≤ length old) rows
    → ((number : ℕ) → number ≤ length old → joiners_at new number ≡ joiners_at old number) → noted rows new ≡ noted rows old
noted_stays [] old new within same = refl
noted_stays (row ∷ rows) old new within same =
    let here = same row.list (all_front (λ row. row.list ≤ length old) row rows within) in
    let rest = noted_stays rows old new (all_rest (λ row. row.list ≤ length old) row rows within) same in
    ap₂ (λ (joiners : List ℕ) (notes : List (Note ℕ)). (let note : Note ℕ = record { session = row.session; joiners = joiners } in note) ∷ notes) here rest

-- and one more row is one more note
pub noted_more : (rows : List Row) (old new : List (List ℕ)) (session list : ℕ) (joiners : List ℕ) → All (λ row. row.list ≤ length old) rows
    → ((number : ℕ) → number ≤ length old → joiners_at new number ≡ joiners_at old number) → joiners_at new list ≡ joiners
    → noted (rows ++ record { session = session; list = list } ∷ []) new ≡ noted rows old ++ record { session = session; joiners = joiners } ∷ []
noted_more rows old new session list joiners within same is =
    map-append (note_at new) rows _ ∙ ap₂ (λ (notes : List (Note ℕ)) (joiners : List ℕ). notes
    ++ (let note : Note ℕ = record { session = session; joiners = joiners } in note) ∷ []) (noted_stays rows old new within same) is

-- a test of some pair, from either side
some_of_two : {A : Type 0} (first rest : A → Bool) (xs : List A) → list_any (λ x. first x || rest x) xs ≡ (list_any first xs || list_any rest xs)
some_of_two first rest [] = refl
some_of_two first rest (x ∷ xs) = let others : list_any (λ x. first x || rest x) xs ≡ (list_any first xs || list_any rest xs) = some_of_two first rest xs in
    grind (arith, others)

pub list_any_same : {A : Type 0} (p q : A → Bool) (xs : List A) → All (λ x. p x ≡ q x) xs → list_any p xs ≡ list_any q xs
list_any_same p q [] same = refl
list_any_same p q (x ∷ xs) same = ap₂ (λ a b. a || b) (all_front (λ x. p x ≡ q x) x xs same) (list_any_same p q xs (all_rest (λ x. p x ≡ q x) x xs same))

none_of_none : {A : Type 0} (xs : List A) → list_any (λ x. false) xs ≡ false
none_of_none [] = refl
none_of_none (x ∷ xs) = none_of_none xs

some_pair : {A B : Type 0} (test : A → B → Bool) (xs : List A) (ys : List B)
    → list_any (λ x. list_any (test x) ys) xs ≡ list_any (λ y. list_any (λ x. test x y) xs) ys
some_pair test [] ys = sym (none_of_none ys)
some_pair test (x ∷ xs) ys = ap (λ b. list_any (test x) ys || b) (some_pair test xs ys) ∙ sym (some_of_two (test x) (λ y. list_any (λ x. test x y) xs) ys)

equal_turned : (a b : ℕ) → (a == b) ≡ (b == a)
equal_turned a b = ⊎_elim (λ e. grind (arith, e)) (λ e. grind (arith, e)) (cases_Bool (a == b))

-- some member is a joiner just where some joiner is a member
pub joiner_is_member : (members joiners : List ℕ) → list_any (λ r. is_in by_place r joiners) members ≡ list_any (λ place. is_in by_place place members) joiners
joiner_is_member members joiners =
    some_pair (λ r place. r == place) members joiners
    ∙ list_any_same (λ place. list_any (λ r. r == place) members) (λ place. is_in by_place place members) joiners
    (λ k d within. list_any_same (λ r. r == get_or joiners k d) (λ r. get_or joiners k d == r) members
    (λ i e inner. equal_turned (get_or members i e) (get_or joiners k d)))

-- the next note on the way back
next_note : (rows : List Row) (lists : List (List ℕ)) (at left : ℕ) (row : Row) → at < length rows → row ≡ get_or rows at row → left ≡ at + 1
    → drop at (noted rows lists) ≡ note_at lists row ∷ drop left (noted rows lists)
next_note rows lists at left row inside is more =
    let within : at < length (noted rows lists) = omega (arith, length-map rows (note_at lists)) in
    drop-cons (noted rows lists) at (note_at lists row) within
    ∙ ap (λ n. get_or (noted rows lists) at (note_at lists row) ∷ drop n (noted rows lists)) (sym (add-one at))
    ∙ ap₂ (λ (note : Note ℕ) (n : ℕ). note ∷ drop n (noted rows lists))
    (get_or-map (note_at lists) rows at row (note_at lists row) inside ∙ ap (note_at lists) (sym is)) (sym more)

pub note_within : (rows : List Row) (lists : List (List ℕ)) (sessions at : ℕ) (row : Row) → at < length rows → row ≡ get_or rows at row
    → All (IsWithin sessions) (noted rows lists) → IsWithin sessions (note_at lists row)
note_within rows lists sessions at row inside is within =
    subst (IsWithin sessions) (get_or-map (note_at lists) rows at row (note_at lists row) inside ∙ ap (note_at lists) (sym is))
    (within at (note_at lists row) (omega (arith, length-map rows (note_at lists))))

-- the table of members, and the places that are found, on the way back over notes of which so many are left
pub record IsBack (session sessions : ℕ) (notes : List (Note ℕ)) (left : ℕ) (table : List Bool) (places : List ℕ) : Type 0 where
  pub long : length table ≡ sessions
  pub members : (place : ℕ) → place < sessions → get_or table place false ≡ is_in by_place place (back by_place session (drop left notes)).members
  pub found : reverse places ≡ marked_from left (back by_place session (drop left notes)).marks

-- one more member is one more mark of the table
marked_member : (table : List Bool) (at place : ℕ) (members : List ℕ) → at < length table → get_or table place false ≡ is_in by_place place members
    → get_or (set table at true) place false ≡ is_in by_place place (at ∷ members)
marked_member table at place members inside is = ⊎_elim
    (λ same. get_or-set_at table at place true false (grind (arith, same)) inside ∙ sym (or_left (place == at) _ same))
    (λ other. get_or-set_other table at place true false (λ e. both_ways (place == at) other (eq-eqb place at e)) ∙ is
    ∙ ap (λ b. b || is_in by_place place members) (sym other))
    (cases_Bool (place == at))

module _ (session sessions : ℕ) (notes : List (Note ℕ)) where
  module _ (left at : ℕ) (table : List Bool) (places : List ℕ) (note : Note ℕ) (is : left ≡ at + 1) (next : drop at notes ≡ note ∷ drop left notes)
      (within : IsWithin sessions note) (on : IsBack session sessions notes left table places) where
    -- is the command of this note kept
    abbrev Matters : Bool
    Matters = is_in by_place note.session (back by_place session (drop left notes)).members
        || list_any (λ r. is_in by_place r note.joiners) (back by_place session (drop left notes)).members

    -- so it is by the table
    matters_is : (get_or table note.session false || list_any (λ place. get_or table place false) note.joiners) ≡ Matters
    matters_is =
        let members = (back by_place session (drop left notes)).members in
        ap₂ (λ a b. a || b) (on.members note.session within.0)
        (list_any_same (λ place. get_or table place false) (λ place. is_in by_place place members) note.joiners
        (λ k d inner. on.members (get_or note.joiners k d) (within.1 k d inner)) ∙ sym (joiner_is_member members note.joiners))

    back_is : (mark : Bool) → Matters ≡ mark → back by_place session (drop at notes) ≡ with_mark mark note.session (back by_place session (drop left notes))
    back_is mark e = ap (back by_place session) next ∙ ap (λ mark. with_mark mark note.session (back by_place session (drop left notes))) e

    back_keeps : Matters ≡ true → IsBack session sessions notes at (set table note.session true) (places ++ at ∷ [])
    back_keeps e =
        let now = back_is true e in
        let inside : note.session < length table = omega (arith, within.0, on.long) in
        record {
          long = length-set table note.session true ∙ on.long;
          members = λ place there. marked_member table note.session place (back by_place session (drop left notes)).members inside (on.members place there)
              ∙ ap (λ (slice : Slice ℕ). is_in by_place place slice.members) (sym now);
          found = reverse-append places (at ∷ []) ∙ ap₂ (λ (n : ℕ) (found : List ℕ). at ∷ found) is on.found
              ∙ ap (λ n. at ∷ marked_from n (back by_place session (drop left notes)).marks) is
              ∙ ap (λ (slice : Slice ℕ). marked_from at slice.marks) (sym now);
        }

    back_passes : Matters ≡ false → IsBack session sessions notes at table places
    back_passes e =
        let now = back_is false e in
        record {
          long = on.long;
          members = λ place there. on.members place there ∙ ap (λ (slice : Slice ℕ). is_in by_place place slice.members) (sym now);
          found = on.found ∙ ap (λ n. marked_from n (back by_place session (drop left notes)).marks) is
              ∙ ap (λ (slice : Slice ℕ). marked_from at slice.marks) (sym now);
        }

-- one row on the way back, by what the table tells of it
module _ (rows : List Row) (lists : List (List ℕ)) (session sessions left at : ℕ) (table : List Bool) (places : List ℕ) (row : Row) (inside : at < length rows)
    (is : row ≡ get_or rows at row) (more : left ≡ at + 1)
    (within : All (IsWithin sessions) (noted rows lists)) (on : IsBack session sessions (noted rows lists) left table places) where
  pub row_within : IsWithin (length table) (note_at lists row)
  row_within = subst (λ count. IsWithin count (note_at lists row)) (sym on.long) (note_within rows lists sessions at row inside is within)

  -- does the command of the row matter
  abbrev pub Tells : Bool
  Tells = get_or table row.session false || list_any (λ place. get_or table place false) (joiners_at lists row.list)

  pub row_keeps : Tells ≡ true → IsBack session sessions (noted rows lists) at (set table row.session true) (places ++ at ∷ [])
  row_keeps tells =
      let next = next_note rows lists at left row inside is more in
      let here = note_within rows lists sessions at row inside is within in
      back_keeps session sessions (noted rows lists) left at table places (note_at lists row) more next here on
      (sym (matters_is session sessions (noted rows lists) left at table places (note_at lists row) more next here on) ∙ tells)

  pub row_passes : Tells ≡ false → IsBack session sessions (noted rows lists) at table places
  row_passes tells =
      let next = next_note rows lists at left row inside is more in
      let here = note_within rows lists sessions at row inside is within in
      back_passes session sessions (noted rows lists) left at table places (note_at lists row) more next here on
      (sym (matters_is session sessions (noted rows lists) left at table places (note_at lists row) more next here on) ∙ tells)
