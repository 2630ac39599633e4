-- What is found at the keys of a command, one member after another.
use Rattle.std.proofs.Common.{◌≡◌, ◌≢◌, ℕ, zero, suc, ◌+◌, ◌<◌, drop, ◌≤◌, ◌&&◌, ◌||◌, Bool, true, false, List, [], ◌∷◌, ◌++◌, Option, Some, None, get_or, set}
use Rattle.std.proofs.Common.{length, codes, bytes_eq, option_map, true≢false, take, subst, refl, sym, ap, ◌∙◌, arith, ⊎_elim}
use Rattle.std.specs.List.{list_all, list_any}
use Rattle.std.proofs.lemmas.Bool.{and_parts, cases_eq, false_from_ne_true, not-true, or_cases}
use Rattle.std.proofs.lemmas.Grind.{common_steps, get_or-set_at}
use Rattle.std.proofs.lemmas.List.{drop_all, drop_more, get_or-set_other, take_all, take_more}
use Rattle.std.proofs.lemmas.List.Folds.{list_any_at}
use Rattle.std.proofs.lemmas.Slice.Eq.{bytes_eq-Decides}
use Rattle.serde_json.specs.Data.{Data, object}
use Rattle.serde_json.specs.Find.{get, get_member}
use Rattle.json_reading.specs.declared.field.Member.{Member}
use Rattle.json_reading.specs.Members.{data_of, members_in}
use Rattle.json_reading.proofs.ForCallers.{found_at_last, found_before_last}
use Rattle.wire_commands.specs.declared.keys.Key.{Key as KeyInCode}
use Rattle.wire_commands.specs.Found.{AreFound, are_distinct, held_as, with_common, words_of}
use Rattle.wire_commands.specs.Held.{has_only, held_at, is_common, is_known}
use Rattle.wire_commands.proofs.HeldLemmas.{only_known}
use Rattle.wire_commands.specs.Keys.{Key, needed, optional, key_seen, key_word}

-- ---- words that differ

first_differs : (w : List ℕ) (ws : List (List ℕ)) (i : ℕ) → list_any (bytes_eq w) ws ≡ false → i < length ws → w ≢ get_or ws i []
first_differs w ws i none within same = true≢false (sym (list_any_at (bytes_eq w) ws i [] within ((bytes_eq-Decides w (get_or ws i [])).1 same)) ∙ none)

-- of distinct words no two are at different places
same_place : (ws : List (List ℕ)) (i j : ℕ) → are_distinct ws ≡ true → i < length ws → j < length ws → get_or ws i [] ≡ get_or ws j [] → i ≡ j
same_place [] i j distinct here there same = absurd (omega (arith, here))
same_place (w ∷ ws) zero zero distinct here there same = refl
same_place (w ∷ ws) zero (suc j) distinct here there same = absurd (first_differs w ws j (not-true _ (and_parts _ _ distinct).0) (omega (arith, there)) same)
same_place (w ∷ ws) (suc i) zero distinct here there same = absurd
    (first_differs w ws i (not-true _ (and_parts _ _ distinct).0) (omega (arith, here)) (sym same))
same_place (w ∷ ws) (suc i) (suc j) distinct here there same =
    ap suc (same_place ws i j (and_parts _ _ distinct).1 (omega (arith, here)) (omega (arith, there)) same)

-- a word at one place is no word at another
differs : (ws : List (List ℕ)) (i j : ℕ) (w : List ℕ) → are_distinct ws ≡ true → i < length ws → j < length ws → i ≢ j → get_or ws i [] ≡ w
    → bytes_eq w (get_or ws j []) ≡ false
differs ws i j w distinct here there other is = false_from_ne_true _
    (λ e. other (same_place ws i j distinct here there (is ∙ (bytes_eq-Decides w (get_or ws j [])).0 e)))

-- a word that every command has is none of the words
common_differs : (words : List (List ℕ)) (at : ℕ) (w : List ℕ) → are_distinct (with_common words) ≡ true → at < length words → is_common w ≡ true
    → bytes_eq w (get_or words at []) ≡ false
common_differs words at w distinct within common = ⊎_elim (at_place 0 (omega arith) (omega arith)) (at_place 1 (omega arith) (omega arith))
    (or_cases (bytes_eq w (codes "do")) (bytes_eq w (codes "session")) common)
  where
    at_place : (place : ℕ) → place < 2 → place < length (with_common words) → bytes_eq w (get_or (with_common words) place []) ≡ true
        → bytes_eq w (get_or words at []) ≡ false
    at_place place low there is = differs (with_common words) place (suc (suc at)) w distinct there (omega (arith, within))
        (λ e. absurd (omega (arith, e, low))) (sym ((bytes_eq-Decides w (get_or (with_common words) place [])).0 is))

-- ---- a member more

taken : (ms : List Member) (at : ℕ) (none m : Member) → m ≡ get_or ms at none → at < length ms → take (at + 1) ms ≡ take at ms ++ m ∷ []
taken ms at none m is within = take_more ms at none within ∙ ap (λ last. take at ms ++ last ∷ []) (sym is)

-- its key is one of the words
found_more : {A : Type 0} (seen : A → Data) (words : List (List ℕ)) (ms : List Member) (m : Member) (found : List (Option A)) (at : ℕ) (a : A)
    → are_distinct (with_common words) ≡ true → at < length words → length words ≤ length found → get_or words at [] ≡ m.key.now → seen a ≡ data_of m.value
    → AreFound seen words ms found → AreFound seen words (ms ++ m ∷ []) (set found at (Some a))
found_more seen words ms m found at a distinct within room key value so_far = λ place inside. ⊎_elim
    (λ (same : place ≡ at).
    let equal : bytes_eq m.key.now (get_or words place []) ≡ true =
    (bytes_eq-Decides m.key.now (get_or words place [])).1 (sym key ∙ ap (λ p. get_or words p []) (sym same)) in
    ap (option_map seen) (get_or-set_at found at place (Some a) None same (omega (arith, within, room))) ∙ ap Some value
    ∙ sym (found_at_last (get_or words place []) ms m equal))
    (λ (other : place ≢ at).
    ap (option_map seen) (get_or-set_other found at place (Some a) None other) ∙ so_far place inside
    ∙ sym (found_before_last (get_or words place []) ms m
    (differs (with_common words) (suc (suc at)) (suc (suc place)) m.key.now distinct (omega (arith, within)) (omega (arith, inside))
    (λ e. other (omega (arith, e))) key)))
    (cases_eq place at)

-- or one that every command has
found_common : {A : Type 0} (seen : A → Data) (words : List (List ℕ)) (ms : List Member) (m : Member) (found : List (Option A))
    → are_distinct (with_common words) ≡ true → is_common m.key.now ≡ true → AreFound seen words ms found → AreFound seen words (ms ++ m ∷ []) found
found_common seen words ms m found distinct common so_far = λ place inside.
    so_far place inside ∙ sym (found_before_last (get_or words place []) ms m (common_differs words place m.key.now distinct inside common))

-- ---- what a key holds

pub held_there : (json : Data) (key : Key) → held_as (get (key_word key) json) key ≡ held_at json key
held_there json (needed w holds) = refl
held_there json (optional w holds) = refl

pub word_there : (keys : List KeyInCode) (at : ℕ) (none : KeyInCode) → at < length keys
    → get_or (words_of keys) at [] ≡ key_word (key_seen (get_or keys at none))
word_there (k ∷ keys) zero none within = refl
word_there (k ∷ keys) (suc at) none within = word_there keys at none (omega (arith, within))
word_there [] at none within = absurd (omega (arith, within))

-- ---- where a word is among those of keys

pub is_there : (keys : List KeyInCode) (at : ℕ) (none : KeyInCode) (text w : List ℕ) → text ≡ key_word (key_seen (get_or keys at none)) → at < length keys
    → bytes_eq w text ≡ true → get_or (words_of keys) at [] ≡ w
is_there keys at none text w is within same = word_there keys at none within ∙ sym is ∙ sym ((bytes_eq-Decides w text).0 same)

pub is_further : (keys : List KeyInCode) (at : ℕ) (none : KeyInCode) (text w : List ℕ) → text ≡ key_word (key_seen (get_or keys at none)) → at < length keys
    → bytes_eq w text ≡ false → list_any (bytes_eq w) (words_of (drop at keys)) ≡ list_any (bytes_eq w) (words_of (drop (at + 1) keys))
is_further keys at none text w is within other =
    ap (λ ks. list_any (bytes_eq w) (words_of ks)) (drop_more keys at none within)
    ∙ ap (λ b. b || list_any (bytes_eq w) (words_of (drop (at + 1) keys))) (ap (bytes_eq w) (sym is) ∙ other)

-- ---- whether the keys of members are known

abbrev pub knows : List (List ℕ) → Member → Bool
knows words member = is_known words member.key.now

common_known : (words : List (List ℕ)) (w : List ℕ) → is_common w ≡ true → is_known words w ≡ true
common_known words w common = grind (arith, common_steps)

neither_known : (words : List (List ℕ)) (w : List ℕ) → is_common w ≡ false → list_any (bytes_eq w) words ≡ false → is_known words w ≡ false
neither_known words w common other = grind (arith, common_steps)

word_known : (words : List (List ℕ)) (at : ℕ) (w : List ℕ) → is_common w ≡ false → at < length words → get_or words at [] ≡ w → is_known words w ≡ true
word_known words at w common within is =
    let among : list_any (bytes_eq w) words ≡ true = list_any_at (bytes_eq w) words at [] within ((bytes_eq-Decides w (get_or words at [])).1 (sym is)) in
    grind (arith, common_steps)

-- the keys of the members so far are known, and each is found
pub record SoFar {A : Type 0} (seen : A → Data) (words : List (List ℕ)) (ms : List Member) (at : ℕ) (found : List (Option A)) : Type 0 where
  pub known : list_all (knows words) ms ≡ list_all (knows words) (drop at ms)
  pub there : AreFound seen words (take at ms) found

-- whether the next member's key is known decides with the members behind it
known_next : {A : Type 0} {seen : A → Data} {words : List (List ℕ)} {ms : List Member} {at : ℕ} {m : Member} {found : List (Option A)}
    {is : Bool} (none : Member) → m ≡ get_or ms at none → at < length ms → knows words m ≡ is → SoFar seen words ms at found
    → list_all (knows words) ms ≡ (is && list_all (knows words) (drop (at + 1) ms))
known_next {A} {seen} {words} {ms} {at} {m} none same within is so_far =
    so_far.known ∙ ap (list_all (knows words)) (drop_more ms at none within ∙ ap (λ first. first ∷ drop (at + 1) ms) (sym same))
    ∙ ap (λ b. b && list_all (knows words) (drop (at + 1) ms)) is

pub passes_common : {A : Type 0} {seen : A → Data} {words : List (List ℕ)} {ms : List Member} {at : ℕ} {m : Member} {found : List (Option A)} (none : Member)
    → are_distinct (with_common words) ≡ true → m ≡ get_or ms at none → at < length ms → is_common m.key.now ≡ true
    → SoFar seen words ms at found → SoFar seen words ms (at + 1) found
passes_common {A} {seen} {words} {ms} {at} {m} {found} none distinct is within common so_far = record {
  known = known_next none is within (common_known words m.key.now common) so_far;
  there = subst (λ those. AreFound seen words those found) (sym (taken ms at none m is within))
      (found_common seen words (take at ms) m found distinct common so_far.there);
}

pub passes_word : {A : Type 0} {seen : A → Data} {words : List (List ℕ)} {ms : List Member} {at : ℕ} {m : Member} {found : List (Option A)} (none : Member)
    (place : ℕ) (a : A) → are_distinct (with_common words) ≡ true → m ≡ get_or ms at none → at < length ms → is_common m.key.now ≡ false
    → place < length words → length words ≤ length found → get_or words place [] ≡ m.key.now → seen a ≡ data_of m.value
    → SoFar seen words ms at found → SoFar seen words ms (at + 1) (set found place (Some a))
passes_word {A} {seen} {words} {ms} {at} {m} {found} none place a distinct is within common inside room key value so_far = record {
  known = known_next none is within (word_known words place m.key.now common inside key) so_far;
  there = subst (λ those. AreFound seen words those (set found place (Some a))) (sym (taken ms at none m is within))
      (found_more seen words (take at ms) m found place a distinct inside room key value so_far.there);
}

pub knows_not : {A : Type 0} {seen : A → Data} {words : List (List ℕ)} {ms : List Member} {at : ℕ} {m : Member} {found : List (Option A)} (none : Member)
    → m ≡ get_or ms at none → at < length ms → is_common m.key.now ≡ false → list_any (bytes_eq m.key.now) words ≡ false
    → SoFar seen words ms at found → false ≡ has_only words (object (members_in ms))
knows_not {A} {seen} {words} {ms} {at} {m} none is within common other so_far =
    sym (only_known words ms ∙ known_next none is within (neither_known words m.key.now common other) so_far)

pub knows_all : {A : Type 0} {seen : A → Data} {words : List (List ℕ)} {ms : List Member} {at : ℕ} {found : List (Option A)} → length ms ≤ at
    → SoFar seen words ms at found → true ≡ has_only words (object (members_in ms))
knows_all {A} {seen} {words} {ms} {at} end so_far = sym (only_known words ms ∙ so_far.known ∙ ap (list_all (knows words)) (drop_all at ms end))

pub finds_all : {A : Type 0} {seen : A → Data} {words : List (List ℕ)} {ms : List Member} {at : ℕ} {found : List (Option A)} → length ms ≤ at
    → SoFar seen words ms at found → AreFound seen words ms found
finds_all {A} {seen} {words} {ms} {at} {found} end so_far = subst (λ those. AreFound seen words those found) (take_all at ms end) so_far.there

pub length_words : (keys : List KeyInCode) → length (words_of keys) ≡ length keys
length_words [] = refl
length_words (k ∷ keys) = ap suc (length_words keys)

same_within : {A : Type 0} (xs : List A) (at : ℕ) (d e : A) → at < length xs → get_or xs at d ≡ get_or xs at e
same_within [] at d e within = absurd (omega (arith, within))
same_within (x ∷ xs) zero d e within = refl
same_within (x ∷ xs) (suc at) d e within = same_within xs at d e (omega (arith, within))

pub held_found : {A : Type 0} (seen : A → Data) (keys : List KeyInCode) (ms : List Member) (found : List (Option A)) (at : ℕ) (none : KeyInCode)
    (other : Option A) → at < length keys → length keys ≤ length found → AreFound seen (words_of keys) ms found
    → held_as (option_map seen (get_or found at other)) (key_seen (get_or keys at none)) ≡ held_at (object (members_in ms)) (key_seen (get_or keys at none))
held_found seen keys ms found at none other within room are =
    let key = key_seen (get_or keys at none) in
    ap (λ v. held_as (option_map seen v) key) (same_within found at other None (omega (arith, within, room)))
    ∙ ap (λ v. held_as v key) (are at (omega (arith, within, length_words keys)))
    ∙ ap (λ w. held_as (get_member w (members_in ms)) key) (word_there keys at none within)
    ∙ held_there (object (members_in ms)) key
