-- A text in two pieces: the bytes at its front that pass a test, and what stands behind them.
use Rattle.std.proofs.Common.{◌≡◌, ◌∙◌, ◌<◌, ◌+◌, ◌==◌, ◌&&◌, ℕ, suc, Bool, true, false, List, [], ◌∷◌, ◌++◌, Some, length, nat_le, take, drop, refl, sym, ap}
use Rattle.std.proofs.Common.{subst, cond, ⊎_elim, arith}
use Rattle.std.specs.List.{list_all, prefix_len}
use Rattle.std.specs.Str.{IsAscii, IsUtf8}
use Rattle.std.proofs.lemmas.List.{take_at, drop_at, take-append-drop}
use Rattle.std.proofs.lemmas.Bool.{and_parts, and_from, or_left, eqb-true, cases_Bool, both_ways}
use Rattle.std.proofs.lemmas.Bool.Decides.{nat_tests}
use Rattle.std.proofs.lemmas.Str.{IsUtf8-from_ascii}
use Rattle.std.proofs.lemmas.Str.Ascii.{IsAscii-nil, IsAscii-cons}
use Rattle.plain_types.specs.Names.{is_name, is_name_start, is_name_byte, is_between}
use Rattle.signature_core.specs.Grammar.{is_blank, IsBlank}
use Rattle.signature_core.specs.Reading.{skip, word, behind_word, behind_mark}

-- the first byte, if there is one, does not pass
abbrev pub Stops : (ℕ → Bool) → List ℕ → Type 0
Stops p [] = Unit {0}
Stops p (x ∷ xs) = p x ≡ false

prefix_len-append : (p : ℕ → Bool) (w x : List ℕ) → list_all p w ≡ true → Stops p x → prefix_len p (w ++ x) ≡ length w
prefix_len-append p [] [] all stops = refl
prefix_len-append p [] (y ∷ x) all stops = rw stops refl
prefix_len-append p (b ∷ w) x all stops =
    let parts = and_parts (p b) (list_all p w) all in
    rw (parts.0, prefix_len-append p w x parts.1 stops) (omega arith)

front_all : (p : ℕ → Bool) (w x : List ℕ) → list_all p w ≡ true → Stops p x → take (prefix_len p (w ++ x)) (w ++ x) ≡ w
front_all p w x all stops = take_at w x _ (sym (prefix_len-append p w x all stops))

behind_all : (p : ℕ → Bool) (w x : List ℕ) → list_all p w ≡ true → Stops p x → drop (prefix_len p (w ++ x)) (w ++ x) ≡ x
behind_all p w x all stops = drop_at w x _ (sym (prefix_len-append p w x all stops))

front_passes : (p : ℕ → Bool) (s : List ℕ) → list_all p (take (prefix_len p s) s) ≡ true
front_passes p [] = refl
front_passes p (x ∷ s) = step (p x) (prefix_len p s) refl (front_passes p s)
  where
    step : (b : Bool) (n : ℕ) → p x ≡ b → list_all p (take n s) ≡ true → list_all p (take (cond b (1 + n) 0) (x ∷ s)) ≡ true
    step true n e rest = let one : 1 + n ≡ suc n = omega arith in rw (one, e) rest
    step false n e rest = refl

behind_stops : (p : ℕ → Bool) (s : List ℕ) → Stops p (drop (prefix_len p s) s)
behind_stops p [] = tt
behind_stops p (x ∷ s) = step (p x) (prefix_len p s) refl (behind_stops p s)
  where
    step : (b : Bool) (n : ℕ) → p x ≡ b → Stops p (drop n s) → Stops p (drop (cond b (1 + n) 0) (x ∷ s))
    step true n e rest = let one : 1 + n ≡ suc n = omega arith in rw one rest
    step false n e rest = e

-- ---- white space and words

pub is_word_blank : (c : ℕ) → is_blank c ≡ true → is_name_byte c ≡ false
is_word_blank c e = grind (arith, nat_tests)

pub is_blank_word : (c : ℕ) → is_name_byte c ≡ true → is_blank c ≡ false
is_blank_word c e = ⊎_elim (λ b. absurd (both_ways (is_name_byte c) (is_word_blank c b) e)) (λ b. b) (cases_Bool (is_blank c))

IsAscii-words : (s : List ℕ) → list_all is_name_byte s ≡ true → IsAscii s
IsAscii-words [] all = IsAscii-nil
IsAscii-words (c ∷ s) all =
    let parts = and_parts (is_name_byte c) (list_all is_name_byte s) all in
    let low : c < 128 = below c parts.0 in
    IsAscii-cons c s low (IsAscii-words s parts.1)
  where
    below : (c : ℕ) → is_name_byte c ≡ true → c < 128
    below c e = grind (arith, nat_tests)

pub words-name : (name : List ℕ) → is_name name ≡ true → list_all is_name_byte name ≡ true
words-name [] named = refl
words-name (c ∷ name) named =
    let short = and_parts (is_name_start c && list_all is_name_byte name) (nat_le (length (c ∷ name)) 64) named in
    let parts = and_parts (is_name_start c) (list_all is_name_byte name) short.0 in
    and_from (is_name_byte c) (list_all is_name_byte name) (or_left (is_name_start c) (is_between 48 57 c) parts.0) parts.1

-- a name is ASCII, so what is no UTF-8 is no name
pub is_name-not_utf8 : (bytes : List ℕ) → ¬ (IsUtf8 bytes) → is_name bytes ≡ false
is_name-not_utf8 bytes not_utf8 =
    ⊎_elim (λ named. absurd (not_utf8 (IsUtf8-from_ascii bytes (IsAscii-words bytes (words-name bytes named))))) (λ e. e) (cases_Bool (is_name bytes))

pub Stops-gap : (gap x : List ℕ) → IsBlank gap → Stops is_name_byte x → Stops is_name_byte (gap ++ x)
Stops-gap [] x blank stops = stops
Stops-gap (c ∷ gap) x blank stops = is_word_blank c (and_parts (is_blank c) (list_all is_blank gap) blank).0

pub IsBlank-append : (a b : List ℕ) → IsBlank a → IsBlank b → IsBlank (a ++ b)
IsBlank-append [] b p q = q
IsBlank-append (c ∷ a) b p q =
    let parts = and_parts (is_blank c) (list_all is_blank a) p in
    and_from (is_blank c) (list_all is_blank (a ++ b)) parts.0 (IsBlank-append a b parts.1 q)

-- ---- what is read of a text in two pieces

pub skip-append : (gap x : List ℕ) → IsBlank gap → Stops is_blank x → skip (gap ++ x) ≡ x
unfolding skip
skip-append gap x blank stops = behind_all is_blank gap x blank stops

pub word-append : (w x : List ℕ) → list_all is_name_byte w ≡ true → Stops is_name_byte x → word (w ++ x) ≡ w
unfolding word
word-append w x all stops = front_all is_name_byte w x all stops

pub behind_word-append : (w gap x : List ℕ) → list_all is_name_byte w ≡ true → IsBlank gap → Stops is_name_byte (gap ++ x) → Stops is_blank x
    → behind_word (w ++ (gap ++ x)) ≡ x
unfolding behind_word
behind_word-append w gap x all blank stops begins =
    ap skip (behind_all is_name_byte w (gap ++ x) all stops) ∙ skip-append gap x blank begins

-- ---- the pieces of a text that was read

pub skip_split : (s : List ℕ) → (gap : List ℕ) × IsBlank gap × (s ≡ gap ++ skip s)
unfolding skip
skip_split s = (take (prefix_len is_blank s) s, front_passes is_blank s, sym (take-append-drop (prefix_len is_blank s) s))

pub word_split : (s : List ℕ) → (gap : List ℕ) × IsBlank gap × Stops is_name_byte (gap ++ behind_word s) × (s ≡ word s ++ (gap ++ behind_word s))
unfolding word behind_word
word_split s =
    let n = prefix_len is_name_byte s in
    let gap = skip_split (drop n s) in
    let P : List ℕ → Type 0 = Stops is_name_byte in
    (gap.0, gap.1, subst P gap.2 (behind_stops is_name_byte s), sym (take-append-drop n s) ∙ ap (λ x. take n s ++ x) gap.2)

pub mark_split : (mark : ℕ) (s x : List ℕ) → behind_mark mark s ≡ Some x → (gap : List ℕ) × IsBlank gap × (s ≡ mark ∷ (gap ++ x))
unfolding behind_mark
mark_split mark [] x e = absurd cc
mark_split mark (c ∷ s) x e =
    let gap = skip_split s in
    ⊎_elim
    (λ same. let h = rw same at e in let first = eqb-true c mark same in let here : skip s ≡ x = cc in
    (gap.0, gap.1, ap (λ b. b ∷ s) first ∙ ap (λ t. mark ∷ t) (gap.2 ∙ ap (λ t. gap.0 ++ t) here)))
    (λ other. let h = rw other at e in absurd cc) (cases_Bool (c == mark))
