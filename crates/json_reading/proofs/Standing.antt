-- Where texts stand in a text.
use Rattle.std.proofs.Common.{◌≡◌, ℕ, suc, ◌+◌, ◌-◌, ◌^◌, ◌<◌, ◌≤◌, Bool, true, false, cond, ◌||◌, ◌==◌, List, [], ◌∷◌, ◌++◌, length, take, drop, get_or}
use Rattle.std.proofs.Common.{decimal, refl, sym, ap, ◌∙◌, arith, append_assoc, lt_of_not-le}
use Rattle.std.proofs.lemmas.Bool.{eqb-false, ltb-false, or_parts, not-true}
use Rattle.std.proofs.lemmas.List.{drop_more, drop-drop, take-append-drop, length-take-le, get_or_past}
use Rattle.std.proofs.lemmas.Fmt.{decimal-digits_value}
use Rattle.std.proofs.lemmas.Str.Parse.{numerals_by_value, tells_digits}
use Rattle.std.specs.List.{prefix_len}
use Rattle.std.specs.Str.Parse.{AllDigits, digits_value}
use Rattle.json.specs.Run.{is_plain}
use Rattle.json.specs.Print.{escape, quoted}
use Rattle.json.proofs.Printed.Strings.{escape_byte_plain}
use Rattle.json_reading.specs.Spelling.{StandsAt}

pub there_is : (d : List ℕ) (i c : ℕ) → get_or d i 0 ≡ c → 0 < c → i < length d
there_is d i c e some = lt_of_not-le (λ h. omega (arith, get_or_past d i 0 h))

-- one byte stands at its place
pub byte_stands : (d : List ℕ) (i c : ℕ) → get_or d i 0 ≡ c → 0 < c → StandsAt d i (c ∷ []) (i + 1)
byte_stands d i c e some =
    let inside = there_is d i c e some in
    record { text = drop_more d i 0 inside ∙ ap (λ x. x ∷ drop (i + 1) d) e; later = omega arith; within = omega arith }

-- ---- a text without escapes

plain_byte : (p : Bool) (x n : ℕ) (xs : List ℕ) → p ≡ is_plain x → escape (take n xs) ≡ take n xs
    → escape (take (cond p (1 + n) 0) (x ∷ xs)) ≡ take (cond p (1 + n) 0) (x ∷ xs)
plain_byte false x n xs e ih = refl
plain_byte true x n xs e ih =
    let next : 1 + n ≡ suc n = omega arith in
    let none = or_parts ((x == 34) || (x == 92)) _ (not-true _ (sym e)) in
    let tests = or_parts (x == 34) _ none.0 in
    ap (λ k. escape (take k (x ∷ xs))) next
    ∙ (λ i. escape_byte_plain x (eqb-false x 34 tests.0) (eqb-false x 92 tests.1) (ltb-false x 32 none.1) i ++ ih i)
    ∙ ap (λ k. take k (x ∷ xs)) (sym next)

escape_plain : (xs : List ℕ) → escape (take (prefix_len is_plain xs) xs) ≡ take (prefix_len is_plain xs) xs
escape_plain [] = refl
escape_plain (x ∷ xs) = plain_byte (is_plain x) x (prefix_len is_plain xs) xs refl (escape_plain xs)

-- plain bytes stand for themselves
plain_stands : (d : List ℕ) (i j : ℕ) → j ≡ i + prefix_len is_plain (drop i d) → drop i d ≡ escape (take (j - i) (drop i d)) ++ drop j d
plain_stands d i j is =
    let n : prefix_len is_plain (drop i d) ≡ j - i = omega arith in
    let whole = take-append-drop (prefix_len is_plain (drop i d)) (drop i d) in
    sym whole ∙ ap (λ l. l ++ drop (prefix_len is_plain (drop i d)) (drop i d)) (sym (escape_plain (drop i d)))
    ∙ ap (λ l. escape (take (prefix_len is_plain (drop i d)) (drop i d)) ++ l) (drop-drop (prefix_len is_plain (drop i d)) i d ∙ ap (λ k. drop k d) (sym is))
    ∙ ap (λ k. escape (take k (drop i d)) ++ drop j d) n

pub text_stands : (d : List ℕ) (i j : ℕ) → get_or d i 0 ≡ 34 → j ≡ i + 1 + prefix_len is_plain (drop (i + 1) d) → get_or d j 0 ≡ 34
    → StandsAt d i (quoted (take (j - (i + 1)) (drop (i + 1) d))) (j + 1)
text_stands d i j first is last =
    let opening = byte_stands d i 34 first (omega arith) in
    let closing = byte_stands d j 34 last (omega arith) in
    let s = escape (take (j - (i + 1)) (drop (i + 1) d)) in
    record {
      text = opening.text ∙ ap (λ l. 34 ∷ l) (plain_stands d (i + 1) j is ∙ ap (λ l. s ++ l) closing.text ∙ sym (append_assoc s (34 ∷ []) (drop (j + 1) d)));
      later = omega arith;
      within = closing.within;
    }

-- ---- a number

pub number_stands : (d : List ℕ) (n end : ℕ) → AllDigits 10 (take end d) → n ≡ digits_value 10 (take end d) → 0 < end → end ≤ length d → n < 2 ^ 64
    → (get_or (take end d) 0 0 ≡ 48 → end ≡ 1) → StandsAt d 0 (decimal n) end
number_stands d n end digits is some within small alone =
    let ds = take end d in
    let long = length-take-le end d within in
    let same : decimal (digits_value 10 ds) ≡ ds = decimal-digits_value (numerals_by_value (AllDigits 10) tells_digits) ds digits (omega arith)
    (λ e. long ∙ alone e) (omega arith) in
    record { text = sym (take-append-drop end d) ∙ ap (λ l. l ++ drop end d) (sym same ∙ ap decimal (sym is)); later = some; within = within }
