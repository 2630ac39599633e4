-- Which texts clap takes for a number of turns.
use Rattle.std.proofs.Common.{◌≡◌, ◌∙◌, ◌==◌, ◌&&◌, ◌≤◌, ◌<◌, ◌^◌, ℕ, zero, suc, pos, Bool, true, false, refl, sym, ap, subst, [], ◌∷◌, Option, Some, None, inl}
use Rattle.std.proofs.Common.{inr, arith, is_some, length, nat_le, nat_lt}
use Rattle.std.specs.Prelude.{Result, Ok, Err, int_le, neg_ℤ, if◌then◌else◌, unwrap_or}
use Rattle.std.specs.Char.{digit_value}
use Rattle.std.specs.List.{list_all}
use Rattle.std.specs.Str.Parse.{AllDigits, IsNumeral, ParsesUnsigned, digits_value, without_leading_plus}
use Rattle.std.proofs.lemmas.Bool.{and_parts, and_right, cases_Bool, eqb-true, leb-true, lt-ltb, ltb-true}
use Rattle.clap.specs.Lexer.{without_minus}
use Rattle.clap.specs.ValueTests.{accepts, is_numeral}
use Rattle.clap.specs.Words.{ReadsOne, Text}
use Rattle.clap.specs.declared.builder.value_parser.ValueParser.{ValueParser}
use Rattle.clap.specs.declared.builder.value_parser.ValueParser.TheVariants.{Signed}
use Rattle.command_line.specs.Asked.{Gives, number_in}
use Rattle.command_line.specs.declared.options.TheConstants.{DEFAULT_TURNS}

abbrev pub parser : ValueParser
parser = Signed (pos 1) (pos 1000000)

below_one : (n : ℕ) → int_le (pos 1) (neg_ℤ (pos n)) ≡ false
below_one zero = refl
below_one (suc n) = refl

none_below : (digits fits least most : Bool) → least ≡ false → (digits && (fits && (least && most))) ≡ false
none_below digits fits least most low = and_right digits _ (and_right fits _ (rw low refl))

in_range : (n : ℕ) (few : Bool) → nat_le n 1000000 ≡ few → (nat_lt n (2 ^ 63) && (nat_le 1 n && nat_le n 1000000)) ≡ (nat_le 1 n && nat_le n 1000000)
in_range n true few =
    let small : n ≤ 1000000 = leb-true n 1000000 few in
    let fits : nat_lt n (2 ^ 63) ≡ true = lt-ltb n (2 ^ 63) (omega arith) in
    rw fits refl
in_range n false many = rw (many, and_right (nat_le 1 n) false refl) (and_right (nat_lt n (2 ^ 63)) false refl)

is_number : (b : Bool) (n : ℕ) → b ≡ is_some (if b then Some n else None)
is_number true n = refl
is_number false n = refl

no_numeral : (rest : Text) → is_numeral (45 ∷ rest) ≡ false
no_numeral rest = and_right _ _ refl

pub no_number : (rest : Text) → number_in (45 ∷ rest) ≡ None
no_number rest = rw (no_numeral rest) refl

-- those that the definition reads as one
pub accepts-number : (text : Text) → accepts false parser text ≡ is_some (number_in text)
accepts-number [] = refl
accepts-number (byte ∷ rest) = elim (cases_Bool (byte == 45)) [
  | inl hyphen ↦ subst (λ b. accepts false parser (b ∷ rest) ≡ is_some (number_in (b ∷ rest))) (sym (eqb-true byte 45 hyphen))
      (none_below (is_numeral rest) _ _ _ (below_one (digits_value 10 rest)) ∙ ap (λ (o : Option ℕ). is_some o) (sym (no_number rest)))
  | inr other ↦
      let text = without_leading_plus (byte ∷ rest) in
      rw other (ap (λ b. is_numeral text && b) (in_range (digits_value 10 text) (nat_le (digits_value 10 text) 1000000) refl)
      ∙ is_number _ (digits_value 10 text))
]

-- a text that is one begins with no hyphen
pub number_plain : (text : Text) (number : ℕ) → number_in text ≡ Some number → without_minus text ≡ text
number_plain [] number is = refl
number_plain (byte ∷ rest) number is = elim (cases_Bool (byte == 45)) [
  | inl hyphen ↦
      let none : None ≡ Some number = sym (no_number rest) ∙ subst (λ b. number_in (b ∷ rest) ≡ Some number) (eqb-true byte 45 hyphen) is in
      cc
  | inr other ↦ rw other refl
]

digits_are : (digits : Text) → list_all (λ d. nat_lt (digit_value d) 10) digits ≡ true → AllDigits 10 digits
digits_are [] is = tt
digits_are (d ∷ rest) is =
    let parts = and_parts _ _ is in
    (ltb-true _ _ parts.0, digits_are rest parts.1)

-- the number is that of the digits
number_digits : (text : Text) (number : ℕ) → number_in text ≡ Some number
    → IsNumeral 10 (without_leading_plus text) × (digits_value 10 (without_leading_plus text) ≡ number) × (digits_value 10 (without_leading_plus text) < 2 ^ 32)
number_digits text number is = go (is_numeral digits && (nat_le 1 value && nat_le value 1000000)) refl is
  where
    digits : Text
    digits = without_leading_plus text

    value : ℕ
    value = digits_value 10 digits

    go : (b : Bool) → (is_numeral digits && (nat_le 1 value && nat_le value 1000000)) ≡ b → (if b then Some value else None) ≡ Some number
        → IsNumeral 10 digits × (value ≡ number) × (value < 2 ^ 32)
    go true holds is =
        let parts = and_parts (is_numeral digits) (nat_le 1 value && nat_le value 1000000) holds in
        let numeral = and_parts (nat_lt 0 (length digits)) (list_all (λ d. nat_lt (digit_value d) 10) digits) parts.0 in
        let few : value ≤ 1000000 = leb-true value 1000000 (and_parts (nat_le 1 value) (nat_le value 1000000) parts.1).1 in
        let small : value < 2 ^ 32 = omega arith in
        let same : value ≡ number = cc in
        ((ltb-true _ _ numeral.0, digits_are digits numeral.1), same, small)
    go false holds is = cc

-- what is read of the text for the turns is what the text gives
pub turns_read : {E : Type 0} (reads : Text → Result ℕ E → Type 0) (found : Option Text) (read : Option ℕ) (number : ℕ) → Gives found number
    → (found ≡ None → read ≡ None) → ((text : Text) → found ≡ Some text → ReadsOne reads text read)
    → ((text : Text) (result : Result ℕ E) → reads text result → ParsesUnsigned 32 10 text result)
    → unwrap_or read DEFAULT_TURNS ≡ number
turns_read reads None read number gives none value only = ap (λ (o : Option ℕ). unwrap_or o DEFAULT_TURNS) (none refl) ∙ sym gives
turns_read reads (Some text) (Some n) number gives none value only = (only text (Ok n) (value text refl)).1 ∙ (number_digits text number gives).1
turns_read reads (Some text) None number gives none value only =
    let refused = value text refl in
    let number = number_digits text number gives in
    absurd (only text (Err refused.0) refused.1 (number.0, number.2))

-- they are given once
pub gives_once : (found : Option Text) (a b : ℕ) → Gives found a → Gives found b → a ≡ b
gives_once None a b one other = one ∙ sym other
gives_once (Some text) a b one other = let same : Some a ≡ Some b = sym one ∙ other in cc
