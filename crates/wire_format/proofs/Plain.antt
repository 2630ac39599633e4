-- Texts in which JSON escapes nothing.
use Rattle.std.proofs.Common.{◌≡◌, ◌<◌, ◌≤◌, ◌==◌, ◌&&◌, not, ℕ, suc, Bool, true, false, List, [], ◌∷◌, ◌++◌, IsTrue, bytes_eq, codes, leb, ltb, drop, refl}
use Rattle.std.proofs.Common.{sym, ap, ◌∙◌, ⊎_elim, lit<, arith}
use Rattle.std.specs.List.{list_all}
use Rattle.std.proofs.lemmas.Bool.{and_parts, and_from, or_left, or_cases, leb-true, lt-leb}
use Rattle.std.proofs.lemmas.Bool.Decides.{nat_tests}
use Rattle.std.proofs.lemmas.Slice.Eq.{bytes_eq-Decides}
use Rattle.serde_json.specs.Data.{string}
use Rattle.serde_json.specs.Written.{compact_text}
use Rattle.serde_json.proofs.OnLiterals.{serde_json_on_literals}
use Rattle.plain_types.specs.Names.{is_name_start, is_name_byte, is_name}
use Rattle.plain_types.specs.declared.code.Code.{Code}
use Rattle.plain_types.specs.declared.code.Code.TheVariants.{UnreadableLine, NotACommand, NoSuchClass, NoSuchObject, NoSuchMethod, BadSignature, DoesNotFit}
use Rattle.plain_types.specs.declared.code.Code.TheVariants.{ConnectedAlready, UniqueFunctor, NoSuchFunctor, NoSuchProperty, Cycle, Dying, Limit, NameTaken}
use Rattle.plain_types.specs.declared.code.Code.TheVariants.{OwnSession, NoGroup, NotBindable, NumbersUsedUp, SessionFailed, OutOfMemory, BadValue, TurnsUsedUp}
use Rattle.plain_types.specs.Codes.{code_text}
use Rattle.binding_values.specs.declared.property.BindingError.{BindingError}
use Rattle.binding_values.specs.declared.property.BindingError.TheVariants.{BindingLoop, EvaluationError}
use Rattle.wire_format.specs.Json.{error_name}
use Rattle.wire_format.specs.Text.{is_plain_byte, is_session_text}

-- what a plain byte is not
record Plain (x : ℕ) : Type 0 where
  pub high : ltb x 32 ≡ false
  pub quote : (x == 34) ≡ false
  pub slash : (x == 92) ≡ false
  pub back : (x == 8) ≡ false
  pub feed : (x == 12) ≡ false
  pub line : (x == 10) ≡ false
  pub carriage : (x == 13) ≡ false
  pub tab : (x == 9) ≡ false

not_low : (x n : ℕ) → 32 ≤ x → n < 32 → (x == n) ≡ false
not_low x n h l = grind (arith, nat_tests)

turned : (b : Bool) → not b ≡ true → b ≡ false
turned true h = sym h
turned false h = refl

plain_tells : (x : ℕ) → is_plain_byte x ≡ true → Plain x
plain_tells x h =
    let parts = and_parts (leb 32 x && not (x == 34)) (not (x == 92)) h in
    let first = and_parts (leb 32 x) (not (x == 34)) parts.0 in
    let least : 32 ≤ x = leb-true 32 x first.0 in
    record {
      high = lt-leb (suc x) 32 (omega arith);
      quote = turned _ first.1;
      slash = turned _ parts.1;
      back = not_low x 8 least (lit< tt);
      feed = not_low x 12 least (lit< tt);
      line = not_low x 10 least (lit< tt);
      carriage = not_low x 13 least (lit< tt);
      tab = not_low x 9 least (lit< tt);
    }

-- the text between quotes behind the first
behind : List ℕ → List ℕ
behind s = drop 1 (compact_text (string s))

behind-nothing : behind [] ≡ 34 ∷ []
unfolding behind
behind-nothing = refl

behind-plain : (x : ℕ) (s : List ℕ) → Plain x → behind (x ∷ s) ≡ x ∷ behind s
unfolding behind serde_json_on_literals
behind-plain x s p = rw (p.quote, p.slash, p.back, p.feed, p.line, p.carriage, p.tab, p.high)

behind-all_plain : (s : List ℕ) → list_all is_plain_byte s ≡ true → behind s ≡ s ++ 34 ∷ []
behind-all_plain [] h = behind-nothing
behind-all_plain (x ∷ s) h =
    let parts = and_parts (is_plain_byte x) (list_all is_plain_byte s) h in
    behind-plain x s (plain_tells x parts.0) ∙ ap (λ rest. x ∷ rest) (behind-all_plain s parts.1)

between_quotes : (s : List ℕ) → compact_text (string s) ≡ 34 ∷ behind s
unfolding behind
between_quotes s = refl

-- a text in which JSON escapes nothing stands as it is between quotes
pub text_of_plain : (s : List ℕ) → list_all is_plain_byte s ≡ true → compact_text (string s) ≡ 34 ∷ (s ++ 34 ∷ [])
text_of_plain s h = between_quotes s ∙ ap (λ rest. 34 ∷ rest) (behind-all_plain s h)

-- the codes are such texts
pub code_is_plain : (code : Code) → list_all is_plain_byte (code_text code) ≡ true
code_is_plain UnreadableLine = refl
code_is_plain NotACommand = refl
code_is_plain NoSuchClass = refl
code_is_plain NoSuchObject = refl
code_is_plain NoSuchMethod = refl
code_is_plain BadSignature = refl
code_is_plain DoesNotFit = refl
code_is_plain ConnectedAlready = refl
code_is_plain UniqueFunctor = refl
code_is_plain NoSuchFunctor = refl
code_is_plain NoSuchProperty = refl
code_is_plain Cycle = refl
code_is_plain Dying = refl
code_is_plain Limit = refl
code_is_plain NameTaken = refl
code_is_plain OwnSession = refl
code_is_plain NoGroup = refl
code_is_plain NotBindable = refl
code_is_plain NumbersUsedUp = refl
code_is_plain SessionFailed = refl
code_is_plain OutOfMemory = refl
code_is_plain BadValue = refl
code_is_plain TurnsUsedUp = refl

-- so are the names of errors
pub error_is_plain : (error : BindingError) → list_all is_plain_byte (error_name error) ≡ true
error_is_plain BindingLoop = refl
error_is_plain EvaluationError = refl

-- and all other names
name_byte_is_plain : (x : ℕ) → is_name_byte x ≡ true → is_plain_byte x ≡ true
name_byte_is_plain x h = grind (arith, nat_tests)

name_bytes_are_plain : (s : List ℕ) → list_all is_name_byte s ≡ true → list_all is_plain_byte s ≡ true
name_bytes_are_plain [] h = refl
name_bytes_are_plain (x ∷ s) h =
    let parts = and_parts (is_name_byte x) (list_all is_name_byte s) h in
    and_from _ _ (name_byte_is_plain x parts.0) (name_bytes_are_plain s parts.1)

name_is_plain : (s : List ℕ) → is_name s ≡ true → list_all is_plain_byte s ≡ true
name_is_plain [] h = refl
name_is_plain (x ∷ s) h =
    let parts = and_parts (is_name_start x && list_all is_name_byte s) _ h in
    let first = and_parts (is_name_start x) (list_all is_name_byte s) parts.0 in
    and_from _ _ (name_byte_is_plain x (or_left _ _ first.0)) (name_bytes_are_plain s first.1)

-- and what a line names as its session
pub session_is_plain : (s : List ℕ) → IsTrue (is_session_text s) → list_all is_plain_byte s ≡ true
session_is_plain s h = ⊎_elim (λ named. name_is_plain s named) (λ none. ap (list_all is_plain_byte) ((bytes_eq-Decides s (codes "-")).0 none))
    (or_cases (is_name s) (bytes_eq s (codes "-")) h)
