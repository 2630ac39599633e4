-- The first line of an input.
use Rattle.std.proofs.Common.{◌≡◌, ℕ, ◌==◌, ◌<◌, ◌-◌, false, List, [], ◌∷◌, ◌++◌, length, take, drop, get_or, zero, suc, refl, sym, ap, ◌∙◌, ⊎_elim, arith}
use Rattle.std.proofs.lemmas.Bool.{cases_Bool, both_ways, false_from_ne_true, eqb-true}
use Rattle.std.proofs.lemmas.List.{get_or_read, length-drop, take_all}
use Rattle.wire_format.specs.Input.{NoEnd, bare, lines_of}
use Rattle.wire_format.proofs.ForCallers.{lines_of-empty, lines_of-last}
use Rattle.wire_lines.specs.Slicing.{ended}
use Rattle.wire_lines.specs.Taking.{first_line, numbered}
use Rattle.wire_lines.proofs.Begun.{NoEnd-tail}
use Rattle.wire_lines.proofs.Ended.{NoEnd-nothing}

NoEnd-more : (byte : ℕ) (line : List ℕ) → (byte == 10) ≡ false → NoEnd line → NoEnd (byte ∷ line)
NoEnd-more byte line other whole zero within = λ e. both_ways (byte == 10) other (rw e)
NoEnd-more byte line other whole (suc k) within = whole k (omega arith)

-- a line without its line feed has none
pub NoEnd-bare : (line : List ℕ) → NoEnd (bare line)
NoEnd-bare [] = NoEnd-nothing
NoEnd-bare (byte ∷ line) =
    let rest : NoEnd (bare line) = NoEnd-bare line in
    ⊎_elim (λ is. rw is rest) (λ other. rw other (NoEnd-more byte (bare line) other rest)) (cases_Bool (byte == 10))

no_end_first : (byte : ℕ) (line : List ℕ) → NoEnd (byte ∷ line) → (byte == 10) ≡ false
no_end_first byte line whole = false_from_ne_true _ (λ e. whole 0 (omega arith) (eqb-true byte 10 e))

-- of a whole line and what follows, and of a last line that lacks its line feed
pub first_line-ended : (line rest : List ℕ) → NoEnd line → first_line (line ++ 10 ∷ rest) ≡ line
unfolding first_line
first_line-ended [] rest whole = refl
first_line-ended (byte ∷ line) rest whole = rw (no_end_first byte line whole) (ap (λ l. byte ∷ l) (first_line-ended line rest (NoEnd-tail byte line whole)))

pub first_line-last : (line : List ℕ) → NoEnd line → first_line line ≡ line
unfolding first_line
first_line-last [] whole = refl
first_line-last (byte ∷ line) whole = rw (no_end_first byte line whole) (ap (λ l. byte ∷ l) (first_line-last line (NoEnd-tail byte line whole)))

-- a last line is the only one
pub only_line : (bytes : List ℕ) → NoEnd bytes → 0 < length bytes → lines_of bytes ≡ bytes ∷ lines_of []
only_line [] whole some = absurd (omega arith)
only_line (byte ∷ bytes) whole some = lines_of-last byte bytes whole ∙ ap (λ lines. (byte ∷ bytes) ∷ lines) (sym lines_of-empty)

-- the line of a command by its number
pub line-numbered : (input starts : List ℕ) (at number : ℕ) (line : List ℕ) → line ≡ first_line (take (length input - at) (drop at input))
    → at ≡ get_or starts number at → number < length starts → ended line ≡ numbered input starts number
line-numbered input starts at number line first is below =
    ap ended (first ∙ ap first_line (take_all (length input - at) (drop at input) (omega (arith, length-drop at input)))
    ∙ ap (λ place. first_line (drop place input)) (get_or_read starts number at below is 0))
