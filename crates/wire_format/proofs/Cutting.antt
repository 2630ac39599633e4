-- An input cut into lines, and the pieces that the lines are.
use Rattle.std.proofs.Common.{◌≡◌, ◌<◌, ◌==◌, ℕ, suc, true, false, List, [], ◌∷◌, ◌++◌, length, map, Some, None, Ok, Err, refl, ap, arith}
use Rattle.std.proofs.lemmas.Bool.{false_from_ne_true, eqb-true, lt-leb}
use Rattle.isolation.specs.Machine.{Tagged}
use Rattle.isolation.specs.Pieces.{Given, Faulty}
use Rattle.session_model.specs.Asked.{Asked}
use Rattle.wire_format.specs.declared.line.TheConstants.{LINE_BYTES}
use Rattle.wire_format.specs.declared.fault.LineFault.{LineFault}
use Rattle.wire_format.specs.Command.{command_of, json_in, is_blank, unreadable}
use Rattle.wire_format.specs.Input.{NoEnd, in_front, whole_lines, bare, lines_of, piece_of}

no_end_first : (byte : ℕ) (line : List ℕ) → NoEnd (byte ∷ line) → (byte == 10) ≡ false
no_end_first byte line whole = false_from_ne_true _ (λ e. whole 0 (omega arith) (eqb-true byte 10 e))

no_end_rest : (byte : ℕ) (line : List ℕ) → NoEnd (byte ∷ line) → NoEnd line
no_end_rest byte line whole = λ k within. whole (suc k) (omega arith)

-- a whole line, and the lines behind it
pub whole_lines-line : (line rest : List ℕ) → NoEnd line → whole_lines (line ++ 10 ∷ rest) ≡ (line ++ 10 ∷ []) ∷ whole_lines rest
unfolding whole_lines
whole_lines-line [] rest whole = refl
whole_lines-line (byte ∷ line) rest whole =
    rw (no_end_first byte line whole) (ap (in_front byte) (whole_lines-line line rest (no_end_rest byte line whole)))

-- a last line without a line feed
pub whole_lines-last : (byte : ℕ) (line : List ℕ) → NoEnd (byte ∷ line) → whole_lines (byte ∷ line) ≡ (byte ∷ line) ∷ []
unfolding whole_lines
whole_lines-last byte [] whole = rw (no_end_first byte [] whole)
whole_lines-last byte (next ∷ line) whole =
    rw (no_end_first byte (next ∷ line) whole) (ap (in_front byte) (whole_lines-last next line (no_end_rest byte (next ∷ line) whole)))

pub bare-line : (line : List ℕ) → NoEnd line → bare (line ++ 10 ∷ []) ≡ line
bare-line [] whole = refl
bare-line (byte ∷ line) whole = rw (no_end_first byte line whole) (ap (λ more. byte ∷ more) (bare-line line (no_end_rest byte line whole)))

pub bare-last : (line : List ℕ) → NoEnd line → bare line ≡ line
bare-last [] whole = refl
bare-last (byte ∷ line) whole = rw (no_end_first byte line whole) (ap (λ more. byte ∷ more) (bare-last line (no_end_rest byte line whole)))

-- the lines of nothing, of a line and what stands behind it, and of a last line without a line feed
pub lines_of-empty : lines_of [] ≡ []
unfolding lines_of whole_lines
lines_of-empty = refl

pub lines_of-line : (line rest : List ℕ) → NoEnd line → lines_of (line ++ 10 ∷ rest) ≡ line ∷ lines_of rest
unfolding lines_of
lines_of-line line rest whole = rw (whole_lines-line line rest whole) (ap (λ first. first ∷ map bare (whole_lines rest)) (bare-line line whole))

pub lines_of-last : (byte : ℕ) (line : List ℕ) → NoEnd (byte ∷ line) → lines_of (byte ∷ line) ≡ (byte ∷ line) ∷ []
unfolding lines_of
lines_of-last byte line whole = rw (whole_lines-last byte line whole) (ap (λ first. first ∷ []) (bare-last (byte ∷ line) whole))

-- the piece that a line is
pub piece_of-blank : (line : List ℕ) → is_blank line ≡ true → piece_of line ≡ None
unfolding piece_of
piece_of-blank line blank = rw blank

pub piece_of-given : (line : List ℕ) (given : Tagged (List ℕ) Asked) → is_blank line ≡ false → command_of line ≡ Ok given → piece_of line ≡ Some (Given given)
unfolding piece_of
piece_of-given line given more e = rw (more, e)

pub piece_of-faulty : (line : List ℕ) (fault : LineFault) → is_blank line ≡ false → command_of line ≡ Err fault → piece_of line ≡ Some (Faulty fault)
unfolding piece_of
piece_of-faulty line fault more e = rw (more, e)

-- a line that is too long, whatever it holds
pub piece_of-too_long : (line : List ℕ) → LINE_BYTES < length line → piece_of line ≡ Some (Faulty unreadable)
unfolding piece_of is_blank command_of json_in
piece_of-too_long line long = rw (lt-leb (length line) LINE_BYTES long)
