-- How many lines end in some bytes, and that a step counts those that end in what it has read.
use Rattle.std.proofs.Common.{◌≡◌, ℕ, ◌+◌, ◌<◌, ◌==◌, List, [], ◌∷◌, ◌++◌, length, length-append, refl, ap, ◌∙◌, arith, ⊎_elim}
use Rattle.std.specs.Prelude.{◌≢◌, filter}
use Rattle.std.proofs.lemmas.List.{length-map}
use Rattle.std.proofs.lemmas.Bool.{ne_eqb, cases_eq}
use Rattle.wire_format.specs.Input.{in_front, lines_of, piece_of, NoEnd}
use Rattle.wire_format.proofs.ForCallers.{lines_of-empty, lines_of-line}
use Rattle.wire_lines.specs.Run.{line_ends}
use Rattle.wire_lines.specs.Steps.{read_lines}
use Rattle.wire_lines.specs.Stream.{Point, Fed}
use Rattle.wire_lines.proofs.Begun.{lines_of-byte}

length-in_front : (byte : ℕ) (lines : List (List ℕ)) → 0 < length lines → length (in_front byte lines) ≡ length lines
length-in_front byte [] some = absurd (omega arith)
length-in_front byte (line ∷ lines) some = refl

pub NoEnd-nothing : NoEnd []
NoEnd-nothing k below = absurd (omega arith)

-- with a line feed behind them, they have a line more than lines that end in them
pub lines-ended : (bytes : List ℕ) → length (lines_of (bytes ++ 10 ∷ [])) ≡ line_ends bytes + 1
lines-ended [] = ap length (lines_of-line [] [] NoEnd-nothing) ∙ ap (λ l. length ([] ∷ l)) lines_of-empty
lines-ended (byte ∷ bytes) = ⊎_elim
    (λ (is : byte ≡ 10).
    let more = lines-ended bytes in
    let first : lines_of (byte ∷ (bytes ++ 10 ∷ [])) ≡ [] ∷ lines_of (bytes ++ 10 ∷ []) = ap (λ b. lines_of (b ∷ (bytes ++ 10 ∷ []))) is
    ∙ lines_of-line [] (bytes ++ 10 ∷ []) NoEnd-nothing in
    let counts = ap length first in
    let ends : line_ends (byte ∷ bytes) ≡ length (10 ∷ filter (λ byte. byte == 10) bytes) = ap (λ b. line_ends (b ∷ bytes)) is in
    omega (arith, counts, more, ends))
    (λ (other : byte ≢ 10).
    let more = lines-ended bytes in
    let first = ap length (lines_of-byte byte (bytes ++ 10 ∷ []) other) ∙ length-in_front byte (lines_of (bytes ++ 10 ∷ [])) (omega (arith, more)) in
    let ends : line_ends (byte ∷ bytes) ≡ line_ends bytes = rw (ne_eqb byte 10 other) refl in
    omega (arith, first, more, ends))
    (cases_eq byte 10)

-- a step that has not begun a further line counts the lines that end in what it has read
pub Fed-ends : (a b : Point) → Fed a b → NoEnd b.begun → b.lines ≡ a.lines + line_ends a.begun
Fed-ends a b fed no_end =
    let before = length-map (lines_of (a.begun ++ 10 ∷ [])) piece_of ∙ lines-ended a.begun in
    let behind = length-map (lines_of (b.begun ++ 10 ∷ [])) piece_of ∙ ap length (lines_of-line b.begun [] no_end ∙ ap (λ l. b.begun ∷ l) lines_of-empty) in
    let parts = ap length (fed.reads (10 ∷ [])) ∙ length-append fed.lines (read_lines (b.begun ++ 10 ∷ [])) in
    omega (arith, before, behind, parts, fed.counted)
