-- How the lines of an input follow from its front.
use Rattle.std.proofs.Common.{◌≡◌, ℕ, ◌<◌, cond, not, List, [], ◌∷◌, ◌++◌, length, map, suc, refl, ap, ◌∙◌, arith}
use Rattle.std.specs.Prelude.{◌≢◌}
use Rattle.std.proofs.lemmas.Bool.{ne_eqb}
use Rattle.wire_format.specs.Input.{in_front, whole_lines, bare, lines_of, NoEnd}

-- bytes without a line feed in front of the lines that follow
abbrev pub with_front : List ℕ → List (List ℕ) → List (List ℕ)
with_front front [] = front ∷ []
with_front front (line ∷ lines) = (front ++ line) ∷ lines

bare-byte : (byte : ℕ) (line : List ℕ) → byte ≢ 10 → bare (byte ∷ line) ≡ byte ∷ bare line
bare-byte byte line other = ap (λ b. cond (not b) (byte ∷ bare line) (bare line)) (ne_eqb byte 10 other)

bare-in_front : (byte : ℕ) (lines : List (List ℕ)) → byte ≢ 10 → map bare (in_front byte lines) ≡ in_front byte (map bare lines)
bare-in_front byte [] other = ap (λ l. l ∷ []) (bare-byte byte [] other)
bare-in_front byte (line ∷ lines) other = ap (λ l. l ∷ map bare lines) (bare-byte byte line other)

-- any other byte begins the next line
pub lines_of-byte : (byte : ℕ) (rest : List ℕ) → byte ≢ 10 → lines_of (byte ∷ rest) ≡ in_front byte (lines_of rest)
unfolding whole_lines lines_of
lines_of-byte byte rest other =
    ap (λ b. map bare (cond b ((byte ∷ []) ∷ whole_lines rest) (in_front byte (whole_lines rest)))) (ne_eqb byte 10 other)
    ∙ bare-in_front byte (whole_lines rest) other

in_front-with_front : (byte next : ℕ) (front : List ℕ) (lines : List (List ℕ))
    → in_front byte (with_front (next ∷ front) lines) ≡ with_front (byte ∷ next ∷ front) lines
in_front-with_front byte next front [] = refl
in_front-with_front byte next front (line ∷ lines) = refl

in_front-is : (byte : ℕ) (lines : List (List ℕ)) → in_front byte lines ≡ with_front (byte ∷ []) lines
in_front-is byte [] = refl
in_front-is byte (line ∷ lines) = refl

pub NoEnd-tail : (byte : ℕ) (front : List ℕ) → NoEnd (byte ∷ front) → NoEnd front
NoEnd-tail byte front no_end k below = no_end (suc k) (omega arith)

-- some bytes without a line feed begin the next line
pub lines_of-begun : (front rest : List ℕ) → NoEnd front → 0 < length front → lines_of (front ++ rest) ≡ with_front front (lines_of rest)
lines_of-begun [] rest no_end some = absurd (omega arith)
lines_of-begun (byte ∷ []) rest no_end some = lines_of-byte byte rest (no_end 0 (omega arith)) ∙ in_front-is byte (lines_of rest)
lines_of-begun (byte ∷ next ∷ front) rest no_end some =
    lines_of-byte byte (next ∷ front ++ rest) (no_end 0 (omega arith))
    ∙ ap (in_front byte) (lines_of-begun (next ∷ front) rest (NoEnd-tail byte (next ∷ front) no_end) (omega arith))
    ∙ in_front-with_front byte next front (lines_of rest)
