-- Lines that are too long are answered alike, whatever they hold, so that most of their bytes may be passed over.
use Rattle.std.proofs.Common.{◌≡◌, ℕ, ◌-◌, ◌<◌, ◌≤◌, List, [], ◌∷◌, ◌++◌, length, map, take, refl, sym, ap, ◌∙◌, arith, ⊎_elim, length-append}
use Rattle.std.proofs.Math.ListN.{get_or-append}
use Rattle.std.proofs.lemmas.List.{take_all, length-take, length-take-le, get_or-take, get_or-append_right}
use Rattle.std.proofs.lemmas.Bool.{cases_lt}
use Rattle.wire_format.specs.declared.line.TheConstants.{LINE_BYTES}
use Rattle.wire_format.specs.Input.{lines_of, piece_of, NoEnd}
use Rattle.wire_format.proofs.ForCallers.{piece_of-too_long}
use Rattle.wire_lines.specs.Steps.{read_lines}
use Rattle.wire_lines.proofs.Begun.{with_front, lines_of-begun}

-- two of them are one piece
pub piece_of-long : (a b : List ℕ) → LINE_BYTES < length a → LINE_BYTES < length b → piece_of a ≡ piece_of b
piece_of-long a b long_a long_b = piece_of-too_long a long_a ∙ sym (piece_of-too_long b long_b)

-- lines as pieces, where the first begins with too many bytes
pieces-long : (a b : List ℕ) (lines : List (List ℕ)) → LINE_BYTES < length a → LINE_BYTES < length b
    → map piece_of (with_front a lines) ≡ map piece_of (with_front b lines)
pieces-long a b [] long_a long_b = ap (λ p. p ∷ []) (piece_of-long a b long_a long_b)
pieces-long a b (line ∷ lines) long_a long_b =
    ap (λ p. p ∷ map piece_of lines)
    (piece_of-long (a ++ line) (b ++ line) (omega (arith, length-append a line)) (omega (arith, length-append b line)))

pub NoEnd-take : (n : ℕ) (bytes : List ℕ) → NoEnd bytes → NoEnd (take n bytes)
NoEnd-take n bytes no_end k below feed =
    let lengths = length-take n bytes in
    let before : k < n = omega arith in
    let within : k < length bytes = omega arith in
    no_end k within (sym (get_or-take n bytes k 0 before) ∙ feed)

pub NoEnd-append : (a b : List ℕ) → NoEnd a → NoEnd b → NoEnd (a ++ b)
NoEnd-append a b first second k below feed =
    let lengths = length-append a b in
    ⊎_elim
    (λ (before : k < length a). first k before (sym (get_or-append a b 0 k before) ∙ feed))
    (λ (behind : length a ≤ k).
    let within : k - length a < length b = omega arith in
    second (k - length a) within (sym (get_or-append_right a b (length a) k 0 refl behind) ∙ feed))
    (cases_lt k (length a))

-- the front that is kept of a line gives the same pieces
pub read_lines-kept : (n : ℕ) (front rest : List ℕ) → NoEnd front → LINE_BYTES < n → read_lines (front ++ rest) ≡ read_lines (take n front ++ rest)
read_lines-kept n front rest no_end large = ⊎_elim
    (λ (long : n < length front).
    let kept : length (take n front) ≡ n = length-take-le n front (omega arith) in
    ap (map piece_of) (lines_of-begun front rest no_end (omega arith))
    ∙ pieces-long front (take n front) (lines_of rest) (omega arith) (omega arith)
    ∙ ap (map piece_of) (sym (lines_of-begun (take n front) rest (NoEnd-take n front no_end) (omega arith))))
    (λ (short : length front ≤ n). ap (λ f. read_lines (f ++ rest)) (sym (take_all n front short)))
    (cases_lt n (length front))
