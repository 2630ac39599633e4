-- The slice of an input as an input.
use Rattle.std.proofs.Common.{◌≡◌, ℕ, ◌<◌, Bool, false, cond, List, [], ◌∷◌, ◌++◌, length, map, filter, Option, Some, None, refl, sym, ap, ap₂, ◌∙◌, arith}
use Rattle.std.proofs.Common.{append_assoc}
use Rattle.std.specs.Prelude.{All, slice_index}
use Rattle.std.specs.List.{flat_map, filter_map, cons_option}
use Rattle.std.specs.Option.{option_map_or}
use Rattle.std.proofs.lemmas.List.{length-map}
use Rattle.std.proofs.lemmas.List.Elements.{All-nil, All-cons, All-head, All-tail, All-filter, filter_map-append}
use Rattle.isolation.specs.Machine.{Tagged}
use Rattle.isolation.specs.Pieces.{Given, Faulty, commands_of}
use Rattle.isolation.specs.Slice.{kept, slice}
use Rattle.isolation.specs.World.{at_session, world_lines}
use Rattle.isolation.proofs.ForCallers.{commands_of-append, told-piece_answers, kept-map, length-marks, slice_law}
use Rattle.server_world.specs.Noting.{marked_from}
use Rattle.session_model.specs.Asked.{Asked}
use Rattle.session_model.specs.Machine.{machine}
use Rattle.session_model.specs.Thread.{Settings}
use Rattle.session_model.proofs.ForCallers.{lawful}
use Rattle.wire_format.specs.Input.{NoEnd, Piece, bare, lines_of, piece_of, pieces_of, whole_lines}
use Rattle.wire_format.specs.Output.{World}
use Rattle.wire_format.proofs.ForCallers.{lines_of-empty, lines_of-line}
use Rattle.wire_lines.specs.Slicing.{IsToldAsSliced, command_lines, ended, is_command, is_given, kept_lines, sliced}
use Rattle.wire_lines.specs.Taking.{commands_in, line_at, numbered}
use Rattle.wire_lines.proofs.FirstLine.{NoEnd-bare}
use Rattle.wire_lines.proofs.Marked.{All-kept, marked-kept, marked-within}

-- the commands of an input are those of its lines
pub commands_in-lines : (bytes : List ℕ) → commands_of (pieces_of bytes) ≡ commands_in (lines_of bytes)
unfolding pieces_of
commands_in-lines bytes = refl

pub commands_in-append : (lines more : List (List ℕ)) → commands_in (lines ++ more) ≡ commands_in lines ++ commands_in more
commands_in-append lines more = ap commands_of (filter_map-append piece_of lines more)
    ∙ commands_of-append (filter_map piece_of lines) (filter_map piece_of more)

-- the piece of a line that is a command
abbrev as_piece : Tagged (List ℕ) Asked → Option Piece
as_piece t = Some (Given t)

by_piece : (line : List ℕ) (lines : List (List ℕ)) (piece : Option Piece) → piece_of line ≡ piece
    → map piece_of (filter is_command lines) ≡ map as_piece (commands_in lines) →
    map piece_of (cond (option_map_or is_given piece false) (line ∷ filter is_command lines) (filter is_command lines))
    ≡ map as_piece (commands_of (cons_option piece (filter_map piece_of lines)))
by_piece line lines None is rest = rest
by_piece line lines (Some (Given t)) is rest = ap₂ (λ x xs. x ∷ xs) is rest
by_piece line lines (Some (Faulty fault)) is rest = rest

-- the lines that are commands are read as the commands,
read-commands : (lines : List (List ℕ)) → map piece_of (filter is_command lines) ≡ map as_piece (commands_in lines)
unfolding is_command
read-commands [] = refl
read-commands (line ∷ lines) = by_piece line lines (piece_of line) refl (read-commands lines)

-- so there are as many,
pub count-commands : (lines : List (List ℕ)) → length (filter is_command lines) ≡ length (commands_in lines)
count-commands lines =
    let read = ap length (read-commands lines) in
    let before = length-map (filter is_command lines) piece_of in
    let behind = length-map (commands_in lines) as_piece in
    omega (arith, read, before, behind)

-- and lines that are read as some commands have them
commands-read : (lines : List (List ℕ)) (ts : List (Tagged (List ℕ) Asked)) → map piece_of lines ≡ map as_piece ts → commands_in lines ≡ ts
commands-read [] [] same = refl
commands-read [] (t ∷ ts) same = absurd (cc same)
commands-read (line ∷ lines) [] same = absurd (cc same)
commands-read (line ∷ lines) (t ∷ ts) same =
    let first : piece_of line ≡ as_piece t = cc same in
    let others : map piece_of lines ≡ map as_piece ts = cc same in
    rw first (ap (λ l. t ∷ l) (commands-read lines ts others))

-- the kept lines have the kept commands
commands-kept : (marks : List Bool) (lines : List (List ℕ)) → commands_in (kept marks (filter is_command lines)) ≡ kept marks (commands_in lines)
commands-kept marks lines =
    commands-read (kept marks (filter is_command lines)) (kept marks (commands_in lines))
    (sym (kept-map piece_of marks (filter is_command lines)) ∙ ap (kept marks) (read-commands lines) ∙ kept-map as_piece marks (commands_in lines))

-- lines with their line feeds are cut into the same lines
lines_of-ended : (lines : List (List ℕ)) → All NoEnd lines → lines_of (flat_map ended lines) ≡ lines
lines_of-ended [] whole = lines_of-empty
lines_of-ended (line ∷ lines) whole =
    ap lines_of (append_assoc line (10 ∷ []) (flat_map ended lines))
    ∙ lines_of-line line (flat_map ended lines) (All-head NoEnd line lines whole)
    ∙ ap (λ l. line ∷ l) (lines_of-ended lines (All-tail NoEnd line lines whole))

lines-bare : (lines : List (List ℕ)) → All NoEnd (map bare lines)
lines-bare [] = All-nil NoEnd
lines-bare (line ∷ lines) = All-cons NoEnd (bare line) (map bare lines) (NoEnd-bare line) (lines-bare lines)

lines-whole : (bytes : List ℕ) → All NoEnd (lines_of bytes)
unfolding lines_of
lines-whole bytes = lines-bare (whole_lines bytes)

-- so the commands of the slice as an input are those that the slice keeps
commands-sliced : (settings : Settings) (world : World) (s bytes : List ℕ) →
    commands_of (pieces_of (sliced settings world s bytes)) ≡ kept (slice (machine settings) s world (commands_of (pieces_of bytes))).marks
    (commands_of (pieces_of bytes))
unfolding sliced
commands-sliced settings world s bytes =
    let marks = (slice (machine settings) s world (commands_of (pieces_of bytes))).marks in
    let whole = All-kept NoEnd marks (command_lines bytes) (All-filter is_command NoEnd (lines_of bytes) (lines-whole bytes)) in
    commands_in-lines (flat_map ended (kept_lines settings world s bytes))
    ∙ ap commands_in (lines_of-ended (kept_lines settings world s bytes) whole)
    ∙ commands-kept marks (lines_of bytes)
    ∙ ap (kept marks) (sym (commands_in-lines bytes))

-- and s is told the same
pub told_as_sliced : (settings : Settings) (world : World) (s bytes : List ℕ) → IsToldAsSliced settings world s bytes
told_as_sliced settings world s bytes =
    let m = machine settings in
    let said = λ (ts : List (Tagged (List ℕ) Asked)). at_session m s ts (world_lines m world ts) in
    told-piece_answers m s world (pieces_of (sliced settings world s bytes))
    ∙ ap said (commands-sliced settings world s bytes)
    ∙ (slice_law m (lawful settings) s world (commands_of (pieces_of bytes))).lines
    ∙ sym (told-piece_answers m s world (pieces_of bytes))

flat_map-map : {A B C : Type 0} (f : A → B) (g : B → List C) (xs : List A) → flat_map g (map f xs) ≡ flat_map (λ x. g (f x)) xs
flat_map-map f g [] = refl
flat_map-map f g (x ∷ xs) = ap (λ l. g (f x) ++ l) (flat_map-map f g xs)

-- where the lines of the commands begin, the numbers of the kept ones tell the slice
module _ (settings : Settings) (world : World) (s bytes starts : List ℕ) (begins : map (line_at bytes) starts ≡ command_lines bytes) where
  marks : List Bool
  marks = (slice (machine settings) s world (commands_of (pieces_of bytes))).marks

  as_many : length marks ≡ length starts
  unfolding marks
  as_many =
      let all = length-marks (machine settings) s world (commands_of (pieces_of bytes)) ∙ ap length (commands_in-lines bytes) in
      let lines = count-commands (lines_of bytes) in
      let started = sym (length-map starts (line_at bytes)) ∙ ap length begins in
      omega (arith, all, lines, started)

  pub numbers-within : (numbers : List ℕ) → numbers ≡ marked_from 0 (slice (machine settings) s world (commands_of (pieces_of bytes))).marks
      → All (λ number. number < length starts) numbers
  unfolding marks
  numbers-within numbers is = rw is (marked-within 0 (length starts) marks (omega (arith, as_many)))

  pub numbers-text : (numbers : List ℕ) → numbers ≡ marked_from 0 (slice (machine settings) s world (commands_of (pieces_of bytes))).marks
      → flat_map (numbered bytes starts) numbers ≡ sliced settings world s bytes
  unfolding marks sliced
  numbers-text numbers is =
      ap (flat_map (numbered bytes starts)) is
      ∙ sym (flat_map-map (λ number. line_at bytes (slice_index starts number)) ended (marked_from 0 marks))
      ∙ ap (flat_map ended) (marked-kept (line_at bytes) 0 marks [] starts (omega (arith, as_many)) ∙ ap (kept marks) begins)
