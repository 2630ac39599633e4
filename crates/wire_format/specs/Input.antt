-- An input in lines.
use Rattle.std.specs.Prelude.{◌≢◌, ◌<◌, ◌==◌, ℕ, Bool, true, not, List, [], ◌∷◌, length, map, filter}
use Rattle.std.specs.Prelude.{slice_index, if◌then◌else◌, Option, Some, None, Result, Ok, Err}
use Rattle.std.specs.List.{filter_map, flat_map}
use Rattle.std.specs.Option.{option_map_or}
use Rattle.isolation.specs.Machine.{Tagged}
use Rattle.isolation.specs.Pieces as pieces
use Rattle.isolation.specs.Pieces.{Given, Faulty, piece_passes}
use Rattle.session_model.specs.Asked.{Asked}
use Rattle.wire_format.specs.declared.fault.LineFault.{LineFault}
use Rattle.wire_format.specs.Command.{command_of, is_blank}

-- A piece of an input: a command of a session, or a fault.
abbrev pub Piece : Type 0
Piece = pieces.Piece (List ℕ) Asked LineFault

-- Lines with another byte before the first of them.
abbrev pub in_front : ℕ → List (List ℕ) → List (List ℕ)
in_front byte [] = (byte ∷ []) ∷ []
in_front byte (line ∷ lines) = (byte ∷ line) ∷ lines

-- The lines, unchanged. Each ends with its line feed, which the last one may lack.
unfoldable pub whole_lines : List ℕ → List (List ℕ)
whole_lines [] = []
whole_lines (byte ∷ rest) = if byte == 10 then (byte ∷ []) ∷ whole_lines rest else in_front byte (whole_lines rest)

-- A line without its line feed.
abbrev pub bare : List ℕ → List ℕ
bare line = filter (λ byte. not (byte == 10)) line

-- The lines without their line feeds.
unfoldable pub lines_of : List ℕ → List (List ℕ)
lines_of bytes = map bare (whole_lines bytes)

-- The piece for a line that was read.
abbrev pub piece_from : Result (Tagged (List ℕ) Asked) LineFault → Piece
piece_from (Ok given) = Given given
piece_from (Err fault) = Faulty fault

-- The piece for a line. A blank line is not a piece.
unfoldable pub piece_of : List ℕ → Option Piece
piece_of line = if is_blank line then None else Some (piece_from (command_of line))

-- The pieces of an input.
unfoldable pub pieces_of : List ℕ → List Piece
pieces_of bytes = filter_map piece_of (lines_of bytes)

-- Whether a line passes: it is not a command, or its session passes the test.
unfoldable pub line_passes : (List ℕ → Bool) → List ℕ → Bool
line_passes keep line = option_map_or (piece_passes keep (λ fault. true)) (piece_of line) true

-- An input without the commands of sessions that do not pass the test. All other lines are unchanged.
unfoldable pub without : (List ℕ → Bool) → List ℕ → List ℕ
without keep bytes = flat_map (λ line. line) (filter (λ line. line_passes keep (bare line)) (whole_lines bytes))

-- None of these bytes ends a line.
abbrev pub NoEnd : List ℕ → Type 0
NoEnd bytes = (k : ℕ) → k < length bytes → slice_index bytes k ≢ 10
