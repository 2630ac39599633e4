-- The lines of an input, answered one after another, even if memory was refused before.
use Rattle.std.specs.Prelude.{◌≡◌, ◌⊎◌, ℕ, List, [], ◌∷◌, ◌++◌, codes, map, Option, Some, None}
use Rattle.std.specs.List.{flat_map}
use Rattle.isolation.specs.Machine.{Tagged}
use Rattle.isolation.specs.Pieces.{Given, Faulty}
use Rattle.plain_types.specs.declared.code.Code.TheVariants as code
use Rattle.server_world.specs.declared.report.Entry.{Entry}
use Rattle.server_world.specs.declared.report.Entry.TheVariants.{Lines, OutOfMemory}
use Rattle.server_world.specs.Runs.{IsEntry}
use Rattle.server_world.specs.Server.{Server, OnlyRefused, settings}
use Rattle.session_model.specs.Asked.{Asked}
use Rattle.session_model.specs.declared.line.Line.TheVariants.{Error}
use Rattle.wire_format.specs.declared.fault.LineFault.{LineFault}
use Rattle.wire_format.specs.Input.{Piece, lines_of, piece_of}
use Rattle.wire_format.specs.Text.{blamed, text_of_line}

-- The lines of an input as pieces. A blank line is not a piece.
abbrev pub read_lines : List ℕ → List (Option Piece)
read_lines bytes = map piece_of (lines_of bytes)

-- The text for an entry: the lines of its command, or the report that memory ran out.
abbrev pub entry_text : List ℕ → Entry → List ℕ
entry_text session (Lines lines) = flat_map (text_of_line session) lines
entry_text session OutOfMemory = text_of_line session (Error code.OutOfMemory)

-- A command is done as in a run of this command, and the text is that of its entry.
pub record IsDone (old : Server) (t : Tagged (List ℕ) Asked) (text : List ℕ) (new : Server) : Type 0 where
  pub entry : Entry
  pub does : IsEntry old new t entry
  pub says : text ≡ entry_text t.session entry

-- A line that is not a command is answered by its fault, and changes nothing.
pub record IsFaultSaid (old : Server) (fault : LineFault) (text : List ℕ) (new : Server) : Type 0 where
  pub stays : new ≡ old
  pub says : text ≡ text_of_line (blamed fault) (Error fault.code)

-- Memory ran out while a line was read: the answer names no session, and the server only notes that memory was refused.
pub record IsUnread (old : Server) (text : List ℕ) (new : Server) : Type 0 where
  pub only : OnlyRefused old new
  pub settings : settings new ≡ settings old
  pub says : text ≡ text_of_line (codes "-") (Error code.OutOfMemory)

-- One line of an input is answered. A blank line has no answer.
abbrev pub IsAnswered : Server → Option Piece → List ℕ → Server → Type 0
IsAnswered old None text new = (new ≡ old) × (text ≡ [])
IsAnswered old (Some (Given t)) text new = IsDone old t text new ⊎ IsUnread old text new
IsAnswered old (Some (Faulty fault)) text new = IsFaultSaid old fault text new ⊎ IsUnread old text new

-- Lines are answered one after another, each from the server that the previous one left, and their texts follow one
-- another.
abbrev pub AreAnswered : Server → List (Option Piece) → List ℕ → Server → Type 0
AreAnswered old [] text new = (new ≡ old) × (text ≡ [])
AreAnswered old (line ∷ lines) text new =
    (between : Server) × (first : List ℕ) × (rest : List ℕ)
    × IsAnswered old line first between × AreAnswered between lines rest new × (text ≡ first ++ rest)
