-- What sessions receive in a run if memory was refused in it or before it.
use Rattle.std.specs.Prelude.{◌≡◌, ◌≢◌, ℕ, Bool, true, false, List, [], ◌∷◌, ◌++◌, All, codes, length, map, take}
use Rattle.std.specs.Prelude.{Option, Some, None}
use Rattle.std.specs.Io.KnownBytes.{Appends}
use Rattle.std.specs.List.{flat_map}
use Rattle.isolation.specs.Influence.{influences}
use Rattle.isolation.specs.Pieces.{Given, Faulty, commands_of}
use Rattle.isolation.specs.Slice.{kept}
use Rattle.plain_types.specs.declared.code.Code.TheVariants as code
use Rattle.server_world.specs.declared.report.Entry.{Entry}
use Rattle.server_world.specs.declared.report.Entry.TheVariants.{Lines, OutOfMemory}
use Rattle.server_world.specs.Server.{Server, names, settings, states}
use Rattle.server_world.specs.Spared.{EndsIn}
use Rattle.session_model.specs.Machine.{machine}
use Rattle.session_model.specs.declared.line.Line.TheVariants.{Error}
use Rattle.wire_format.specs.Input.{Piece, pieces_of, whole_lines}
use Rattle.wire_format.specs.Output.{Said, lines_said_to, said_all, said_by, text_of_said, world_of}
use Rattle.wire_format.specs.Text.{blamed, text_of_line}
use Rattle.wire_lines.specs.Isolation.{IsToldAlone, IsToldAsWithout, IsToldBetween, IsToldInterleaved}
use Rattle.wire_lines.specs.Steps.{read_lines}

-- An input without the lines that could not be read. There is a mark for each line: whether it was read.
abbrev pub without_unread : List Bool → List ℕ → List ℕ
without_unread read bytes = flat_map (λ line. line) (kept read (whole_lines bytes))

-- The first lines of an input.
abbrev pub first_lines : ℕ → List ℕ → List ℕ
first_lines count bytes = flat_map (λ line. line) (take count (whole_lines bytes))

-- The lines that are written for the entry of a command.
abbrev pub said_by_entry : List ℕ → Entry → List Said
said_by_entry session (Lines lines) = map (said_by session) lines
said_by_entry session OutOfMemory = said_by session (Error code.OutOfMemory) ∷ []

-- The lines that are written for an input, if each command that was read has an entry. A line that could not be read is
-- answered by a line that names no session.
abbrev pub said_for : List (Option Piece) → List Bool → List Entry → List Said
said_for (None ∷ lines) (mark ∷ read) entries = said_for lines read entries
said_for (Some piece ∷ lines) (false ∷ read) entries = said_by (codes "-") (Error code.OutOfMemory) ∷ said_for lines read entries
said_for (Some (Faulty fault) ∷ lines) (true ∷ read) entries = said_by (blamed fault) (Error fault.code) ∷ said_for lines read entries
said_for (Some (Given t) ∷ lines) (true ∷ read) (entry ∷ entries) = said_by_entry t.session entry ++ said_for lines read entries
said_for lines read entries = []

-- A line reports neither that memory ran out (`E21`) nor that its session has failed (`E20`).
pub record IsSparing (line : Said) : Type 0 where
  pub found : line.text ≢ text_of_line line.session (Error code.OutOfMemory)
  pub well : line.text ≢ text_of_line line.session (Error code.SessionFailed)

-- The sessions that pass the test were spared: no line that names one of them reports that.
abbrev pub AreSpared : (List ℕ → Bool) → List Said → Type 0
AreSpared keep said = All (λ line. keep line.session ≡ true → IsSparing line) said

-- The sessions that influence `s` in this input.
abbrev pub influencing : Server → List ℕ → List ℕ → List ℕ → Bool
influencing server input s = influences (machine (settings server)) (states server) (names server) (commands_of (pieces_of input)) s

-- What `s` receives in these lines, and how it ends, compared with a run of this input in which memory is found.
pub record IsApart (input : List ℕ) (old new : Server) (said : List Said) (s : List ℕ) : Type 0 where
  -- The lines that name `s` are those that such a run writes for it.
  pub lines : lines_said_to s said ≡ lines_said_to s (said_all (settings old) (states old) input)
  -- `s` ends in the state in which such a run leaves it, or has failed.
  pub state : EndsIn new s (world_of (settings old) (states old) input s)
  -- `s` receives what it would receive alone.
  pub alone : IsToldAlone (settings old) (states old) input s
  -- It receives what it would without the commands of sessions to which no chain of joins leads from it.
  pub left_out : IsToldAsWithout (settings old) (states old) (names old) input s
  -- It receives what it would from each input between its slice and the whole.
  pub between : IsToldBetween (settings old) (states old) input s
  -- It receives what it would from each input that has the commands of closed sessions in the same order.
  pub interleaved : IsToldInterleaved (settings old) (states old) input s

-- This text answers the lines of an input, even if memory was refused.
pub record Spares (input : List ℕ) (old new : Server) (text : List ℕ) : Type 0 where
  -- A mark for each line, whether it was read, and an entry for each command that was read.
  pub read : List Bool
  pub entries : List Entry
  pub marked : length read ≡ length (whole_lines input)
  pub counted : length entries ≡ length (commands_of (pieces_of (without_unread read input)))
  pub says : text ≡ text_of_said (said_for (read_lines input) read entries)
  -- A session receives what it would receive for the lines that were read, if all sessions that influence it were
  -- spared.
  pub spared : (s : List ℕ) → AreSpared (influencing old (without_unread read input) s) (said_for (read_lines input) read entries)
      → IsApart (without_unread read input) old new (said_for (read_lines input) read entries) s

-- The whole text is written.
abbrev pub SparesAll : List ℕ → Option (List ℕ) → Server → Option (List ℕ) → Server → Type 0
SparesAll input held old held_after new = (text : List ℕ) × Spares input old new text × Appends held held_after text
