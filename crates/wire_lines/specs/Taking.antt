-- What a run for a slice knows about its input, line by line. No public clause cites it.
use Rattle.std.specs.Prelude.{◌≡◌, ◌⊎◌, ◌<◌, ◌^◌, ◌==◌, ◌++◌, ℕ, List, [], ◌∷◌, All, drop, filter, length}
use Rattle.std.specs.Prelude.{map, slice_index, if◌then◌else◌, IsFalse, Option, Some, None}
use Rattle.std.specs.List.{filter_map}
use Rattle.isolation.specs.Machine.{Tagged}
use Rattle.isolation.specs.Pieces.{Given, Faulty, commands_of}
use Rattle.isolation.specs.Slice.{Note}
use Rattle.server_world.specs.declared.report.Entry.{Entry}
use Rattle.server_world.specs.Noting.{AreNoted, IsNoted}
use Rattle.server_world.specs.Runs.{AreSteps, IsEntry}
use Rattle.server_world.specs.Server.{Server, OnlyRefused, states, was_refused}
use Rattle.session_model.specs.Asked.{Asked}
use Rattle.wire_format.specs.Input.{Piece, lines_of, piece_of}
use Rattle.wire_lines.specs.declared.fault.RunFault.{RunFault}
use Rattle.wire_lines.specs.declared.fault.RunFault.TheVariants.{Read, Write, Endless, Memory}
use Rattle.wire_lines.specs.declared.stream.TheConstants.{MOST_LINES}
use Rattle.wire_lines.specs.Slicing.{HasRun, ended, is_command}

-- The bytes up to the first line feed, or all bytes.
unfoldable pub first_line : List ℕ → List ℕ
first_line [] = []
first_line (byte ∷ rest) = if byte == 10 then [] else byte ∷ first_line rest

-- The line that begins at this offset of an input.
abbrev pub line_at : List ℕ → ℕ → List ℕ
line_at input start = first_line (drop start input)

-- The line of the command with this number, with a line feed. The lines of commands begin at these offsets.
abbrev pub numbered : List ℕ → List ℕ → ℕ → List ℕ
numbered input starts number = ended (line_at input (slice_index starts number))

-- The commands in some lines.
abbrev pub commands_in : List (List ℕ) → List (Tagged (List ℕ) Asked)
commands_in lines = commands_of (filter_map piece_of lines)

-- A server, the notes about the commands that it has done, and the offset at which the line of each begins.
pub record Noted : Type 0 where
  pub server : Server
  pub notes : List (Note ℕ)
  pub starts : List ℕ

-- A command is noted with the offset of its line, and is done.
pub record DoesNoted (start : ℕ) (t : Tagged (List ℕ) Asked) (old new : Noted) : Type 0 where
  pub note : Note ℕ
  pub right : IsNoted old.server t note
  pub notes : new.notes ≡ old.notes ++ note ∷ []
  pub starts : new.starts ≡ old.starts ++ start ∷ []
  pub entry : Entry
  pub does : IsEntry old.server new.server t entry

-- The line at this offset is taken: its command is done. A line that is not a command changes nothing.
abbrev pub Takes : ℕ → Option Piece → Noted → Noted → Type 0
Takes start None old new = new ≡ old
Takes start (Some (Given t)) old new = DoesNoted start t old new
Takes start (Some (Faulty fault)) old new = new ≡ old

-- Memory ran out for a line, before its command was done or for the command.
abbrev pub RunsShort : Option Piece → Server → Server → Type 0
RunsShort piece old new = OnlyRefused old new ⊎ (t : Tagged (List ℕ) Asked) × (entry : Entry) × (piece ≡ Some (Given t)) × IsEntry old new t entry

-- A line is not taken because of this fault. There were `count` lines before it.
abbrev pub StopsAt : RunFault → ℕ → Option Piece → Server → Server → Type 0
StopsAt Read count piece old new = ⊥
StopsAt Write count piece old new = ⊥
StopsAt Endless count piece old new = (count ≡ MOST_LINES) × (new ≡ old)
StopsAt Memory count piece old new = RunsShort piece old new

-- The lines before these bytes are taken.
pub record HasTaken (input : List ℕ) (old : Server) (now : Noted) (count : ℕ) (rest : List ℕ) : Type 0 where
  pub lines : List (List ℕ)
  pub reads : lines_of input ≡ lines ++ lines_of rest
  pub counted : count ≡ length lines
  -- The line of each noted command begins within the input.
  pub within : All (λ start. start < length input) now.starts
  pub begins : map (line_at input) now.starts ≡ filter is_command lines
  pub entries : List Entry
  pub steps : AreSteps old (commands_in lines) entries now.server
  -- If memory was found, the notes are right.
  pub right : IsFalse (was_refused now.server) → AreNoted (states old) (commands_in lines) now.server now.notes

-- Why not all lines of an input are taken.
abbrev pub HasStopped : RunFault → List ℕ → Server → Server → Type 0
HasStopped Read input old new = ⊥
HasStopped Write input old new = ⊥
HasStopped Endless input old new = HasRun input old new × (2 ^ 32 < length (lines_of input))
HasStopped Memory input old new = HasRun input old new
