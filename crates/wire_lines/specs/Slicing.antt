-- The slice of an input: the lines that give a session the same answers.
use Rattle.std.specs.Prelude.{◌≡◌, ◌≢◌, ◌⊎◌, ◌≤◌, ◌<◌, ◌^◌, ◌++◌, ℕ, Bool, true, false, List, [], ◌∷◌}
use Rattle.std.specs.Prelude.{length, filter, take, Option, Some, Result, Err, IsOk, IfOk, IsFalse}
use Rattle.std.specs.List.{flat_map}
use Rattle.std.specs.Option.{option_map_or}
use Rattle.std.specs.Io.KnownBytes.{Appends}
use Rattle.isolation.specs.Pieces.{Given, Faulty, commands_of, told}
use Rattle.isolation.specs.Slice.{kept, slice}
use Rattle.server_world.specs.declared.report.Entry.{Entry}
use Rattle.server_world.specs.Runs.{AreSteps}
use Rattle.server_world.specs.Server.{Server, OnlyRefused, settings, states, was_refused}
use Rattle.session_model.specs.Machine.{machine}
use Rattle.session_model.specs.Thread.{Settings}
use Rattle.wire_format.specs.Input.{Piece, lines_of, piece_of, pieces_of}
use Rattle.wire_format.specs.Output.{World, answers_to, world_of}
use Rattle.wire_lines.specs.declared.fault.RunFault.{RunFault}
use Rattle.wire_lines.specs.declared.fault.RunFault.TheVariants.{Read, Write, Endless}
use Rattle.wire_lines.specs.declared.stream.Summary.{Summary}
use Rattle.wire_lines.specs.Isolation.{IsToldBetween}
use Rattle.wire_lines.specs.Run.{AppendsSome, IsPastReads, Reads}

abbrev pub is_given : Piece → Bool
is_given (Given t) = true
is_given (Faulty fault) = false

-- Whether the line is a command.
unfoldable pub is_command : List ℕ → Bool
is_command line = option_map_or is_given (piece_of line) false

-- The lines of an input that are commands, without their line feeds.
abbrev pub command_lines : List ℕ → List (List ℕ)
command_lines bytes = filter is_command (lines_of bytes)

-- The command lines in the slice of `s`.
abbrev pub kept_lines : Settings → World → List ℕ → List ℕ → List (List ℕ)
kept_lines settings world s bytes = kept (slice (machine settings) s world (commands_of (pieces_of bytes))).marks (command_lines bytes)

-- A line with its line feed.
abbrev pub ended : List ℕ → List ℕ
ended line = line ++ 10 ∷ []

-- The slice of `s` as an input: its lines, unchanged.
unfoldable pub sliced : Settings → World → List ℕ → List ℕ → List ℕ
sliced settings world s bytes = flat_map ended (kept_lines settings world s bytes)

-- In a run of its slice the commands of `s` are answered as in the run of the whole input.
abbrev pub IsToldAsSliced : Settings → World → List ℕ → List ℕ → Type 0
IsToldAsSliced settings world s bytes =
    told (machine settings) s (answers_to settings world (sliced settings world s bytes))
    ≡ told (machine settings) s (answers_to settings world bytes)

-- Some first commands of an input are done, one after another; after them at most memory ran out.
pub record HasRun (bytes : List ℕ) (old new : Server) : Type 0 where
  pub count : ℕ
  pub between : Server
  pub entries : List Entry
  pub steps : AreSteps old (take count (commands_of (pieces_of bytes))) entries between
  pub left : (new ≡ between) ⊎ OnlyRefused between new

-- The result of a run for the slice of `s` over these bytes.
pub record SlicesOver (s bytes : List ℕ) (old new : Server)
    (held held_after left_after : Option (List ℕ)) (calls calls_after : Reads) (result : Result Summary RunFault) : Type 0 where
  pub runs : HasRun bytes old new
  -- After a good run the slice is written; if the sink failed a prefix of it, and after another fault nothing.
  pub written : IsOk result → Appends held held_after (sliced (settings old) (states old) s bytes)
  pub stopped : result ≡ Err Write → AppendsSome held held_after (sliced (settings old) (states old) s bytes)
  pub unwritten : (fault : RunFault) → result ≡ Err fault → fault ≢ Write → Appends held held_after []
  -- Before anything is written, all commands are done, and memory never ran out.
  pub behind : (IsOk result ⊎ (result ≡ Err Write)) → (states new ≡ world_of (settings old) (states old) bytes) × IsFalse (was_refused new)
  -- The slice gives `s` the same answers, and so does each input between the slice and the whole.
  pub same : IsToldAsSliced (settings old) (states old) s bytes
  pub between : IsToldBetween (settings old) (states old) bytes s
  -- It reports an endless input only at a bound, and does no command unless the whole input was read.
  pub endless : result ≡ Err Endless → (2 ^ 32 < length (lines_of bytes)) ⊎ (IsPastReads (2 ^ 40) bytes calls calls_after × (new ≡ old))
  pub unread : result ≡ Err Read → new ≡ old
  -- The whole input is read, and its lines are counted.
  pub all_read : IsOk result → left_after ≡ Some []
  pub counted : IfOk result (λ summary. (summary.lines ≡ length (lines_of bytes)) × (summary.lines ≤ 2 ^ 32))
