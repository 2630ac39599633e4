-- The promises of a run over a whole input.
use Rattle.std.specs.Prelude.{◌≡◌, ◌⊎◌, ◌<◌, ◌≤◌, ◌+◌, ◌==◌, ◌++◌, ℕ, Bool, true, false, List, [], ◌∷◌, length, take, filter}
use Rattle.std.specs.Prelude.{min, Option, Some, Result, Ok, Err, IsOk, IsErr, IfOk, MatchResult, IsFalse}
use Rattle.std.specs.Io.KnownBytes.{Appends}
use Rattle.server_world.specs.Server.{Server, states, names, was_refused, settings}
use Rattle.wire_format.specs.Counts.{FailsOnce, greatest_count}
use Rattle.session_model.specs.declared.line.Line.{Line}
use Rattle.wire_format.specs.Input.{Piece, lines_of}
use Rattle.wire_format.specs.Output.{output, world_of}
use Rattle.wire_format.specs.Parts.{has_parts}
use Rattle.wire_format.specs.Text.{text_of_line}
use Rattle.wire_lines.specs.declared.fault.RunFault.{RunFault}
use Rattle.wire_lines.specs.declared.fault.RunFault.TheVariants.{Read, Write, Endless, Memory}
use Rattle.wire_lines.specs.declared.stream.Summary.{Summary}
use Rattle.wire_lines.specs.Isolation.{IsToldAlone, IsToldAsWithout, IsToldBetween, IsToldInterleaved}
use Rattle.wire_lines.specs.Sending.{IsPrefix}
use Rattle.wire_lines.specs.Spared.{Spares, SparesAll, first_lines}
use Rattle.wire_lines.specs.Steps.{AreAnswered, IsAnswered, read_lines}
use Rattle.wire_lines.specs.Stream.{Point, Done, Cut, IsOver}

-- The run reached the end of its input, and memory never ran out.
abbrev pub WentWell : {T : Type 0} → Result T RunFault → Server → Type 0
WentWell r server = IsOk r × IsFalse (was_refused server)

-- If the bytes of the sink are known, a prefix of these is appended; it may be all of them.
abbrev pub AppendsSome : Option (List ℕ) → Option (List ℕ) → List ℕ → Type 0
AppendsSome old new bytes = (front : List ℕ) × IsPrefix front bytes × Appends old new front

-- The source failed once if that is the fault, and otherwise never.
abbrev pub ReadFails : {T : Type 0} → ℕ → ℕ → Result T RunFault → Type 0
ReadFails old new (Err Read) = FailsOnce old new
ReadFails old new r = new ≡ old

-- The sink failed once if that is the fault, and otherwise never.
abbrev pub WriteFails : {T : Type 0} → ℕ → ℕ → Result T RunFault → Type 0
WriteFails old new (Err Write) = FailsOnce old new
WriteFails old new r = new ≡ old

-- The source or the sink of a run failed once if that is the fault, and otherwise neither failed.
abbrev pub DevicesFail : {T : Type 0} → ℕ → ℕ → ℕ → ℕ → Result T RunFault → Type 0
DevicesFail source source_after sink sink_after r = ReadFails source source_after r × WriteFails sink sink_after r

-- The result of a run over an input, if it went well.
pub record AnswersAll (input : List ℕ) (old new : Server) (held held_after : Option (List ℕ)) : Type 0 where
  -- It wrote the output of the whole input: the text of the lines of `said_all`.
  pub written : Appends held held_after (output (settings old) (states old) input)
  pub behind : states new ≡ world_of (settings old) (states old) input
  -- Each session received what it would receive alone.
  pub alone : (s : List ℕ) → IsToldAlone (settings old) (states old) input s
  -- It received what it would without the commands of sessions to which no chain of joins leads from it.
  pub left_out : (s : List ℕ) → IsToldAsWithout (settings old) (states old) (names old) input s
  -- It received what it would from each input between its slice and the whole.
  pub between : (s : List ℕ) → IsToldBetween (settings old) (states old) input s
  -- It received what it would from each input that has the commands of closed sessions in the same order.
  pub interleaved : (s : List ℕ) → IsToldInterleaved (settings old) (states old) input s

-- Every line of the input is answered, and all answers are written.
abbrev pub WritesAll : List ℕ → Option (List ℕ) → Server → Option (List ℕ) → Server → Type 0
WritesAll input held old held_after new =
    (text : List ℕ) × AreAnswered old (read_lines input) text new × Appends held held_after text

-- How much of the answers is written when a run stops with a fault.
abbrev pub AppendsUntil : RunFault → Option (List ℕ) → Option (List ℕ) → List ℕ → Type 0
AppendsUntil Write old new text = AppendsSome old new text
AppendsUntil Memory old new text = AppendsSome old new text
AppendsUntil fault old new text = Appends old new text

-- The first `count` lines are answered, and their answers are written as far as the fault lets them.
abbrev pub WritesUntil : RunFault → ℕ → List ℕ → Option (List ℕ) → Server → Option (List ℕ) → Server → Type 0
WritesUntil fault count input held old held_after new =
    (text : List ℕ) × AreAnswered old (take count (read_lines input)) text new × AppendsUntil fault held held_after text

-- Some first lines are answered, at most as many as the bound, and their answers are written as far as the fault lets
-- them.
abbrev pub WritesFirst : RunFault → ℕ → List ℕ → Option (List ℕ) → Server → Option (List ℕ) → Server → Type 0
WritesFirst fault most input held old held_after new =
    (count : ℕ) × (count ≤ most) × WritesUntil fault count input held old held_after new

-- How many lines end in these bytes.
abbrev pub line_ends : List ℕ → ℕ
line_ends bytes = length (filter (λ byte. byte == 10) bytes)

-- Exactly the lines that ended in what was read are answered.
abbrev pub HasAnsweredRead : RunFault → List ℕ → Option (List ℕ) → Option (List ℕ) → Server → Option (List ℕ) → Server → Type 0
HasAnsweredRead fault input left_after held old held_after new =
    (read : List ℕ) × (left : List ℕ) × (input ≡ read ++ left) × (left_after ≡ Some left) × WritesUntil fault (line_ends read) input held old held_after new

-- The lines reached their bound and are all answered, and another line came.
abbrev pub IsPastLines : ℕ → List ℕ → Option (List ℕ) → Server → Option (List ℕ) → Server → Type 0
IsPastLines max_lines input held old held_after new =
    (max_lines < length (lines_of input)) × WritesUntil Endless max_lines input held old held_after new

-- How often a source was asked for bytes, and how often it gave some.
pub record Reads : Type 0 where
  pub calls : ℕ
  pub gave : ℕ

abbrev pub reads : {R : Type 0} → (R → ℕ) → (R → ℕ) → R → Reads
reads calls gave reader = record { calls = calls reader; gave = gave reader }

-- A source was asked this often, and gave bytes this often, if it counts that.
abbrev pub HasAsked : ℕ → ℕ → Reads → Reads → Type 0
HasAsked calls gave old new =
    (min new.calls greatest_count ≡ min (old.calls + calls) greatest_count)
    × (min new.gave greatest_count ≡ min (old.gave + gave) greatest_count)

-- The calls of `read` reached their bound, and each of them gave bytes.
abbrev pub IsPastReads : ℕ → List ℕ → Reads → Reads → Type 0
IsPastReads max_reads bytes old new = HasAsked max_reads max_reads old new × (max_reads ≤ length bytes)

-- The run found no memory for its buffers: nothing was read, answered or written.
pub record IsUnbegun (calls calls_after : Reads) (input : List ℕ)
    (left_after held : Option (List ℕ)) (old : Server) (held_after : Option (List ℕ)) (new : Server) : Type 0 where
  pub server : new ≡ old
  pub written : held_after ≡ held
  pub asked : calls_after ≡ calls
  pub left : left_after ≡ Some input

-- Some first lines are answered, and there was no memory for the text of one line of the last answer. All that precedes
-- this text is written, and nothing more. Lines that are written in parts, such as refusals, take no memory.
pub record HasStuck (input : List ℕ) (held : Option (List ℕ)) (old : Server) (held_after : Option (List ℕ)) (new : Server) : Type 0 where
  pub first : List (Option Piece)
  pub last : Option Piece
  pub behind : List (Option Piece)
  pub between : Server
  pub said : List ℕ
  pub lines_are : read_lines input ≡ first ++ (last ∷ behind)
  pub answered : AreAnswered old first said between
  pub told : List ℕ
  pub session : List ℕ
  pub line : Line
  pub rest : List ℕ
  pub last_answered : IsAnswered between last (told ++ (text_of_line session line ++ rest)) new
  pub long : has_parts line ≡ false
  pub written : Appends held held_after (said ++ told)

-- The result of a run over these bytes, which reads at most `max_lines` lines, by at most `max_reads` calls.
pub record RunsOver (max_lines max_reads : ℕ) (input : List ℕ) (old new : Server)
    (held held_after left_after : Option (List ℕ)) (calls calls_after : Reads) (result : Result Summary RunFault) : Type 0 where
  pub well : WentWell result new → AnswersAll input old new held held_after
  -- If it stops with a fault, it has written a prefix of that output.
  pub stopped : IsErr result → IsFalse (was_refused new) → AppendsSome held held_after (output (settings old) (states old) input)
  -- It reports an endless input only at a bound.
  pub endless : result ≡ Err Endless → IsPastLines max_lines input held old held_after new
      ⊎ IsPastReads max_reads input calls calls_after × HasAnsweredRead Endless input left_after held old held_after new
  pub unread : result ≡ Err Read → HasAnsweredRead Read input left_after held old held_after new
  -- If memory runs out, it stops before it begins, or at the text of one line.
  pub memory : result ≡ Err Memory → IsUnbegun calls calls_after input left_after held old held_after new ⊎ HasStuck input held old held_after new
  -- Even if memory was refused, the lines are answered one after another, and their answers are written.
  pub answered : MatchResult result (λ _. WritesAll input held old held_after new) (λ fault. WritesFirst fault max_lines input held old held_after new)
  -- Sessions that were spared receive what they would receive if memory had been found, also from the first lines of a
  -- run that stops.
  pub spared : IsOk result → SparesAll input held old held_after new
  pub spared_first : (count : ℕ) (text : List ℕ) → AreAnswered old (take count (read_lines input)) text new → Spares (first_lines count input) old new text
  -- The whole input is read, and its lines are counted.
  pub all_read : IsOk result → left_after ≡ Some []
  pub counted : IfOk result (λ summary. (summary.lines ≡ length (lines_of input)) × (summary.lines ≤ max_lines))

-- How a run reads its source: at most one call of `read` gives no bytes, so nothing is read after the end, and a run
-- that goes well reads the end.
pub record AsksSource {T : Type 0} (max_reads : ℕ) (old new : Reads) (result : Result T RunFault) : Type 0 where
  pub within : new.calls ≤ old.calls + max_reads
  pub gave : ℕ
  pub others : ℕ
  pub counted : HasAsked (gave + others) gave old new
  pub once : others ≤ 1
  pub ended : IsOk result → others ≡ 1

-- How often the source of a run was read, and how often the source and the sink failed.
pub record UsesDevices (max_reads : ℕ) (calls calls_after : Reads) (source source_after sink sink_after : ℕ) (result : Result Summary RunFault) : Type 0 where
  pub asked : AsksSource max_reads calls calls_after result
  pub read : ReadFails source source_after result
  pub write : WriteFails sink sink_after result

-- Between two points exactly the lines that ended in what was read were counted.
abbrev pub HasCountedRead : Option (List ℕ) → Point → Point → Type 0
HasCountedRead left_after old new =
    (read : List ℕ) × (left : List ℕ) × (old.begun ≡ read ++ left) × (left_after ≡ Some left) × (new.lines ≡ old.lines + line_ends read)

-- How a run over these bytes ends, from the point before the first of them.
abbrev pub Ends : {T : Type 0} → ℕ → ℕ → Reads → Reads → Option (List ℕ) → Point → Point → Result T RunFault → Type 0
Ends max_lines max_reads calls calls_after left_after old new (Ok done) = Done old new
Ends max_lines max_reads calls calls_after left_after old new (Err Read) = Cut Read old new [] × HasCountedRead left_after old new
Ends max_lines max_reads calls calls_after left_after old new (Err Endless) =
    Cut Endless old new []
    × (IsOver max_lines old new [] ⊎ IsPastReads max_reads old.begun calls calls_after × HasCountedRead left_after old new)
Ends max_lines max_reads calls calls_after left_after old new (Err fault) = Cut fault old new []

-- Nothing is left to be written, unless the sink failed.
abbrev pub IsWrittenOut : {T : Type 0} → Result T RunFault → List ℕ → Type 0
IsWrittenOut (Err Write) gathered = Unit {0}
IsWrittenOut r gathered = gathered ≡ []

-- Whether the source or the sink has failed.
abbrev pub device_failed : {T : Type 0} → Result T RunFault → Bool
device_failed (Err Read) = true
device_failed (Err Write) = true
device_failed r = false

-- A run over these bytes: what it has answered and written, and how many lines it has counted.
abbrev pub Runs : ℕ → ℕ → Reads → Reads → List ℕ → Option (List ℕ) → Option (List ℕ) → Server → Option (List ℕ) → Server → Result Summary RunFault → Type 0
Runs max_lines max_reads calls calls_after input left_after held old held_after new (Ok summary) =
    WritesAll input held old held_after new × (summary.lines ≡ length (lines_of input)) × (summary.lines ≤ max_lines)
Runs max_lines max_reads calls calls_after input left_after held old held_after new (Err Read) =
    WritesFirst Read max_lines input held old held_after new × HasAnsweredRead Read input left_after held old held_after new
Runs max_lines max_reads calls calls_after input left_after held old held_after new (Err Endless) =
    WritesFirst Endless max_lines input held old held_after new
    × (IsPastLines max_lines input held old held_after new
    ⊎ IsPastReads max_reads input calls calls_after × HasAnsweredRead Endless input left_after held old held_after new)
Runs max_lines max_reads calls calls_after input left_after held old held_after new (Err Memory) =
    WritesFirst Memory max_lines input held old held_after new
    × (IsUnbegun calls calls_after input left_after held old held_after new ⊎ HasStuck input held old held_after new)
Runs max_lines max_reads calls calls_after input left_after held old held_after new (Err fault) = WritesFirst fault max_lines input held old held_after new
