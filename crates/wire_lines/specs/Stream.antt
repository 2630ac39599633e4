-- A run in progress: how a server answers the lines of an input that arrives in pieces.
use Rattle.std.specs.Prelude.{◌≡◌, ℕ, ◌+◌, ◌<◌, false, List, [], ◌∷◌, ◌++◌, length, Option, Result, IsTrue, Ok, Err}
use Rattle.std.specs.List.{All}
use Rattle.plain_types.specs.Names.{is_name}
use Rattle.session_engine.specs.Sessions.{AllAreNamed}
use Rattle.server_world.specs.Server.{Server, names, seen_by_name, settings, was_refused}
use Rattle.wire_format.specs.Input.{Piece}
use Rattle.wire_format.specs.Counts.{FailsOnce}
use Rattle.wire_format.specs.declared.traits.Failed.{Failed}
use Rattle.session_model.specs.declared.line.Line.{Line}
use Rattle.wire_format.specs.Parts.{has_parts}
use Rattle.wire_format.specs.Text.{text_of_line}
use Rattle.wire_lines.specs.declared.fault.RunFault.{RunFault}
use Rattle.wire_lines.specs.declared.fault.RunFault.TheVariants.{Read, Write, Endless, Memory}
use Rattle.wire_lines.specs.Sending.{Out, Sent, SentFront}
use Rattle.wire_lines.specs.Steps.{AreAnswered, IsAnswered, read_lines}

-- All sessions of the server have names of sessions.
abbrev pub HaveNames : Server → Type 0
HaveNames server = All (λ name. IsTrue (is_name name)) (names server)

-- A later server: it has the same settings; memory that was refused stays noted; its sessions still have names of
-- sessions, and so has what they hold.
pub record Later (old new : Server) : Type 0 where
  pub settings : settings new ≡ settings old
  pub refused : IsTrue (was_refused old) → IsTrue (was_refused new)
  pub named : AllAreNamed (seen_by_name old) → AllAreNamed (seen_by_name new)
  pub sessions : HaveNames old → HaveNames new

-- The point that a run has reached.
pub record Point : Type 0 where
  pub server : Server
  pub out : Out
  -- How many lines there were.
  pub lines : ℕ
  -- The bytes that are read and not answered yet.
  pub begun : List ℕ

-- Between two points these lines were answered and counted, and their answers were sent. Whatever bytes follow, these
-- lines are the first, and those after the new point come next.
pub record Fed (old new : Point) : Type 0 where
  pub lines : List (Option Piece)
  pub text : List ℕ
  pub reads : (rest : List ℕ) → read_lines (old.begun ++ rest) ≡ lines ++ read_lines (new.begun ++ rest)
  pub answered : AreAnswered old.server lines text new.server
  pub sent : Sent old.out new.out text
  pub counted : new.lines ≡ old.lines + length lines

-- All bytes are answered, and there are no more.
pub record Done (old new : Point) : Type 0 where
  pub text : List ℕ
  pub answered : AreAnswered old.server (read_lines old.begun) text new.server
  pub sent : Sent old.out new.out text
  pub counted : new.lines ≡ old.lines + length (read_lines old.begun)

-- How much of the answers is sent when a run stops: a prefix if the sink failed or a text found no memory, and otherwise
-- all.
abbrev pub SentUntil : RunFault → Out → Out → List ℕ → Type 0
SentUntil Write old new text = SentFront old new text
SentUntil Memory old new text = SentFront old new text
SentUntil fault old new text = Sent old new text

-- After these bytes comes a text with a line for which there is no memory: all that precedes this line is sent. Lines
-- that are written in parts, such as refusals, take no memory.
pub record IsStuckBy (said : List ℕ) (says : List ℕ → Type 0) (before after : Out) : Type 0 where
  pub told : List ℕ
  pub session : List ℕ
  pub line : Line
  pub rest : List ℕ
  pub text : says (told ++ (text_of_line session line ++ rest))
  pub long : has_parts line ≡ false
  pub sent : Sent before after (said ++ told)

-- These lines are answered, and there was no memory for a line of the last answer.
pub record IsStuck (old : Server) (lines : List (Option Piece)) (new : Server) (before after : Out) : Type 0 where
  pub first : List (Option Piece)
  pub last : Option Piece
  pub between : Server
  pub said : List ℕ
  pub lines_are : lines ≡ first ++ last ∷ []
  pub answered : AreAnswered old first said between
  pub stuck : IsStuckBy said (λ text. IsAnswered between last text new) before after

-- The run is stuck in this way if memory is the fault.
abbrev pub StuckIn : RunFault → Server → List (Option Piece) → Server → Out → Out → Type 0
StuckIn Memory old lines new before after = IsStuck old lines new before after
StuckIn fault old lines new before after = Unit {0}

-- The run stopped with this fault. If these bytes follow, some first lines were answered and counted, and their answers
-- were sent as far as the fault let them.
pub record Cut (fault : RunFault) (old new : Point) (rest : List ℕ) : Type 0 where
  pub lines : List (Option Piece)
  pub behind : List (Option Piece)
  pub text : List ℕ
  pub reads : read_lines (old.begun ++ rest) ≡ lines ++ behind
  pub answered : AreAnswered old.server lines text new.server
  pub sent : SentUntil fault old.out new.out text
  pub counted : new.lines ≡ old.lines + length lines
  pub stuck : StuckIn fault old.server lines new.server old.out new.out

-- This many lines were counted, and there are more.
abbrev pub IsOver : ℕ → Point → Point → List ℕ → Type 0
IsOver most old new rest = (new.lines ≡ most) × (most < old.lines + length (read_lines (old.begun ++ rest)))

-- The run stops with this fault, if these bytes follow.
abbrev pub Stops : ℕ → RunFault → Point → Point → List ℕ → Type 0
Stops most Endless old new rest = Cut Endless old new rest × IsOver most old new rest
Stops most fault old new rest = Cut fault old new rest

-- The run goes on, or it stops, whatever follows.
abbrev pub Feeds : {T : Type 0} → ℕ → Point → Point → Result T RunFault → Type 0
Feeds most old new (Ok done) = Fed old new
Feeds most old new (Err fault) = (rest : List ℕ) → Stops most fault old new rest

-- How a run finishes with its last line: well, or with a fault.
abbrev pub Finishes : {T : Type 0} → ℕ → Point → Point → Result T RunFault → Type 0
Finishes most old new (Ok done) = Done old new
Finishes most old new (Err fault) = Stops most fault old new []

-- The sink failed once if that is the fault, and otherwise never. A failed read cannot be the fault here.
abbrev pub SinkFails : {T : Type 0} → ℕ → ℕ → Result T RunFault → Type 0
SinkFails old new (Err Write) = FailsOnce old new
SinkFails old new (Err Read) = ⊥
SinkFails old new r = new ≡ old

-- The sink failed once if that is the fault, and otherwise never. Neither a failed read nor the number of lines can be
-- the fault here.
abbrev pub SendFails : {T : Type 0} → ℕ → ℕ → Result T RunFault → Type 0
SendFails old new (Err Endless) = ⊥
SendFails old new r = SinkFails old new r

-- The result of a run in which only the sink may fail.
abbrev pub by_sink : Result (Unit {0}) Failed → Result (Unit {0}) RunFault
by_sink (Ok done) = Ok done
by_sink (Err failed) = Err Write
