-- Calls of a host program on the server of one handle, one after another.
use Rattle.std.specs.Prelude.{◌≡◌, ◌≢◌, ◌⊎◌, ◌==◌, if◌then◌else◌, ℕ, List, [], ◌∷◌, ◌++◌, codes, take, Option, Some, None}
use Rattle.std.specs.List.{flat_map}
use Rattle.isolation.specs.Machine.{Tagged}
use Rattle.isolation.specs.Pieces.{Given, Faulty}
use Rattle.plain_types.specs.declared.code.Code.TheVariants.{OutOfMemory}
use Rattle.server_world.specs.declared.report.Entry.{Entry}
use Rattle.server_world.specs.Spared.{SparesItsSession}
use Rattle.session_model.specs.Asked.{Asked}
use Rattle.session_model.specs.declared.line.Line.TheVariants.{Error}
use Rattle.wire_format.specs.declared.fault.LineFault.{LineFault}
use Rattle.wire_format.specs.Input.{Piece, piece_of}
use Rattle.wire_format.specs.Text.{blamed, text_of_line}
use Rattle.wire_lines.specs.Steps.{entry_text}
use Rattle.metad_c.specs.declared.kept.Kept.{Kept}
use Rattle.metad_c.specs.Answers.{Fetches, Seen, Serves, ServesFor, seen}
use Rattle.metad_c.specs.Reading.{piece_for}

-- A call, with what it returned.
pub data Call : Type 0 where
  -- A line, and the status.
  Line : (line : List ℕ) (status : ℕ) → Call
  -- A line for a session that the host program names, and the status.
  LineFor : (session line : List ℕ) (status : ℕ) → Call
  -- A buffer, before and after answers were fetched, and how many bytes were fetched.
  Fetch : (before after : List ℕ) (count : ℕ) → Call

-- A call does with the handle what the contract of its export says.
abbrev pub IsCall : Option Kept → Call → Option Kept → Type 0
IsCall old (Line line status) new = Serves old new (piece_of line) status
IsCall old (LineFor session line status) new = ServesFor old new session line status
IsCall old (Fetch before after count) new = Fetches old new before after count

-- Calls are made one after another, each with the handle that the previous one left.
abbrev pub AreCalls : Option Kept → List Call → Option Kept → Type 0
AreCalls old [] new = new ≡ old
AreCalls old (call ∷ calls) new = (between : Option Kept) × IsCall old call between × AreCalls between calls new

-- The effect of a call.
pub data CallEffect : Type 0 where
  -- A command is done, with this entry.
  Done : (given : Tagged (List ℕ) Asked) (entry : Entry) → CallEffect
  -- A line is refused because it is no command.
  Refused : (fault : LineFault) → CallEffect
  -- There was no memory to read a line.
  Unread : CallEffect
  -- No command is done, and there is no answer.
  Nothing : CallEffect

-- The text of an answer: the lines of a command or `E21` for its session, the fault of another line, and `E21` for `-` if a
-- line could not be read.
abbrev pub text_of : CallEffect → List ℕ
text_of (Done given entry) = entry_text given.session entry
text_of (Refused fault) = text_of_line (blamed fault) (Error fault.code)
text_of Unread = text_of_line (codes "-") (Error OutOfMemory)
text_of Nothing = []

-- A line that is answered has one of these effects.
abbrev pub IsAnswerTo : Option Piece → CallEffect → Type 0
IsAnswerTo None effect = effect ≡ Nothing
IsAnswerTo (Some (Given given)) effect = ((entry : Entry) × (effect ≡ Done given entry)) ⊎ (effect ≡ Unread)
IsAnswerTo (Some (Faulty fault)) effect = (effect ≡ Refused fault) ⊎ (effect ≡ Unread)

-- A line is a command, and it is done.
abbrev pub IsDoneBy : Option Piece → CallEffect → Type 0
IsDoneBy line effect = (given : Tagged (List ℕ) Asked) × (entry : Entry) × (line ≡ Some (Given given)) × (effect ≡ Done given entry)

-- The status of a line says which effects it can have.
pub record IsEffect (line : Option Piece) (status : ℕ) (effect : CallEffect) : Type 0 where
  -- With 0 the line is answered.
  pub said : status ≡ 0 → IsAnswerTo line effect
  -- With 6 its command is done.
  pub unsaid : status ≡ 6 → IsDoneBy line effect
  -- With every other status no command is done.
  pub undone : status ≢ 0 → status ≢ 6 → effect ≡ Nothing

-- A call has this effect.
abbrev pub HasEffect : Call → CallEffect → Type 0
HasEffect (Line line status) effect = IsEffect (piece_of line) status effect
HasEffect (LineFor session line status) effect = IsEffect (piece_for session line) status effect
HasEffect (Fetch before after count) effect = effect ≡ Nothing

-- Calls have these effects, one each.
abbrev pub HaveEffects : List Call → List CallEffect → Type 0
HaveEffects [] [] = Unit {0}
HaveEffects [] (effect ∷ effects) = ⊥
HaveEffects (call ∷ calls) [] = ⊥
HaveEffects (call ∷ calls) (effect ∷ effects) = HasEffect call effect × HaveEffects calls effects

-- The commands that are done, in order.
abbrev pub commands_of : List CallEffect → List (Tagged (List ℕ) Asked)
commands_of [] = []
commands_of (Done given entry ∷ effects) = given ∷ commands_of effects
commands_of (Refused fault ∷ effects) = commands_of effects
commands_of (Unread ∷ effects) = commands_of effects
commands_of (Nothing ∷ effects) = commands_of effects

-- The entries of these commands.
abbrev pub entries_of : List CallEffect → List Entry
entries_of [] = []
entries_of (Done given entry ∷ effects) = entry ∷ entries_of effects
entries_of (Refused fault ∷ effects) = entries_of effects
entries_of (Unread ∷ effects) = entries_of effects
entries_of (Nothing ∷ effects) = entries_of effects

-- The bytes that a call fetches.
abbrev pub fetched_by : Call → List ℕ
fetched_by (Line line status) = []
fetched_by (LineFor session line status) = []
fetched_by (Fetch before after count) = take count after

-- The text that a call adds to the output: its answer if the status is 0, otherwise nothing.
abbrev pub said_by : Call → CallEffect → List ℕ
said_by (Line line status) effect = if status == 0 then text_of effect else []
said_by (LineFor session line status) effect = if status == 0 then text_of effect else []
said_by (Fetch before after count) effect = []

-- The texts that calls add to the output, in order.
abbrev pub said_by_all : List Call → List CallEffect → List ℕ
said_by_all [] effects = []
said_by_all (call ∷ calls) [] = []
said_by_all (call ∷ calls) (effect ∷ effects) = said_by call effect ++ said_by_all calls effects

-- What calls do to a server and its output.
pub record KeepApart (old new : Seen) (calls : List Call) : Type 0 where
  -- Each call has an effect that its status allows.
  pub effects : List CallEffect
  pub each : HaveEffects calls effects
  -- What is fetched, and what can still be fetched, is what could be fetched before, followed by the answers.
  pub output : flat_map fetched_by calls ++ new.said ≡ old.said ++ said_by_all calls effects
  -- A session receives what it would receive alone, if no command of a session that influences it was answered `E21` or `E20`.
  pub spared : (s : List ℕ) → SparesItsSession old.server new.server (commands_of effects) (entries_of effects) s

-- Whatever calls are made, the handle still has its server, and its sessions are isolated.
abbrev pub CallsAreIsolated : Type 0
CallsAreIsolated = (first : Kept) (calls : List Call) (new : Option Kept) → AreCalls (Some first) calls new
    → (last : Kept) × (new ≡ Some last) × KeepApart (seen first) (seen last) calls

-- One more call can follow calls that were made.
abbrev pub CallsGoOn : Type 0
CallsGoOn = (old between new : Option Kept) (calls : List Call) (call : Call) → AreCalls old calls between → IsCall between call new
    → AreCalls old (calls ++ call ∷ []) new
