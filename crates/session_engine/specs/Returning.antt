-- The results of calls that do commands.
use Rattle.std.specs.Prelude.{◌≡◌, ℕ, Bool, true, false, List, [], ◌∷◌, Option, Some, None, Result, Ok, Err, IsFalse}
use Rattle.plain_types.specs.Answers.{OnMemory}
use Rattle.plain_types.specs.declared.code.Code.{Code}
use Rattle.plain_types.specs.declared.fault.Fault.{Fault}
use Rattle.plain_types.specs.declared.fault.Fault.TheVariants.{Refused, Memory}
use Rattle.session_model.specs.Asked.{Asked}
use Rattle.session_model.specs.Thread.{performs}
use Rattle.session_model.specs.declared.line.Line.{Line}
use Rattle.session_model.specs.declared.line.Line.TheVariants.{Error}
use Rattle.session_tables.specs.Refused.{OnRefused}
use Rattle.session_tables.specs.Session.{failed_session}
use Rattle.session_engine.specs.Core.{EngineState, sessions, settings, states}
use Rattle.session_engine.specs.Sessions.{is_shut, session_refusal}

-- The call is refused exactly by this code, and otherwise returns a value for which this holds, unless memory ran out.
abbrev pub Returns : {T : Type 0} → Option Code → (T → Type 0) → Result T Fault → Type 0
Returns refusal Holds (Ok value) = (refusal ≡ None) × Holds value
Returns refusal Holds (Err (Refused code)) = refusal ≡ Some code
Returns refusal Holds (Err Memory) = Unit {0}

-- What a command of the session with this name returns and changes.
pub record IsAnswered (old new : EngineState) (name : List ℕ) (asked : Asked) (result : Result (List Line) Fault) : Type 0 where
  -- It is refused exactly by its refusal, and otherwise returns its lines.
  pub returns : Returns (session_refusal (settings old) name (sessions old name) asked)
      (λ lines. lines ≡ (performs (settings old) name (states old name) asked).lines) result
  -- A refused command changes nothing.
  pub refused : OnRefused result (sessions new ≡ sessions old)
  pub fails : OnMemory result (sessions new name ≡ failed_session)
  -- In a failed session only a reset can run out of memory.
  pub fine : OnMemory result (IsFalse (is_shut (sessions old name) asked))

-- The lines of a command, or the line of its refusal; nothing if memory ran out.
abbrev pub answer_lines : Result (List Line) Fault → Option (List Line)
answer_lines (Ok lines) = Some lines
answer_lines (Err (Refused code)) = Some (Error code ∷ [])
answer_lines (Err Memory) = None

-- Whether memory ran out.
abbrev pub wants_memory : {T : Type 0} → Result T Fault → Bool
wants_memory (Ok value) = false
wants_memory (Err (Refused code)) = false
wants_memory (Err Memory) = true
