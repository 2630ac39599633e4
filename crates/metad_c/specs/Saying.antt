-- How the answer to a host program's line is output. No public clause cites it.
use Rattle.std.specs.Prelude.{◌≡◌, ℕ, List, ◌++◌, Result, Ok, Err, codes}
use Rattle.std.specs.declared.alloc.AllocError.{AllocError}
use Rattle.isolation.specs.Machine.{Tagged}
use Rattle.plain_types.specs.declared.code.Code.TheVariants.{OutOfMemory}
use Rattle.session_model.specs.Asked.{Asked}
use Rattle.session_model.specs.declared.line.Line.TheVariants.{Error}
use Rattle.server_world.specs.Server.{OnlyRefused, settings}
use Rattle.wire_format.specs.declared.fault.LineFault.{LineFault}
use Rattle.wire_format.specs.Text.{blamed, text_of_line}
use Rattle.wire_lines.specs.Steps.{IsDone, IsUnread}
use Rattle.metad_c.specs.declared.outcome.Outcome.{Outcome}
use Rattle.metad_c.specs.declared.outcome.Outcome.TheVariants.{Said, Undone, Unsaid}
use Rattle.metad_c.specs.Answers.{Seen}

-- `Said` if there was memory for the text, and otherwise this outcome.
abbrev pub said_or : {T : Type 0} → Outcome → Result T AllocError → Outcome
said_or lost (Ok done) = Said
said_or lost (Err error) = lost

-- The text is appended to the output.
abbrev pub Adds : Seen → Seen → List ℕ → Type 0
Adds old new text = new.said ≡ old.said ++ text

-- Nothing is output.
abbrev pub IsSilent : Seen → Seen → Type 0
IsSilent old new = new.said ≡ old.said

-- A command is done, and its text is output or lost.
abbrev pub Obeys : Seen → Seen → Tagged (List ℕ) Asked → Outcome → Type 0
Obeys old new t Said = (text : List ℕ) × IsDone old.server t text new.server × Adds old new text
Obeys old new t Undone = ⊥
Obeys old new t Unsaid = (text : List ℕ) × IsDone old.server t text new.server × IsSilent old new

-- A fault is output, or there was no memory for that.
abbrev pub SaysFault : Seen → Seen → LineFault → Outcome → Type 0
SaysFault old new fault Said = (new.server ≡ old.server) × Adds old new (text_of_line (blamed fault) (Error fault.code))
SaysFault old new fault Undone = (new.server ≡ old.server) × IsSilent old new
SaysFault old new fault Unsaid = ⊥

-- It is noted that memory was refused, and this is output, or there was no memory for that either.
abbrev pub SaysUnread : Seen → Seen → Outcome → Type 0
SaysUnread old new Said = IsUnread old.server (text_of_line (codes "-") (Error OutOfMemory)) new.server
    × Adds old new (text_of_line (codes "-") (Error OutOfMemory))
SaysUnread old new Undone = OnlyRefused old.server new.server × (settings new.server ≡ settings old.server) × IsSilent old new
SaysUnread old new Unsaid = ⊥
