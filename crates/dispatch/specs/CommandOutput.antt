-- The output of a command so far, and the turns that are left.
use Rattle.std.specs.Prelude.{◌≡◌, ◌++◌, ◌∷◌, [], ℕ, List, false, true, Some, None, if◌then◌else◌}
use Rattle.plain_types.specs.declared.code.Code.TheVariants.{TurnsUsedUp}
use Rattle.plain_types.specs.declared.fault.Fault.{Fault}
use Rattle.plain_types.specs.declared.fault.Fault.TheVariants.{Refused, Memory}
use Rattle.session_model.specs.declared.line.Line.{Line}
use Rattle.session_model.specs.declared.line.Line.TheVariants.{Warning}
use Rattle.session_model.specs.declared.post.Post.{Post}
use Rattle.session_model.specs.Execution.{Execution}
use Rattle.session_tables.specs.declared.tables.Tables.{Tables}
use Rattle.session_tables.specs.Tables.{state_at}
use Rattle.dispatch.specs.declared.command_output.CommandOutput.{CommandOutput}

-- The output of a command that begins.
abbrev pub fresh_output : ℕ → CommandOutput
fresh_output turns = record { lines = []; turns = turns; spent = false; taken = 0; failing = false }

-- The output with another line.
abbrev pub with_line : CommandOutput → Line → CommandOutput
with_line output line = record {
  lines = output.lines ++ line ∷ [];
  turns = output.turns;
  spent = output.spent;
  taken = output.taken;
  failing = output.failing;
}

-- The output after a call for which no turn was left.
abbrev pub spent : CommandOutput → CommandOutput
spent output = if output.spent then output else record {
  lines = output.lines ++ Warning TurnsUsedUp None ∷ [];
  turns = output.turns;
  spent = true;
  taken = output.taken;
  failing = output.failing;
}

-- The output with the warning that an action of an object's slot was refused. There is none if memory ran out.
abbrev pub Warns : Fault → ℕ → CommandOutput → CommandOutput → Type 0
Warns (Refused code) object old new = new ≡ with_line old (Warning code (Some object))
Warns Memory object old new = ⊥

-- The session at a place while it does a command with these posts, which are not stored.
abbrev pub doing_at : ℕ → Tables → CommandOutput → List Post → Execution
doing_at place tables output posts = record {
  state = state_at tables place;
  turns = output.turns;
  spent = output.spent;
  taken = output.taken;
  lines = output.lines;
  posts = posts;
}
