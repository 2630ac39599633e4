-- The effect of the command that writes a property, if it is not refused.
use Rattle.std.specs.Prelude.{ℕ, Bool, true, false, Ok, Err}
use Rattle.isolation.specs.Machine.{Effect}
use Rattle.session_model.specs.declared.line.Answer.TheVariants as a
use Rattle.session_model.specs.declared.line.Line.{Line}
use Rattle.session_model.specs.declared.post.Post.{Post}
use Rattle.session_model.specs.Execution.{begun}
use Rattle.session_model.specs.Effects.{does_next, refuses}
use Rattle.session_model.specs.Methods.{Found}
use Rattle.session_model.specs.Settings.{Settings}
use Rattle.session_model.specs.State.{State}
use Rattle.session_model.specs.Writing.{Writing, Declared, written}

-- Whether a declared property is written.
abbrev pub is_declared : Writing → Bool
is_declared (Declared number value) = true
is_declared _ = false

-- Writes a property. The reply at the end is whether it is declared and was written.
abbrev pub sets : Settings → State → ℕ → Found Writing → Effect State Line Post
sets settings state target (Ok writing) = does_next settings (written settings (begun settings state) target 0 writing) (a.Truth (is_declared writing))
sets settings state target (Err code) = refuses state code
