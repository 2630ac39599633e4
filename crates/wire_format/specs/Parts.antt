-- A line's text in parts.
use Rattle.std.specs.Prelude.{ℕ, Bool, true, false, List, ◌++◌, codes, is_none}
use Rattle.std.specs.List.{list_all}
use Rattle.session_model.specs.declared.line.Answer.{Answer}
use Rattle.session_model.specs.declared.line.Answer.TheVariants as answer
use Rattle.session_model.specs.declared.line.Line.{Line}
use Rattle.session_model.specs.declared.line.Line.TheVariants.{Reply, Error}
use Rattle.variant_value.specs.declared.value.Value.{Value}
use Rattle.variant_value.specs.declared.value.Value.TheVariants.{Text}
use Rattle.wire_format.specs.declared.parts.Parts.{Parts}
use Rattle.wire_format.specs.Text.{is_plain_byte}

abbrev pub text_of_parts : Parts → List ℕ
text_of_parts parts = parts.opening.now ++ (parts.told.now ++ (parts.between.now ++ (parts.session.now ++ codes "\"}\n")))

-- Whether a value is written without escapes.
abbrev pub is_plain_value : Value → Bool
is_plain_value (Text text) = list_all is_plain_byte text
is_plain_value _ = true

-- Whether an answer is one such value.
abbrev pub is_plain_answer : Answer → Bool
is_plain_answer (answer.Number n) = true
is_plain_answer (answer.Found found) = true
is_plain_answer (answer.Truth truth) = true
is_plain_answer (answer.BindingError error) = true
is_plain_answer (answer.Value value) = is_plain_value value
is_plain_answer (answer.Binding term) = is_none term
is_plain_answer answer = false

-- Whether a line is written in parts.
abbrev pub has_parts : Line → Bool
has_parts (Reply answer) = is_plain_answer answer
has_parts (Error code) = true
has_parts line = false
