-- The form in which an answer is written.
use Rattle.std.specs.Prelude.{ℕ, Bool, true, false, List}
use Rattle.std.specs.List.{list_all}
use Rattle.serde_json.specs.Data.{string}
use Rattle.serde_json.specs.Written.{compact_text}
use Rattle.wire_format.specs.declared.shown.Shown.{Shown}
use Rattle.wire_format.specs.declared.shown.Shown.TheVariants.{Word, Text, Numbers, Names, Meta, Spun, Status}
use Rattle.wire_format.specs.declared.shown.Shown.TheVariants.{Functors, Publications, Joins, Object, Class, Connections, Properties}
use Rattle.wire_format.specs.declared.shown.Shown.TheVariants.{Bindings, Expression}
use Rattle.wire_format.specs.Descriptions.{json_of_class, json_of_connection, json_of_functor, json_of_join, json_of_meta, json_of_named_property}
use Rattle.wire_format.specs.Descriptions.{json_of_object, json_of_property, json_of_publication, json_of_spin, json_of_status}
use Rattle.wire_format.specs.Json.{array_of, json_of_number}
use Rattle.wire_format.specs.Terms.{json_of_term}
use Rattle.wire_format.specs.Text.{is_plain_byte}

abbrev pub text_of_shown : Shown → List ℕ
text_of_shown (Word word) = word.now
text_of_shown (Text text) = compact_text (string text.now)
text_of_shown (Numbers numbers) = compact_text (array_of json_of_number numbers.now)
text_of_shown (Names names) = compact_text (array_of string names.now)
text_of_shown (Meta meta) = compact_text (json_of_meta meta.now)
text_of_shown (Spun spin) = compact_text (json_of_spin spin.now)
text_of_shown (Status status) = compact_text (json_of_status status.now)
text_of_shown (Functors functors) = compact_text (array_of json_of_functor functors.now)
text_of_shown (Publications publications) = compact_text (array_of json_of_publication publications.now)
text_of_shown (Joins joins) = compact_text (array_of json_of_join joins.now)
text_of_shown (Object described) = compact_text (json_of_object described.now)
text_of_shown (Class described) = compact_text (json_of_class described.now)
text_of_shown (Connections rows) = compact_text (array_of json_of_connection rows.now)
text_of_shown (Properties properties) = compact_text (array_of json_of_property properties.now)
text_of_shown (Bindings bindings) = compact_text (array_of json_of_named_property bindings.now)
text_of_shown (Expression expr) = compact_text (json_of_term expr.now)

-- Whether an answer is a word, or a text without escapes.
abbrev pub is_plain_shown : Shown → Bool
is_plain_shown (Word word) = true
is_plain_shown (Text text) = list_all is_plain_byte text.now
is_plain_shown shown = false
