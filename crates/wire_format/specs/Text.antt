-- The text of a line that a session receives.
use Rattle.std.specs.Prelude.{◌==◌, ◌&&◌, ◌||◌, ℕ, Bool, not, List, [], ◌∷◌, ◌++◌, bytes_eq, codes, nat_le, unwrap_or, Option, Some, None}
use Rattle.serde_json.specs.Data.{Data, Members, boolean, string, object, no_members, member}
use Rattle.serde_json.specs.Written.{compact_text}
use Rattle.plain_types.specs.Names.{is_name}
use Rattle.session_model.specs.declared.line.Answer.{Answer}
use Rattle.session_model.specs.declared.line.Answer.TheVariants.{Number, Found, Numbers, Truth, BindingError as StoodFor}
use Rattle.session_model.specs.declared.line.Answer.TheVariants.{Value, Names, Meta, Spun, Status as Counted}
use Rattle.session_model.specs.declared.line.Answer.TheVariants.{Functors, Publications, Joins, Object, Class, Connections}
use Rattle.session_model.specs.declared.line.Answer.TheVariants.{Properties, Bindings, Binding}
use Rattle.session_model.specs.declared.line.Line.{Line}
use Rattle.session_model.specs.declared.line.Line.TheVariants.{Reply, Error, Call, Warning, BindingWarning}
use Rattle.variant_value.specs.Values.{json_of}
use Rattle.wire_format.specs.Json.{array_of, json_of_code, json_of_error, json_of_number, json_or_null}
use Rattle.wire_format.specs.Descriptions.{json_of_class, json_of_connection, json_of_functor, json_of_join, json_of_meta, json_of_named_property}
use Rattle.wire_format.specs.Descriptions.{json_of_object, json_of_property, json_of_publication, json_of_spin, json_of_status}
use Rattle.wire_format.specs.Terms.{json_of_term}
use Rattle.wire_format.specs.declared.fault.LineFault.{LineFault}

-- An answer in JSON.
abbrev pub json_of_answer : Answer → Data
json_of_answer (Number n) = json_of_number n
json_of_answer (Found found) = json_or_null json_of_number found
json_of_answer (Numbers ns) = array_of json_of_number ns
json_of_answer (Truth truth) = boolean truth
json_of_answer (StoodFor error) = json_or_null json_of_error error
json_of_answer (Value value) = json_of value
json_of_answer (Names names) = array_of string names
json_of_answer (Meta meta) = json_of_meta meta
json_of_answer (Spun spin) = json_of_spin spin
json_of_answer (Counted status) = json_of_status status
json_of_answer (Functors functors) = array_of json_of_functor functors
json_of_answer (Publications publications) = array_of json_of_publication publications
json_of_answer (Joins joins) = array_of json_of_join joins
json_of_answer (Object described) = json_of_object described
json_of_answer (Class described) = json_of_class described
json_of_answer (Connections rows) = array_of json_of_connection rows
json_of_answer (Properties properties) = array_of json_of_property properties
json_of_answer (Bindings bindings) = array_of json_of_named_property bindings
json_of_answer (Binding term) = json_or_null json_of_term term

-- The member for the session that a line names, before the other members.
abbrev pub in_session : List ℕ → Members → Members
in_session session later = member (codes "session") (string session) later

-- The member for the object that a warning names, if it names one.
abbrev pub about : Option ℕ → Members → Members
about None later = later
about (Some n) later = member (codes "object") (json_of_number n) later

-- A line in JSON, its keys in byte order.
abbrev pub said_in_json : List ℕ → Line → Data
said_in_json session (Reply answer) = object (member (codes "reply") (json_of_answer answer) (in_session session no_members))
said_in_json session (Error code) = object (member (codes "error") (json_of_code code) (in_session session no_members))
said_in_json session (Call call) =
    object (member (codes "args") (array_of json_of call.args) (
    member (codes "call") (string call.method) (
    member (codes "object") (json_of_number call.object) (
    member (codes "sender") (json_of_number call.sender) (in_session session no_members)))))
said_in_json session (Warning code named) = object (about named (in_session session (member (codes "warning") (json_of_code code) no_members)))
said_in_json session (BindingWarning named property error) =
    object (member (codes "object") (json_of_number named) (
    member (codes "property") (string property) (
    in_session session (member (codes "warning") (json_of_error error) no_members))))

-- The text of a line, with its line feed.
unfoldable pub text_of_line : List ℕ → Line → List ℕ
text_of_line session line = compact_text (said_in_json session line) ++ 10 ∷ []

-- The session for which a fault is reported: `-` if the line names none.
abbrev pub blamed : LineFault → List ℕ
blamed fault = unwrap_or fault.session (codes "-")

-- Whether a line may name this as its session: a valid name, or `-`.
abbrev pub is_session_text : List ℕ → Bool
is_session_text text = is_name text || bytes_eq text (codes "-")

-- A byte that JSON does not escape.
abbrev pub is_plain_byte : ℕ → Bool
is_plain_byte byte = nat_le 32 byte && not (byte == 34) && not (byte == 92)
