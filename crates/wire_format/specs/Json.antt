-- Numbers, names, lists and what may be missing, in JSON.
use Rattle.std.specs.Prelude.{ℕ, List, codes, Option, Some, None, map}
use Rattle.serde_json.specs.Data.{Data, null, number, string, array, unsigned}
use Rattle.serde_json.specs.View.{items_of}
use Rattle.plain_types.specs.Codes.{code_text}
use Rattle.plain_types.specs.declared.code.Code.{Code}
use Rattle.plain_types.specs.declared.connection_type.ConnectionType.{ConnectionType}
use Rattle.plain_types.specs.declared.connection_type.ConnectionType.TheVariants.{Auto, Direct, Queued}
use Rattle.signature_core.specs.declared.kind.Kind.{Kind}
use Rattle.signature_core.specs.Kinds.{kind_name}
use Rattle.binding_values.specs.declared.property.BindingError.{BindingError}
use Rattle.binding_values.specs.declared.property.BindingError.TheVariants.{BindingLoop, EvaluationError}

-- A number in JSON.
abbrev pub json_of_number : ℕ → Data
json_of_number n = number (unsigned n)

-- A value in JSON; null if there is none.
abbrev pub json_or_null : {A : Type 0} → (A → Data) → Option A → Data
json_or_null json None = null
json_or_null json (Some value) = json value

-- A list as an array, each element in JSON.
abbrev pub array_of : {A : Type 0} → (A → Data) → List A → Data
array_of json elements = array (items_of (map json elements))

-- A code as the protocol prints it.
abbrev pub json_of_code : Code → Data
json_of_code code = string (code_text code)

-- The name of a kind.
abbrev pub json_of_kind : Kind → Data
json_of_kind kind = string (kind_name kind)

-- The name of a connection's type.
abbrev pub mode_name : ConnectionType → List ℕ
mode_name Auto = codes "auto"
mode_name Direct = codes "direct"
mode_name Queued = codes "queued"

abbrev pub json_of_mode : ConnectionType → Data
json_of_mode mode = string (mode_name mode)

-- The name of a binding's error.
abbrev pub error_name : BindingError → List ℕ
error_name BindingLoop = codes "BindingLoop"
error_name EvaluationError = codes "EvaluationError"

abbrev pub json_of_error : BindingError → Data
json_of_error error = string (error_name error)
