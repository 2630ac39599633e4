-- Values, their kinds and their JSON.
use Rattle.std.specs.Prelude.{◌≡◌, ◌≤◌, ◌&&◌, ◌^◌, ◌-◌, ℕ, ℤ, pos, neg_ℤ, Bool, List, length, true, false, not, bytes_eq, ◌==◌, Option, Some}
use Rattle.std.specs.Prelude.{None, Result, Ok, Err, option_map, option_and_then, if◌then◌else◌, int_le, nat_le, unsigned_abs}
use Rattle.std.specs.Option.{ok_or, option_or, option_map_or}
use Rattle.std.specs.Ordering.{int_eq}
use Rattle.serde_json.specs.Data.{Data, null, boolean, number, string, array, object, unsigned}
use Rattle.serde_json.specs.Find.{as_bool, as_number, as_str, as_integer, of_integer}
use Rattle.signature_core.specs.declared.kind.Kind.{Kind}
use Rattle.signature_core.specs.declared.kind.Kind.TheVariants as k
use Rattle.plain_types.specs.declared.code.Code.{Code}
use Rattle.plain_types.specs.declared.code.Code.TheVariants.{BadValue, Limit}
use Rattle.variant_value.specs.declared.value.TheConstants.{TEXT_BYTES}
use Rattle.variant_value.specs.declared.value.Value.{Value}
use Rattle.variant_value.specs.declared.value.Value.TheVariants as v

-- Whether `z` is `least`, `most`, or between them.
abbrev pub is_within : ℤ → ℤ → ℤ → Bool
is_within least most z = int_le least z && int_le z most

-- A whole number as a value of a number kind, if it is in the kind's range.
abbrev pub number_of : Kind → ℤ → Option Value
number_of k.Bool z = None
number_of k.Int z = if is_within (neg_ℤ (pos (2 ^ 31))) (pos (2 ^ 31 - 1)) z then Some (v.Int z) else None
number_of k.Uint z = if is_within (pos 0) (pos (2 ^ 32 - 1)) z then Some (v.Uint (unsigned_abs z)) else None
number_of k.Longlong z = if is_within (neg_ℤ (pos (2 ^ 63))) (pos (2 ^ 63 - 1)) z then Some (v.Longlong z) else None
number_of k.Ulonglong z = if is_within (pos 0) (pos (2 ^ 64 - 1)) z then Some (v.Ulonglong (unsigned_abs z)) else None
number_of k.Text z = None

-- A text as a value, unless it is too long.
abbrev pub text_of : List ℕ → Result Value Code
text_of text = if nat_le (length text) TEXT_BYTES then Ok (v.Text text) else Err Limit

-- The whole number in JSON.
abbrev pub whole_number : Data → Option ℤ
whole_number json = option_and_then as_integer (as_number json)

-- The value in JSON, as a number kind.
abbrev pub read_number : Kind → Data → Result Value Code
read_number kind json = ok_or (option_and_then (number_of kind) (whole_number json)) BadValue

-- The value in JSON, as this kind, or why there is none.
abbrev pub value_of : Kind → Data → Result Value Code
value_of k.Bool json = ok_or (option_map v.Bool (as_bool json)) BadValue
value_of k.Int json = read_number k.Int json
value_of k.Uint json = read_number k.Uint json
value_of k.Longlong json = read_number k.Longlong json
value_of k.Ulonglong json = read_number k.Ulonglong json
value_of k.Text json = option_map_or text_of (as_str json) (Err BadValue)

-- A whole number as a value of the first kind that can hold it.
abbrev pub inferred_number : ℤ → Option Value
inferred_number z = option_or (number_of k.Int z) (option_or (number_of k.Longlong z) (number_of k.Ulonglong z))

-- The value in JSON, of the kind that the JSON itself has, or why there is none.
abbrev pub inferred : Data → Result Value Code
inferred null = Ok v.Invalid
inferred (boolean b) = Ok (v.Bool b)
inferred (number n) = ok_or (option_and_then inferred_number (as_integer n)) BadValue
inferred (string text) = text_of text
inferred (array ds) = Err BadValue
inferred (object ms) = Err BadValue

-- The JSON of a value.
abbrev pub json_of : Value → Data
json_of v.Invalid = null
json_of (v.Bool b) = boolean b
json_of (v.Int z) = number (of_integer z)
json_of (v.Uint n) = number (unsigned n)
json_of (v.Longlong z) = number (of_integer z)
json_of (v.Ulonglong n) = number (unsigned n)
json_of (v.Text text) = string text

-- The kind of a value. The invalid value has none.
abbrev pub kind_of : Value → Option Kind
kind_of v.Invalid = None
kind_of (v.Bool b) = Some k.Bool
kind_of (v.Int z) = Some k.Int
kind_of (v.Uint n) = Some k.Uint
kind_of (v.Longlong z) = Some k.Longlong
kind_of (v.Ulonglong n) = Some k.Ulonglong
kind_of (v.Text text) = Some k.Text

-- A text is not too long.
abbrev pub IsShort : Value → Type 0
IsShort v.Invalid = Unit {0}
IsShort (v.Bool b) = Unit {0}
IsShort (v.Int z) = Unit {0}
IsShort (v.Uint n) = Unit {0}
IsShort (v.Longlong z) = Unit {0}
IsShort (v.Ulonglong n) = Unit {0}
IsShort (v.Text text) = length text ≤ TEXT_BYTES

-- A value that a property or a parameter of this kind may hold.
abbrev pub IsOfKind : Kind → Value → Type 0
IsOfKind kind value = (kind_of value ≡ Some kind) × IsShort value

-- The truth value, whole number or text in a value.
abbrev pub truth_in : Value → Option Bool
truth_in v.Invalid = None
truth_in (v.Bool b) = Some b
truth_in (v.Int z) = None
truth_in (v.Uint n) = None
truth_in (v.Longlong z) = None
truth_in (v.Ulonglong n) = None
truth_in (v.Text text) = None

abbrev pub number_in : Value → Option ℤ
number_in v.Invalid = None
number_in (v.Bool b) = None
number_in (v.Int z) = Some z
number_in (v.Uint n) = Some (pos n)
number_in (v.Longlong z) = Some z
number_in (v.Ulonglong n) = Some (pos n)
number_in (v.Text text) = None

abbrev pub text_in : Value → Option (List ℕ)
text_in v.Invalid = None
text_in (v.Bool b) = None
text_in (v.Int z) = None
text_in (v.Uint n) = None
text_in (v.Longlong z) = None
text_in (v.Ulonglong n) = None
text_in (v.Text text) = Some text

-- A value, converted to a kind.
abbrev pub converted : Kind → Value → Option Value
converted k.Bool value = option_map v.Bool (truth_in value)
converted k.Int value = option_and_then (number_of k.Int) (number_in value)
converted k.Uint value = option_and_then (number_of k.Uint) (number_in value)
converted k.Longlong value = option_and_then (number_of k.Longlong) (number_in value)
converted k.Ulonglong value = option_and_then (number_of k.Ulonglong) (number_in value)
converted k.Text value = option_map v.Text (text_in value)

-- Whether two values are equal: of the same kind, with the same content.
abbrev pub is_same : Value → Value → Bool
is_same v.Invalid v.Invalid = true
is_same (v.Bool a) (v.Bool b) = if a then b else not b
is_same (v.Int a) (v.Int b) = int_eq a b
is_same (v.Uint a) (v.Uint b) = a == b
is_same (v.Longlong a) (v.Longlong b) = int_eq a b
is_same (v.Ulonglong a) (v.Ulonglong b) = a == b
is_same (v.Text a) (v.Text b) = bytes_eq a b
is_same _ _ = false
