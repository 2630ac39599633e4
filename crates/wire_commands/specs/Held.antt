-- The values at the keys of a command.
use Rattle.std.specs.Prelude.{◌-◌, ◌^◌, ◌&&◌, ◌||◌, ℕ, zero, suc, ℤ, pos, negsuc, Bool, false, List, [], ◌∷◌, codes, bytes_eq}
use Rattle.std.specs.Prelude.{map, nat_le, if◌then◌else◌, Option, Some, None, option_and_then, option_map, is_some}
use Rattle.std.specs.List.{list_any}
use Rattle.std.specs.Option.{option_map_or}
use Rattle.plain_types.specs.Names.{is_name}
use Rattle.serde_json.specs.Data.{Data}
use Rattle.serde_json.specs.Find.{get, as_array, as_bool, as_null, as_object, as_str, as_number, as_i64, as_u64}
use Rattle.plain_types.specs.declared.connection_type.ConnectionType.{ConnectionType}
use Rattle.plain_types.specs.declared.connection_type.ConnectionType.TheVariants.{Auto, Queued}
use Rattle.event_queue.specs.declared.event.Priority.{Priority}
use Rattle.event_queue.specs.declared.event.Priority.TheVariants.{Low, Normal, High}
use Rattle.plain_types.specs.Modes.{mode_named}
use Rattle.session_model.specs.declared.named_property.NamedProperty.{NamedProperty}
use Rattle.json_reading.specs.Fields.{◌>>=◌, when, all_keys, elements_of}
use Rattle.json_reading.specs.Members.{data_of}
use Rattle.wire_commands.specs.declared.held.Held.{Held as HeldInCode}
use Rattle.wire_commands.specs.declared.held.Held.TheVariants as code
use Rattle.wire_commands.specs.declared.keys.Holds.{Holds}
use Rattle.wire_commands.specs.declared.keys.Holds.TheVariants as h
use Rattle.wire_commands.specs.Keys.{Key, needed, optional, key_word}

-- The value at a key.
pub data Held : Type 0 where
  absent : Held
  none : Held
  number : ℕ → Held
  text : List ℕ → Held
  truth : Bool → Held
  mode : ConnectionType → Held
  priority : Priority → Held
  list : List Data → Held
  object_property : ℕ → List ℕ → Held
  any : Data → Held

abbrev pub held_seen : HeldInCode → Held
held_seen code.Absent = absent
held_seen code.Null = none
held_seen (code.Number n) = number n
held_seen (code.Text t) = text t.now
held_seen (code.Truth t) = truth t
held_seen (code.Mode m) = mode m
held_seen (code.Priority p) = priority p
held_seen (code.List field) = list (elements_of (data_of field.now))
held_seen (code.Property n name) = object_property n name.now
held_seen (code.Any field) = any (data_of field.now)

-- The number, if the value is one.
abbrev pub number_of : Held → Option ℕ
number_of (number n) = Some n
number_of held = None

-- The text, if the value is one.
abbrev pub text_of : Held → Option (List ℕ)
text_of (text t) = Some t
text_of held = None

-- The truth value; false if there is none.
abbrev pub truth_of : Held → Bool
truth_of (truth t) = t
truth_of held = false

-- The connection type; `auto` if there is none.
abbrev pub mode_of : Held → ConnectionType
mode_of (mode m) = m
mode_of held = Auto

-- The priority of a call's event; `Normal` if there is none. Only a queued call has a priority.
abbrev pub priority_for : ConnectionType → Held → Option Priority
priority_for way absent = Some Normal
priority_for Queued (priority p) = Some p
priority_for way held = None

-- The elements of the array, if the value is one.
abbrev pub list_of : Held → Option (List Data)
list_of (list elements) = Some elements
list_of held = None

-- The property, if the value is one.
abbrev pub property_of : Held → Option NamedProperty
property_of (object_property n name) = Some (record { object = n; property = name })
property_of held = None

-- The JSON, if there is any.
abbrev pub json_of : Held → Option Data
json_of (any json) = Some json
json_of held = None

-- The number of an object or a connection.
abbrev pub number_in : Data → Option ℕ
number_in json = do
  figure ← as_number json
  n ← as_u64 figure
  when (nat_le 1 n && nat_le n (2 ^ 32 - 1)) n

-- A whole number with its sign.
abbrev pub signed_in : Data → Option ℤ
signed_in json = option_and_then as_i64 (as_number json)

-- The priority with this number: -1, 0 or 1.
abbrev pub priority_numbered : ℤ → Option Priority
priority_numbered (negsuc zero) = Some Low
priority_numbered (pos zero) = Some Normal
priority_numbered (pos (suc zero)) = Some High
priority_numbered other = None

-- A priority.
abbrev pub priority_in : Data → Option Priority
priority_in json = option_and_then priority_numbered (signed_in json)

-- Whether a key is one of the two in an object that names a property.
abbrev pub is_property_key : List ℕ → Bool
is_property_key key = bytes_eq key (codes "object") || bytes_eq key (codes "property")

abbrev pub has_property_keys : Data → Bool
has_property_keys json = option_map_or (all_keys is_property_key) (as_object json) false

-- A property: an object with the number of the property's object, and the property's name.
abbrev pub property_in : Data → Option Held
property_in json = do
  target ← get (codes "object") json
  named ← get (codes "property") json
  n ← number_in target
  name ← as_str named
  when (is_name name && has_property_keys json) (object_property n name)

-- A value, read as the key says.
abbrev pub reads : Holds → Data → Option Held
reads h.Name json = do
  name ← as_str json
  when (is_name name) (text name)
reads h.Text json = option_map text (as_str json)
reads h.Number json = option_map number (number_in json)
reads h.NumberOrNull json = if is_some (as_null json) then Some none else option_map number (number_in json)
reads h.Truth json = option_map truth (as_bool json)
reads h.Mode json = option_map mode (option_and_then mode_named (as_str json))
reads h.Priority json = option_map priority (priority_in json)
reads h.List json = when (is_some (as_array json)) (list (elements_of json))
reads h.Property json = property_in json
reads h.Any json = Some (any json)

-- The value at a key.
abbrev pub held_at : Data → Key → Option Held
held_at json (needed word holds) = option_and_then (reads holds) (get word json)
held_at json (optional word holds) = option_map_or (reads holds) (get word json) (Some absent)

-- The values at these keys.
abbrev pub all_held : Data → List Key → Option (List Held)
all_held json [] = Some []
all_held json (key ∷ keys) = do
  first ← held_at json key
  rest ← all_held json keys
  Some (first ∷ rest)

-- Whether every command has this key.
abbrev pub is_common : List ℕ → Bool
is_common key = bytes_eq key (codes "do") || bytes_eq key (codes "session")

-- Whether a key is one of these, or one that every command has.
abbrev pub is_known : List (List ℕ) → List ℕ → Bool
is_known keys key = is_common key || list_any (bytes_eq key) keys

-- Whether JSON is an object with no other keys than these and those that every command has.
unfoldable pub has_only : List (List ℕ) → Data → Bool
has_only keys json = option_map_or (all_keys (is_known keys)) (as_object json) false

-- The values at these keys, if there are no others.
unfoldable pub held_by : Data → List Key → Option (List Held)
held_by json keys = if has_only (map key_word keys) json then all_held json keys else None
