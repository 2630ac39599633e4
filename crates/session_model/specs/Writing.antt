-- Writes to the properties of an object, and their announcements.
use Rattle.std.specs.Prelude.{ℕ, List, Option, Ok, Err, slice_get, option_map, option_and_then, Some, None}
use Rattle.std.specs.Option.{ok_or, option_map_or}
use Rattle.plain_types.specs.declared.code.Code.TheVariants.{BadValue}
use Rattle.serde_json.specs.Data.{Data, null}
use Rattle.signature_core.specs.declared.kind.Kind.{Kind}
use Rattle.variant_value.specs.declared.value.Value.{Value}
use Rattle.variant_value.specs.declared.value.Value.TheVariants as v
use Rattle.variant_value.specs.Values.{converted, inferred, text_of, value_of}
use Rattle.property_store.specs.declared.property.Property.{Property as At}
use Rattle.property_store.specs.Store.{dynamic_refusal, field_number, properties_of, with_dynamic, with_value, without_dynamic}
use Rattle.session_model.specs.Execution.{Execution}
use Rattle.session_model.specs.Items.{Next}
use Rattle.session_model.specs.Methods.{Found, ◌>>=◌}
use Rattle.session_model.specs.Settings.{Settings}
use Rattle.session_model.specs.Showing.{comes_to}
use Rattle.session_model.specs.State.{State, with_properties, without_binding}

pub data Writing : Type 0 where
  -- Sets a declared property to a value of its kind.
  Declared : (number : ℕ) (value : Value) → Writing
  -- Sets a dynamic property to a value. If there is none with this name, it is added.
  Dynamic : (name : List ℕ) (value : Value) → Writing
  -- Removes a dynamic property, if there is one with this name.
  Removed : (name : List ℕ) → Writing
  -- Writes nothing.
  Nothing : Writing

-- A property that an object's class declares.
pub record DeclaredField : Type 0 where
  pub number : ℕ
  pub kind : Kind

-- The declared property of an object with this name.
abbrev pub declared : State → ℕ → List ℕ → Option DeclaredField
declared state object name =
    option_and_then (λ of.
    option_and_then (λ number.
    option_map (λ field. record { number = number; kind = field.kind })
    (slice_get of.fields number)) (field_number name of.fields)) (properties_of state.store object)

-- A value, unless it is a text that is too long.
abbrev pub short : Value → Found Value
short (v.Text text) = text_of text
short value = Ok value

-- An invalid value removes a dynamic property, and any other value sets it.
abbrev pub dynamic_writing : State → ℕ → List ℕ → Value → Found Writing
dynamic_writing state object name v.Invalid = Ok (Removed name)
dynamic_writing state object name value = option_map_or Err (dynamic_refusal state.store object name) (Ok (Dynamic name value))

-- Null leaves a declared property unchanged.
abbrev pub asked_place : Data → DeclaredField → Found Writing
asked_place null place = Ok Nothing
asked_place json place = value_of place.kind json >>= λ value. Ok (Declared place.number value)

-- The write of a command: to a declared property the JSON's value as the property's kind, to another property the JSON's
-- own value.
abbrev pub asked_writing : State → ℕ → List ℕ → Data → Found Writing
asked_writing state object name json =
    option_map_or (asked_place json) (declared state object name)
    (inferred json >>= dynamic_writing state object name)

-- The write of an action: to a declared property its value, converted to the property's kind.
abbrev pub acted_writing : State → ℕ → List ℕ → Value → Found Writing
acted_writing state object name value =
    option_map_or (λ place. ok_or (converted place.kind value) BadValue >>= short >>= λ value. Ok (Declared place.number value)) (declared state object name)
    (short value >>= dynamic_writing state object name)

-- The state after a write. A declared property that is written loses its binding.
abbrev pub with_writing : State → ℕ → Writing → State
with_writing state object (Declared number value) =
    without_binding (with_properties state object (with_value number value)) (record { object = object; number = number })
with_writing state object (Dynamic name value) = with_properties state object (with_dynamic name value)
with_writing state object (Removed name) = with_properties state object (without_dynamic name)
with_writing state object Nothing = state

-- The declared property that is written, if one is.
abbrev pub written_property : ℕ → Writing → Option At
written_property object (Declared number value) = Some (record { object = object; number = number })
written_property object _ = None

-- Writes, and then announces what has changed.
abbrev pub written : Settings → Execution → ℕ → ℕ → Writing → Next
written settings doing object depth writing = comes_to settings doing depth (with_writing doing.state object writing) (written_property object writing)
