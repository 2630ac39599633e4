-- What contracts see of a write to the property with a name.
use Rattle.std.specs.Prelude.{ℕ, Bool, List, Option, Result, Ok, Err, option_and_then}
use Rattle.std.specs.Option.{option_map_or}
use Rattle.signature_core.specs.declared.kind.Kind.{Kind}
use Rattle.variant_value.specs.declared.value.Value.{Value}
use Rattle.property_store.specs.declared.unwritten.Unwritten.{Unwritten}
use Rattle.property_store.specs.declared.unwritten.Unwritten.TheVariants.{Refused, Undeclared}
use Rattle.property_store.specs.Store.{Store, declared_in, is_change, properties_of, write_refusal, written}

-- The number and the kind of the declared property with a name.
abbrev pub declared_at : Store → ℕ → List ℕ → Option (ℕ × Kind)
declared_at store object name = option_and_then (λ of. declared_in name of.fields) (properties_of store object)

-- The result of writing a value to a declared property: its number, and whether this is a change.
abbrev pub answer_at : Store → ℕ → Value → ℕ → Result (ℕ × Bool) Unwritten
answer_at store object value number =
    option_map_or (λ code. Err (Refused code)) (write_refusal store object number value) (Ok (number, is_change store object number value))

-- The result of writing a value to the property with a name.
abbrev pub answer_named : Store → ℕ → List ℕ → Value → Result (ℕ × Bool) Unwritten
answer_named store object name value =
    option_map_or (λ (at : ℕ × Kind). answer_at store object value at.0) (declared_at store object name) (Err (Undeclared value))

-- The store after a value is written to the property with a name.
abbrev pub written_named : Store → ℕ → List ℕ → Value → Store
written_named store object name value = option_map_or (λ (at : ℕ × Kind). written store object at.0 value) (declared_at store object name) store
