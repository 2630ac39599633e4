-- Declared properties as the tables and as a state see them.
use Rattle.std.proofs.Common.{◌≡◌, ℕ, List, Option, Some, None, refl}
use Rattle.std.specs.List.{slice_get}
use Rattle.std.specs.Option.{option_map}
use Rattle.std.specs.Prelude.{option_and_then}
use Rattle.signature_core.specs.declared.kind.Kind.{Kind}
use Rattle.property_store.specs.declared.field.Field.{Field}
use Rattle.property_store.specs.Store.{Properties, declared_in, field_number, properties_of}
use Rattle.session_model.specs.State.{State}
use Rattle.session_model.specs.Writing.{DeclaredField, declared}

abbrev pub pair_of : DeclaredField → ℕ × Kind
pair_of place = (place.number, place.kind)

abbrev place_in : List Field → ℕ → Option DeclaredField
place_in fields number = option_map (λ (field : Field). record { number = number; kind = field.kind }) (slice_get fields number)

-- the number and the kind of a declared property
pub declared_pair : (state : State) (object : ℕ) (name : List ℕ)
    → option_and_then (λ (of : Properties). declared_in name of.fields) (properties_of state.store object)
    ≡ option_map (λ (place : DeclaredField). (place.number, place.kind)) (declared state object name)
declared_pair state object name = by_object (properties_of state.store object)
  where
    by_field : (number : ℕ) (field : Option Field) → option_map (λ (field : Field). (number, field.kind)) field
        ≡ option_map pair_of (option_map (λ (field : Field). record { number = number; kind = field.kind }) field)
    by_field number None = refl
    by_field number (Some field) = refl

    by_number : (fields : List Field) (number : Option ℕ) → option_and_then
        (λ number. option_map (λ (field : Field). (number, field.kind)) (slice_get fields number)) number
        ≡ option_map pair_of (option_and_then (place_in fields) number)
    by_number fields None = refl
    by_number fields (Some number) = by_field number (slice_get fields number)

    by_object : (found : Option Properties) → option_and_then (λ (of : Properties). declared_in name of.fields) found
        ≡ option_map pair_of (option_and_then (λ (of : Properties). option_and_then (place_in of.fields) (field_number name of.fields)) found)
    by_object None = refl
    by_object (Some of) = by_number of.fields (field_number name of.fields)
