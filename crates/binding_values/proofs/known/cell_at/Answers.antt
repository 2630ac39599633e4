use Rattle.std.proofs.Common.{◌≡◌, ◌∙◌, ℕ, Bor, Option, Some, None, ap, option_map, refl, slice_get}
use Rattle.std.specs.Option.{option_map_or}
use Rattle.std.specs.Prelude.{option_and_then}
use Rattle.signature_core.specs.declared.kind.Kind.{Kind}
use Rattle.variant_value.specs.declared.value.Value.{Value}
use Rattle.property_store.specs.Store.{Properties, properties_of, typed_value}
use Rattle.property_store.specs.Table.{store_at}
use Rattle.property_store.specs.declared.field.Field.{Field}
use Rattle.binding_values.specs.Scene.{Cell}
use Rattle.binding_values.specs.Stored.{cell_of}
use Rattle.binding_values.proofs.known.cell_at.Goals as goal

abbrev cell_from : Kind × Value → Cell
cell_from typed = record { kind = typed.0; value = typed.1 }

viewed : (found : Option (Kind × Bor Value)) → option_map (λ cell. record { kind = cell.0; value = cell.1.now }) found
    ≡ option_map cell_from (option_map (λ typed. (typed.0, typed.1.now)) found)
viewed None = refl
viewed (Some typed) = refl

celled : (number : ℕ) (of : Option Properties) → option_map cell_from (option_and_then (typed_value number) of) ≡ option_map_or (cell_of number) of None
celled number None = refl
celled number (Some of) = by (slice_get of.fields number)
  where
    valued : (kind : Kind) (value : Option Value)
        → option_map cell_from (option_map (λ value. (kind, value)) value) ≡ option_map (λ value. record { kind = kind; value = value }) value
    valued kind None = refl
    valued kind (Some value) = refl

    by : (field : Option Field)
        → option_map cell_from (option_and_then (λ (field : Field). option_map (λ value. (field.kind, value)) (slice_get of.values number)) field)
        ≡ option_map_or (λ (field : Field). option_map (λ value. record { kind = field.kind; value = value }) (slice_get of.values number)) field None
    by None = refl
    by (Some field) = valued field.kind (slice_get of.values number)

pub returns : goal.returns
returns c = viewed c.typed_value.result ∙ (ap (option_map cell_from) c.typed_value.ensures
    ∙ celled c.args.at.number (properties_of (store_at c.args.stores.now.shelves c.args.place) c.args.at.object))
