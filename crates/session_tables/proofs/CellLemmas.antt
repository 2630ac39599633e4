-- Declared properties of a store that is sound.
use Rattle.std.proofs.Common.{◌≡◌, ◌∙◌, ◌==◌, ℕ, Option, Some, None, option_and_then, option_map, refl, sym, ap, subst}
use Rattle.std.specs.List.{slice_get}
use Rattle.std.specs.Option.{option_map_or}
use Rattle.std.proofs.lemmas.Option.{get_or_from_slice_get, slice_get-map, slice_get_within}
use Rattle.variant_value.specs.declared.value.Value.{Value}
use Rattle.variant_value.specs.Values.{IsShort, kind_of}
use Rattle.property_store.specs.declared.field.Field.{Field}
use Rattle.property_store.specs.Store.{AreSound, IsSound, Properties, Store, properties_of, value_at}
use Rattle.property_store.proofs.ForCallers.{found}
use Rattle.property_store.specs.declared.property.Property.{Property}
use Rattle.binding_values.specs.Scene.{Cell}
use Rattle.binding_values.specs.Stored.{cell_in, cell_of}

-- a value stands
pub record HasValue (of : Properties) (number : ℕ) : Type 0 where
  pub value : Value
  pub is : slice_get of.values number ≡ Some value

module _ (of : Properties) (are : AreSound of) (number : ℕ) where
  kinds : option_map kind_of (slice_get of.values number) ≡ option_map (λ (field : Field). Some field.kind) (slice_get of.fields number)
  kinds = sym (slice_get-map kind_of of.values number)
      ∙ (ap (λ kinds. slice_get kinds number) are.kinds ∙ slice_get-map (λ (field : Field). Some field.kind) of.fields number)

  -- for each property that is declared
  pub standing : (field : Field) → slice_get of.fields number ≡ Some field → HasValue of number
  standing field is = by (slice_get of.values number) refl
    where
      by : (value : Option Value) → slice_get of.values number ≡ value → HasValue of number
      by None e =
          let never : None ≡ Some (Some field.kind) = ap (option_map kind_of) (sym e)
          ∙ (kinds ∙ ap (option_map (λ (field : Field). Some field.kind)) is) in absurd (cc)
      by (Some value) e = record { value = value; is = e }

  -- and for no other
  missing : slice_get of.fields number ≡ None → slice_get of.values number ≡ None
  missing is = by (slice_get of.values number) refl
    where
      by : (value : Option Value) → slice_get of.values number ≡ value → value ≡ None
      by None e = refl
      by (Some value) e =
          let never : Some (kind_of value) ≡ None = ap (option_map kind_of) (sym e)
          ∙ (kinds ∙ ap (option_map (λ (field : Field). Some field.kind)) is) in absurd (cc)

  -- which is short
  value_short : (value : Value) → slice_get of.values number ≡ Some value → IsShort value
  value_short value is = subst IsShort (get_or_from_slice_get of.values number value value is)
      (are.short number value (slice_get_within of.values number value is))

  -- it is the value of its cell
  pub value_of_cell : option_map (λ (cell : Cell). cell.value) (cell_of number of) ≡ slice_get of.values number
  value_of_cell = by (slice_get of.fields number) refl
    where
      made : (field : Field) (value : Option Value) → option_map (λ (cell : Cell). cell.value)
          (option_map (λ value. let cell : Cell = record { kind = field.kind; value = value } in cell) value) ≡ value
      made field None = refl
      made field (Some value) = refl

      by : (field : Option Field) → slice_get of.fields number ≡ field
          → option_map (λ (cell : Cell). cell.value)
          (option_map_or (λ (field : Field). option_map (λ value. let cell : Cell = record { kind = field.kind; value = value } in cell)
          (slice_get of.values number)) field None) ≡ slice_get of.values number
      by None e = sym (missing e)
      by (Some field) e = made field (slice_get of.values number)

module _ (store : Store) (sound : IsSound store) where
  pub found_sound : (object : ℕ) (of : Properties) → properties_of store object ≡ Some of → AreSound of
  found_sound object of is = let there = found (λ (of : Properties). of.object == object) store of is in subst AreSound (there.is of)
      (sound.each there.at of there.within)

  pub cell_value : (q : Property) → option_map (λ (cell : Cell). cell.value) (cell_in store q) ≡ value_at store q.object q.number
  cell_value q = by (properties_of store q.object) refl
    where
      by : (of : Option Properties) → properties_of store q.object ≡ of
          → option_map (λ (cell : Cell). cell.value) (option_map_or (cell_of q.number) of None)
          ≡ option_and_then (λ (of : Properties). slice_get of.values q.number) of
      by None e = refl
      by (Some of) e = value_of_cell of (found_sound q.object of e) q.number

  pub stored_short : (object number : ℕ) (value : Value) → value_at store object number ≡ Some value → IsShort value
  stored_short object number value is = by (properties_of store object) refl is
    where
      by : (of : Option Properties) → properties_of store object ≡ of → option_and_then (λ (of : Properties). slice_get of.values number) of ≡ Some value
          → IsShort value
      by None e f = absurd (cc)
      by (Some of) e f = value_short of (found_sound object of e) number value f
