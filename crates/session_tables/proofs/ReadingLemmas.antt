-- What is found of a property by its name.
use Rattle.std.proofs.Common.{◌≡◌, ◌∙◌, ℕ, Bool, true, false, cond, List, Option, Some, None, bytes_eq, option_and_then, option_map, ⊎_elim, refl, sym, ap}
use Rattle.std.proofs.Common.{arith}
use Rattle.std.specs.List.{slice_get}
use Rattle.std.specs.Option.{option_map_or}
use Rattle.std.proofs.lemmas.Option.{slice_get_cases}
use Rattle.signature_core.specs.declared.kind.Kind.{Kind}
use Rattle.variant_value.specs.declared.value.Value.{Value}
use Rattle.variant_value.specs.declared.value.Value.TheVariants.{Invalid}
use Rattle.property_store.specs.declared.field.Field.{Field}
use Rattle.property_store.specs.Store.{IsSound, Properties, Store, declared_in, dynamic_value, field_number, named_value, properties_of}
use Rattle.property_store.proofs.ForCallers.{position_some}
use Rattle.binding_values.specs.declared.property.BindingError.{BindingError}
use Rattle.property_store.specs.declared.property.Property.{Property}
use Rattle.binding_values.specs.Graph.{Graph, is_bound, value_in}
use Rattle.binding_values.specs.Scene.{Cell}
use Rattle.binding_values.specs.Stored.{cell_in}
use Rattle.session_tables.specs.Reading.{bound_named, named_in}
use Rattle.session_tables.proofs.CellLemmas.{cell_value, found_sound, standing}
use Rattle.session_tables.proofs.ShowingLemmas.{unbound_shown}

-- what is not found
pub no_some : {X : Type 0} {found other : Option X} → found ≡ other → ((x : X) → found ≡ Some x → ⊥) → other ≡ None
no_some {X} {found} {other} e never = by other e
  where
    by : (other : Option X) → found ≡ other → other ≡ None
    by None e = refl
    by (Some x) e = absurd (never x e)

module _ (store : Store) (graph : Graph) (object : ℕ) (name : List ℕ) where
  abbrev at : ℕ → Property
  at number = record { object = object; number = number }

  abbrev shows : ℕ → Option Value
  shows number = Some (value_in store graph (at number)).0

  abbrev where_bound : ℕ → Bool → Option Property
  where_bound number bound = cond bound (Some (at number)) None

  abbrev bound_of : ℕ × Kind → Option Property
  bound_of found = where_bound found.0 (is_bound graph.bindings (at found.0))

  -- a bound property shows its value
  pub named_bound : (q : Property) → bound_named store graph object name ≡ Some q → named_in store graph object name ≡ Some (value_in store graph q).0
  named_bound q e = by (properties_of store object) e
    where
      by_bound : (number : ℕ) (bound : Bool) → where_bound number bound ≡ Some q → shows number ≡ Some (value_in store graph q).0
      by_bound number true f = let same : at number ≡ q = cc in ap (λ q. Some (value_in store graph q).0) same
      by_bound number false f = absurd (cc)

      by_field : (number : ℕ) (field : Option Field) → option_and_then bound_of (option_map {U = ℕ × Kind} (λ (field : Field). (number, field.kind)) field)
          ≡ Some q → shows number ≡ Some (value_in store graph q).0
      by_field number None f = absurd (cc)
      by_field number (Some field) f = by_bound number (is_bound graph.bindings (at number)) f

      by_number : (of : Properties) (number : Option ℕ) → option_and_then bound_of
          (option_and_then (λ number. option_map {U = ℕ × Kind} (λ (field : Field). (number, field.kind)) (slice_get of.fields number)) number) ≡ Some q
          → option_map_or shows number (dynamic_value name of.dynamic) ≡ Some (value_in store graph q).0
      by_number of None f = absurd (cc)
      by_number of (Some number) f = by_field number (slice_get of.fields number) f

      by : (of : Option Properties) → option_and_then bound_of (option_and_then (λ (of : Properties). declared_in name of.fields) of) ≡ Some q
          → option_and_then (λ (of : Properties). option_map_or shows (field_number name of.fields) (dynamic_value name of.dynamic)) of
          ≡ Some (value_in store graph q).0
      by None f = absurd (cc)
      by (Some of) f = by_number of (field_number name of.fields) f

  -- and any other one what is stored
  pub named_unbound : IsSound store → bound_named store graph object name ≡ None
      → named_in store graph object name ≡ option_and_then (named_value name) (properties_of store object)
  named_unbound sound e = by (properties_of store object) refl e
    where
      its_value : (cell : Option Cell) (value : Value) → option_map (λ (cell : Cell). cell.value) cell ≡ Some value
          → option_map_or (λ (cell : Cell). cell.value) cell Invalid ≡ value
      its_value None value f = absurd (cc)
      its_value (Some cell) value f = cc

      free : (number : ℕ) (bound : Bool) → where_bound number bound ≡ None → bound ≡ false
      free number true f = absurd (cc)
      free number false f = refl

      stored : (of : Properties) → properties_of store object ≡ Some of → (number : ℕ) (field : Field) → slice_get of.fields number ≡ Some field
          → is_bound graph.bindings (at number) ≡ false → shows number ≡ slice_get of.values number
      stored of there number field is unbound =
          let value = standing of (found_sound store sound object of there) number field is in
          let cell : option_map (λ (cell : Cell). cell.value) (cell_in store (at number)) ≡ Some value.value = cell_value store sound (at number)
          ∙ (ap (option_and_then (λ (of : Properties). slice_get of.values number)) there ∙ value.is) in
          ap (λ (shown : Value × Option BindingError). Some shown.0) (unbound_shown store graph (at number) unbound)
          ∙ (ap Some (its_value (cell_in store (at number)) value.value cell) ∙ sym value.is)

      by_number : (of : Properties) → properties_of store object ≡ Some of → (number : Option ℕ) → field_number name of.fields ≡ number
          → option_and_then bound_of (option_and_then
          (λ number. option_map {U = ℕ × Kind} (λ (field : Field). (number, field.kind)) (slice_get of.fields number)) number) ≡ None
          → option_map_or shows number (dynamic_value name of.dynamic)
          ≡ option_map_or (λ number. slice_get of.values number) number (dynamic_value name of.dynamic)
      by_number of there None f g = refl
      by_number of there (Some number) f g = ⊎_elim
          (λ found.
          let is : slice_get of.fields number ≡ Some found.0 = found.2 in
          stored of there number found.0 is (free number _
          (ap (λ field. option_and_then bound_of (option_map {U = ℕ × Kind} (λ (field : Field). (number, field.kind)) field)) (sym is) ∙ g)))
          (λ past. let within = (position_some (λ (field : Field). bytes_eq field.name name) of.fields number f).1 in absurd (omega (arith, within, past.0)))
          (slice_get_cases of.fields number).1

      by : (of : Option Properties) → properties_of store object ≡ of
          → option_and_then bound_of (option_and_then (λ (of : Properties). declared_in name of.fields) of) ≡ None
          → option_and_then (λ (of : Properties). option_map_or shows (field_number name of.fields) (dynamic_value name of.dynamic)) of
          ≡ option_and_then (named_value name) of
      by None e f = refl
      by (Some of) e f = by_number of e (field_number name of.fields) refl f
