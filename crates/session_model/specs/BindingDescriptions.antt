-- The bound properties of a session.
use Rattle.std.specs.Prelude.{ℕ, ◌==◌, ◌&&◌, ◌||◌, Bool, true, List, [], Option, Some, None, filter, map, nat_lt, option_map, take}
use Rattle.std.specs.Option.{option_map_or}
use Rattle.binding_values.specs.declared.binding.Binding.{Binding}
use Rattle.property_store.specs.declared.property.Property.{Property as At}
use Rattle.session_model.specs.declared.named_property.NamedProperty.{NamedProperty}
use Rattle.session_model.specs.Settings.{Settings}
use Rattle.session_model.specs.Showing.{property_at}
use Rattle.session_model.specs.State.{State}
use Rattle.session_model.specs.Writing.{declared}

-- The object whose properties are listed first, and the number of the last of them that is skipped: that of the named
-- property, if the object's class declares it.
abbrev pub listed_after : State → Option NamedProperty → ℕ × Option ℕ
listed_after state None = (0, None)
listed_after state (Some after) = (after.object, option_map (λ of. of.number) (declared state after.object after.property))

-- Whether a property belongs to a later object, or to this object with a greater number.
abbrev pub follows : ℕ × Option ℕ → At → Bool
follows passed at = nat_lt passed.0 at.object || (passed.0 == at.object && option_map_or (λ number. nat_lt number at.number) passed.1 true)

-- A bound property, by its name.
abbrev pub binding_description : Settings → State → Binding → NamedProperty
binding_description settings state binding = record {
  object = binding.at.object;
  property = option_map_or (λ property. property.name) (property_at settings state binding.at.object binding.at.number) [];
}

-- The first of the bound properties that follow one.
abbrev pub binding_descriptions : Settings → State → Option NamedProperty → List NamedProperty
binding_descriptions settings state after =
    map (binding_description settings state) (take 1000 (filter (λ binding. follows (listed_after state after) binding.at) state.graph.bindings))
