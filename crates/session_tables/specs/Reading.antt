-- Properties by their names.
use Rattle.std.specs.Prelude.{ℕ, List, Option, Some, None, if◌then◌else◌}
use Rattle.std.specs.Option.{option_map_or}
use Rattle.std.specs.Prelude.{option_and_then}
use Rattle.variant_value.specs.declared.value.Value.{Value}
use Rattle.property_store.specs.Named.{declared_at}
use Rattle.property_store.specs.Store.{Store, dynamic_value, field_number, properties_of}
use Rattle.property_store.specs.declared.property.Property.{Property}
use Rattle.binding_values.specs.Graph.{Graph, is_bound, value_in}

-- The value of the property with a name: the value that a declared property shows, or that a dynamic one was set to.
abbrev pub named_in : Store → Graph → ℕ → List ℕ → Option Value
named_in store graph object name =
    option_and_then (λ of. option_map_or (λ number. Some (value_in store graph (record { object = object; number = number })).0)
    (field_number name of.fields) (dynamic_value name of.dynamic)) (properties_of store object)

-- The declared property with a name, if it is bound.
abbrev pub bound_named : Store → Graph → ℕ → List ℕ → Option Property
bound_named store graph object name =
    option_and_then (λ at. if is_bound graph.bindings (record { object = object; number = at.0 })
    then Some (record { object = object; number = at.0 }) else None) (declared_at store object name)
