-- The scene of a store and its bindings.
use Rattle.std.specs.Prelude.{◌&&◌, ℕ, suc, Bool, false, List, [], ◌∷◌, bytes_eq, filter, Option, Some, None, option_map, slice_get}
use Rattle.std.specs.List.{flat_map, position_or_len}
use Rattle.std.specs.Option.{is_some, option_map_or}
use Rattle.term_core.specs.declared.target.Target.{Target}
use Rattle.term_core.specs.declared.target.Target.TheVariants.{Itself, Sender, Child, Object}
use Rattle.property_store.specs.declared.field.Field.{Field}
use Rattle.property_store.specs.Store.{Properties, Store, field_at, properties_of}
use Rattle.property_store.specs.declared.property.Property.{Property}
use Rattle.binding_values.specs.declared.binding.Binding.{Binding}
use Rattle.binding_values.specs.Scene.{Cell, Outcome, Scene, plain}

-- The cell of an object's declared property.
abbrev pub cell_of : ℕ → Properties → Option Cell
cell_of number of = option_map_or (λ field. option_map (λ value. record { kind = field.kind; value = value }) (slice_get of.values number))
    (slice_get of.fields number) None

abbrev pub cell_in : Store → Property → Option Cell
cell_in store q = option_map_or (cell_of q.number) (properties_of store q.object) None

-- The declared properties of an object; none if it does not exist.
abbrev pub fields_at : Store → ℕ → List Field
fields_at store object = option_map_or (λ of. of.fields) (properties_of store object) []

-- The number of the bindable property with a name, or otherwise the first unused number.
abbrev pub bindable_number : List ℕ → List Field → ℕ
bindable_number name fields = position_or_len (λ field. field.bindable && bytes_eq field.name name) fields

-- The object that a target is in a binding.
abbrev pub meant : ℕ → Target → Option ℕ
meant object Itself = Some object
meant object Sender = None
meant object (Child name) = None
meant object (Object number) = Some number

abbrev pub named_in : Store → ℕ → Target → List ℕ → Option Property
named_in store object target name =
    option_map (λ number. record { object = number; number = bindable_number name (fields_at store number) }) (meant object target)

-- Whether the property of a binding exists.
abbrev pub is_there : Store → Binding → Bool
is_there store binding = is_some (cell_in store binding.at)

-- The scene. Bindings of properties that do not exist are left out.
abbrev pub scene_of : Store → List Binding → Scene
scene_of store bindings = record { bindings = filter (is_there store) bindings; cell_at = cell_in store; named = named_in store }

-- A property's value, or its error.
abbrev pub outcome_in : Store → List Binding → Property → Outcome
outcome_in store bindings q = plain (scene_of store bindings) [] q

-- Whether the property exists and is bindable.
abbrev pub is_bindable : Store → Property → Bool
is_bindable store q = option_map_or (λ field. field.bindable) (field_at store q.object q.number) false

-- The declared properties of an object from a number on.
abbrev pub numbered : ℕ → ℕ → List Field → List Property
numbered object number [] = []
numbered object number (field ∷ fields) = record { object = object; number = number } ∷ numbered object (suc number) fields

abbrev pub properties_of_object : Properties → List Property
properties_of_object of = numbered of.object 0 of.fields

-- The declared properties of all objects, by ascending object and number.
abbrev pub properties_in : Store → List Property
properties_in store = flat_map properties_of_object store
