-- The laws of cached results.
use Rattle.std.specs.Prelude.{◌≡◌, ℕ, true, List, filter, not, None, []}
use Rattle.variant_value.specs.declared.value.Value.{Value}
use Rattle.property_store.specs.declared.field.Field.{Field}
use Rattle.property_store.specs.declared.property.Property.{Property}
use Rattle.property_store.specs.Marks.{Marks, is_marked, is_new, is_written, no_marks}
use Rattle.property_store.specs.Pending.{AreMore}
use Rattle.property_store.specs.Property.{is_property}
use Rattle.property_store.specs.Store.{Store, added, changed, properties_of, with_dynamic, without_dynamic, written}
use Rattle.binding_values.specs.declared.binding.Binding.{Binding}
use Rattle.binding_values.specs.Binds.{with_binding}
use Rattle.binding_values.specs.EvalResult.{Agrees, IsClosed, IsRight, Keeping, known}
use Rattle.binding_values.specs.Scene.{Scene, plain}
use Rattle.binding_values.specs.Stored.{scene_of}
use Rattle.binding_values.specs.Right.{DiffersAt, IsComplete, IsRightBut, IsSpread, IsWhole, unmarked}

-- In a scene that agrees about everything that is cached and read, the cached results stay right.
abbrev pub KeptStaysRight : Type 0
KeptStaysRight = (a b : Scene) (keeping : Keeping) → IsRight a keeping → IsClosed a keeping → Agrees a b keeping → IsRight b keeping

-- If every bound property has a right cached result, the cached or stored values are the values.
abbrev pub CompleteIsKnown : Type 0
CompleteIsKnown = (scene : Scene) (keeping : Keeping) → IsComplete scene keeping → (q : Property) → known scene keeping q ≡ plain scene [] q

-- Every bound property has a right cached result exactly if nothing is marked.
abbrev pub UnmarkedIsComplete : Type 0
UnmarkedIsComplete = (scene : Scene) (marks : Marks) (keeping : Keeping)
    → AreMore marks no_marks → IsRightBut scene marks keeping → IsWhole scene marks keeping → IsComplete scene keeping

abbrev pub CompleteIsRight : Type 0
CompleteIsRight = (scene : Scene) (marks : Marks) (keeping : Keeping) → IsComplete scene keeping → IsRightBut scene marks keeping

-- In a scene that differs only in marked properties, the cached results are as right as before.
abbrev pub StaysRight : Type 0
StaysRight = (a b : Scene) (marks more : Marks) (keeping : Keeping)
    → IsRightBut a marks keeping → AreMore marks more → DiffersAt more a b → IsRightBut b more keeping

abbrev pub StaysWhole : Type 0
StaysWhole = (a b : Scene) (marks more : Marks) (keeping : Keeping) → IsWhole a marks keeping → AreMore marks more → DiffersAt more a b → IsWhole b more keeping

-- If everything that reads a marked property is marked, the other results are right, and have read only each other and
-- unbound properties.
abbrev pub RestIsRight : Type 0
RestIsRight = (scene : Scene) (marks : Marks) (keeping : Keeping) → IsRightBut scene marks keeping
    → IsSpread scene marks keeping → IsRight scene (unmarked marks keeping) × IsClosed scene (unmarked marks keeping)

-- Everything that a change of a store or a binding changes is marked.

-- A write changes only the property that it writes.
abbrev pub WriteIsMarked : Type 0
WriteIsMarked = (store : Store) (bindings : List Binding) (marks : Marks) (object number : ℕ) (value : Value)
    → ((q : Property) → is_written store object number value q ≡ true → is_marked marks q ≡ true)
    → DiffersAt marks (scene_of store bindings) (scene_of (written store object number value) bindings)

-- A new object changes only its own properties.
abbrev pub AdditionIsMarked : Type 0
AdditionIsMarked = (store : Store) (bindings : List Binding) (marks : Marks) (object : ℕ) (fields : List Field) → properties_of store object ≡ None
    → ((q : Property) → is_new object fields q ≡ true → is_marked marks q ≡ true)
    → DiffersAt marks (scene_of store bindings) (scene_of (added store object fields) bindings)

-- Bindings do not depend on dynamic properties.
abbrev pub DynamicIsNothing : Type 0
DynamicIsNothing = (store : Store) (bindings : List Binding) (marks : Marks) (object : ℕ) (name : List ℕ) (value : Value)
    → DiffersAt marks (scene_of store bindings) (scene_of (changed (with_dynamic name value) object store) bindings)

abbrev pub NoDynamicIsNothing : Type 0
NoDynamicIsNothing = (store : Store) (bindings : List Binding) (marks : Marks) (object : ℕ) (name : List ℕ)
    → DiffersAt marks (scene_of store bindings) (scene_of (changed (without_dynamic name) object store) bindings)

-- If everything is marked, anything may change.
abbrev pub AllMayChange : Type 0
AllMayChange = (one other : Store) (bindings after : List Binding) (marks : Marks)
    → marks.all ≡ true → DiffersAt marks (scene_of one bindings) (scene_of other after)

-- A binding that is made, replaced or removed changes only its own property.
abbrev pub BindingIsMarked : Type 0
BindingIsMarked = (store : Store) (bindings : List Binding) (marks : Marks) (new : Binding)
    → is_marked marks new.at ≡ true → DiffersAt marks (scene_of store bindings) (scene_of store (with_binding new bindings))

abbrev pub UnbindingIsMarked : Type 0
UnbindingIsMarked = (store : Store) (bindings : List Binding) (marks : Marks) (at : Property) → is_marked marks at ≡ true
    → DiffersAt marks (scene_of store bindings) (scene_of store (filter (λ binding. not (is_property at binding.at)) bindings))
