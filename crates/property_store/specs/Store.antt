-- What contracts see of the properties of a place's objects.
use Rattle.std.specs.Prelude.{◌≡◌, ◌≢◌, ◌<◌, ◌≤◌, ℕ, pos, Bool, false, not, nat_lt, bytes_eq, if◌then◌else◌, List, []}
use Rattle.std.specs.Prelude.{◌∷◌, ◌++◌, length, map, filter, find, position, All, AllPairs, Option, Some, None}
use Rattle.std.specs.Prelude.{option_map, option_and_then, slice_get, slice_set, slice_index_or, ◌==◌}
use Rattle.std.specs.Option.{is_some, option_map_or}
use Rattle.signature_core.specs.declared.kind.Kind.{Kind}
use Rattle.signature_core.specs.declared.kind.Kind.TheVariants as k
use Rattle.plain_types.specs.declared.code.Code.{Code}
use Rattle.plain_types.specs.declared.code.Code.TheVariants.{BadValue, Limit}
use Rattle.variant_value.specs.declared.value.Value.{Value}
use Rattle.variant_value.specs.declared.value.Value.TheVariants as v
use Rattle.variant_value.specs.Values.{IsShort, converted, is_same, kind_of}
use Rattle.property_store.specs.declared.dynamic.Named.{Named}
use Rattle.property_store.specs.declared.dynamic.TheConstants.{DYNAMIC}
use Rattle.property_store.specs.declared.field.Field.{Field}

-- The properties of an object.
pub record Properties : Type 0 where
  pub object : ℕ
  -- The properties that its class declares. A property's number is its index in this list.
  pub fields : List Field
  -- The value of each declared property.
  pub values : List Value
  -- The dynamic properties, in the order in which they were first set.
  pub dynamic : List Named

-- The properties of the objects of a place, by ascending number of the object.
abbrev pub Store : Type 0
Store = List Properties

-- The value of a property until it is written.
abbrev pub default_of : Kind → Value
default_of k.Bool = v.Bool false
default_of k.Int = v.Int (pos 0)
default_of k.Uint = v.Uint 0
default_of k.Longlong = v.Longlong (pos 0)
default_of k.Ulonglong = v.Ulonglong 0
default_of k.Text = v.Text []

-- The properties that a class declares.
abbrev pub fields_in : List (List Field) → ℕ → List Field
fields_in layouts class = slice_index_or layouts class []

-- The properties of an object.
abbrev pub properties_of : Store → ℕ → Option Properties
properties_of store object = find (λ of. of.object == object) store

-- A new object of a class that declares these properties.
abbrev pub fresh : ℕ → List Field → Properties
fresh object fields = record { object = object; fields = fields; values = map (λ field. default_of field.kind) fields; dynamic = [] }

-- The store with a new object.
abbrev pub added : Store → ℕ → List Field → Store
added store object fields = filter (λ of. nat_lt of.object object) store ++ fresh object fields ∷ filter (λ of. nat_lt object of.object) store

-- The store in which the properties of an object are changed.
abbrev pub changed : (Properties → Properties) → ℕ → Store → Store
changed change object store = map (λ of. if of.object == object then change of else of) store

-- The store without an object.
abbrev pub without : ℕ → Store → Store
without object store = filter (λ of. not (of.object == object)) store

-- The next object above a number.
abbrev pub next_object : Store → ℕ → Option ℕ
next_object store after = option_map (λ of. of.object) (find (λ of. nat_lt after of.object) store)

-- The number of the declared property with a name.
abbrev pub field_number : List ℕ → List Field → Option ℕ
field_number name fields = position (λ field. bytes_eq field.name name) fields

-- The declared property with a name: its number and its kind.
abbrev pub declared_in : List ℕ → List Field → Option (ℕ × Kind)
declared_in name fields = option_and_then (λ number. option_map (λ field. (number, field.kind)) (slice_get fields number)) (field_number name fields)

-- A declared property of an object.
abbrev pub field_at : Store → ℕ → ℕ → Option Field
field_at store object number = option_and_then (λ of. slice_get of.fields number) (properties_of store object)

abbrev pub value_at : Store → ℕ → ℕ → Option Value
value_at store object number = option_and_then (λ of. slice_get of.values number) (properties_of store object)

-- The kind of a declared property, and its value.
abbrev pub typed_in : List Field → List Value → ℕ → Option (Kind × Value)
typed_in fields values number = option_and_then (λ field. option_map (λ value. (field.kind, value)) (slice_get values number)) (slice_get fields number)

-- The kind of an object's property, and its value.
abbrev pub typed_value : ℕ → Properties → Option (Kind × Value)
typed_value number of = typed_in of.fields of.values number

-- The value that is stored if this value is written: one of the property's kind.
abbrev pub fitting : Store → ℕ → ℕ → Value → Option Value
fitting store object number value = option_and_then (λ field. converted field.kind value) (field_at store object number)

-- A value that does not fit the property is refused.
abbrev pub write_refusal : Store → ℕ → ℕ → Value → Option Code
write_refusal store object number value =
    option_and_then (λ field. if is_some (converted field.kind value) then None else Some BadValue) (field_at store object number)

-- The properties with a different value of one of them.
abbrev pub with_value : ℕ → Value → Properties → Properties
with_value number value of = record of { values = slice_set of.values number value }

-- The store after a value is written, if there is such a property and the value fits.
abbrev pub written : Store → ℕ → ℕ → Value → Store
written store object number value = option_map_or (λ fit. changed (with_value number fit) object store) (fitting store object number value) store

-- Whether the value that would be stored differs from the present one.
abbrev pub is_change : Store → ℕ → ℕ → Value → Bool
is_change store object number value =
    option_map_or (λ fit. option_map_or (λ stands. not (is_same stands fit)) (value_at store object number) false) (fitting store object number value) false

-- The index of the dynamic property with a name.
abbrev pub dynamic_number : List ℕ → List Named → Option ℕ
dynamic_number name dynamic = position (λ named. bytes_eq named.name name) dynamic

-- The value of the dynamic property with a name.
abbrev pub dynamic_value : List ℕ → List Named → Option Value
dynamic_value name dynamic = option_map (λ named. named.value) (find (λ named. bytes_eq named.name name) dynamic)

-- The value of the declared property with this name, or otherwise of the dynamic one.
abbrev pub named_value : List ℕ → Properties → Option Value
named_value name of = option_map_or (λ number. slice_get of.values number) (field_number name of.fields) (dynamic_value name of.dynamic)

-- The value of the property with a name; Invalid if the object does not exist or has no such property.
abbrev pub value_named : Store → ℕ → List ℕ → Value
value_named store object name = option_map_or (λ value. value) (option_and_then (named_value name) (properties_of store object)) v.Invalid

-- Why another dynamic property is refused: there are too many already.
abbrev pub refusal_of_name : List ℕ → List Named → Option Code
refusal_of_name name dynamic =
    if is_some (dynamic_number name dynamic) then None else (
    if nat_lt (length dynamic) DYNAMIC then None else Some Limit)

abbrev pub dynamic_refusal : Store → ℕ → List ℕ → Option Code
dynamic_refusal store object name = option_and_then (λ of. refusal_of_name name of.dynamic) (properties_of store object)

-- The dynamic properties with another one, which replaces that with its name or comes last.
abbrev pub with_name : List ℕ → Value → List Named → List Named
with_name name value dynamic =
    option_map_or (λ number. slice_set dynamic number (record { name = name; value = value }))
    (dynamic_number name dynamic) (dynamic ++ record { name = name; value = value } ∷ [])

abbrev pub with_dynamic : List ℕ → Value → Properties → Properties
with_dynamic name value of = record of { dynamic = with_name name value of.dynamic }

-- The dynamic properties without the one with a name.
abbrev pub without_name : List ℕ → List Named → List Named
without_name name dynamic = filter (λ named. not (bytes_eq named.name name)) dynamic

abbrev pub without_dynamic : List ℕ → Properties → Properties
without_dynamic name of = record of { dynamic = without_name name of.dynamic }

-- The names of an object's dynamic properties.
abbrev pub dynamic_names : Store → ℕ → List (List ℕ)
dynamic_names store object = option_map_or (λ of. map (λ named. named.name) of.dynamic) (properties_of store object) []

-- No two have the same name.
abbrev pub AreDistinct : List Named → Type 0
AreDistinct = AllPairs (λ earlier later. earlier.name ≢ later.name)

-- What holds for the properties of every object.
pub record AreSound (of : Properties) : Type 0 where
  -- There is a value for each declared property, and of its kind.
  pub kinds : map kind_of of.values ≡ map (λ field. Some field.kind) of.fields
  pub short : All IsShort of.values
  pub few : length of.dynamic ≤ DYNAMIC
  pub distinct : AreDistinct of.dynamic
  pub dynamic_short : All (λ named. IsShort named.value) of.dynamic

-- What holds for the store of every place.
pub record IsSound (store : Store) : Type 0 where
  pub rising : AllPairs (λ earlier later. earlier.object < later.object) store
  pub each : All AreSound store
