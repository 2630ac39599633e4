-- What the properties of a place showed, by object. No public clause cites this module.
use Rattle.std.specs.Prelude.{◌≡◌, ◌+◌, ◌<◌, ◌≤◌, ℕ, List, All, Option, Some, None, filter_map, find, length, slice_get, slice_index_or}
use Rattle.std.specs.List.{flat_map}
use Rattle.std.specs.Option.{option_map_or}
use Rattle.property_store.specs.declared.property.Property.{Property}
use Rattle.property_store.specs.Property.{is_property}
use Rattle.variant_value.specs.Values.{IsOfKind}
use Rattle.binding_values.specs.Graph.{shown_at}
use Rattle.binding_values.specs.Sorted.{IsRising, IsRowAt}
use Rattle.binding_values.specs.declared.shown.Shown.{Shown}
use Rattle.binding_graph.specs.declared.shown_object.ShownObject.{ShownObject}

-- An object is sorted among others as its first property.
abbrev pub first_of : ℕ → Property
first_of object = record { object = object; number = 0 }

abbrev pub head : ShownObject → Property
head of = first_of of.object

-- What all properties of an object showed.
abbrev pub rows_of : ShownObject → List Shown
rows_of of = filter_map (λ slot. slot) of.slots.items

-- What all properties of all objects showed.
abbrev pub joined : List ShownObject → List Shown
joined objects = flat_map rows_of objects

-- What the slot of a number holds; nothing if there is no such slot.
abbrev pub slot_at : List (Option Shown) → ℕ → Option Shown
slot_at slots number = option_map_or (λ slot. slot) (slice_get slots number) None

-- Slots hold what the properties of an object show, from a number on.
abbrev pub AreInSlots : ℕ → ℕ → List (Option Shown) → Type 0
AreInSlots object first slots = (k : ℕ) (shown : Shown) → slot_at slots k ≡ Some shown
    → (shown.at ≡ record { object = object; number = first + k }) × IsOfKind shown.kind shown.value

-- Objects are sorted, and the slots of each hold what its properties showed.
pub record AreByObject (objects : List ShownObject) : Type 0 where
  pub rising : IsRising head objects
  pub filled : All (λ of. AreInSlots of.object 0 of.slots.items) objects

abbrev pub object_in : List ShownObject → ℕ → Option ShownObject
object_in objects object = find (λ of. is_property (first_of object) (head of)) objects

-- How many slots an object has.
abbrev pub slots_of : List ShownObject → ℕ → ℕ
slots_of objects object = option_map_or (λ of. length of.slots.items) (object_in objects object) 0

-- Each of these rows has a slot.
abbrev pub HaveSlots : List ShownObject → List Shown → Type 0
HaveSlots objects rows = All (λ row. row.at.number < slots_of objects row.at.object) rows

-- No object has fewer slots.
abbrev pub AreAsMany : List ShownObject → List ShownObject → Type 0
AreAsMany old new = (object : ℕ) → slots_of old object ≤ slots_of new object

-- Slots were made, and the properties show the same.
pub record ShowSame (old new : List ShownObject) : Type 0 where
  pub sound : AreByObject new
  pub same : (q : Property) → shown_at (joined new) q ≡ shown_at (joined old) q
  pub as_many : AreAsMany old new

-- An object has this place.
abbrev pub IsPlaceOf : List ShownObject → ℕ → ℕ → Type 0
IsPlaceOf objects object place = IsRowAt head objects (first_of object) place

-- The object of a property has this place, and the property has a slot.
pub record IsSlot (objects : List ShownObject) (at : Property) (place : ℕ) : Type 0 where
  pub object : IsPlaceOf objects at.object place
  pub number : (default : ShownObject) → at.number < length (slice_index_or objects place default).slots.items

-- An object has more slots, and its properties show the same.
pub record HasMoreSlots (old new : ShownObject) : Type 0 where
  pub object : new.object ≡ old.object
  pub same : (k : ℕ) → slot_at new.slots.items k ≡ slot_at old.slots.items k
  pub as_many : length old.slots.items ≤ length new.slots.items
