-- How stores are kept in rows. No public clause cites this module.
use Rattle.std.specs.Prelude.{ℕ, ◌≡◌, ◌==◌, ◌<◌, ◌≤◌, if◌then◌else◌, List, length, All, Option, filter, find, map, min}
use Rattle.std.specs.Prelude.{nat_lt, option_and_then, option_map, slice_get, slice_index_or, slice_set}
use Rattle.std.specs.List.{AllWithin, flat_map, range_with_len}
use Rattle.shared_rows.specs.Paired.{paired}
use Rattle.shared_rows.specs.Table.{Table}
use Rattle.shared_rows.specs.Rows.{Keyed, rows_at}
use Rattle.property_store.specs.declared.field.Field.{Field}
use Rattle.property_store.specs.declared.link.Head.{Head}
use Rattle.property_store.specs.declared.link.Head.TheVariants.{None}
use Rattle.property_store.specs.declared.link.Link.{Link}
use Rattle.property_store.specs.declared.link.Link.TheVariants.{Unmarked}
use Rattle.property_store.specs.declared.property.Property.{Property}
use Rattle.property_store.specs.declared.row.Row.{Row}
use Rattle.property_store.specs.Chain.{AreLinked, first_of, is_all, is_linked}
use Rattle.property_store.specs.Marks.{Marks}
use Rattle.property_store.specs.Store.{AreSound, Properties, Store, fields_in}
use Rattle.property_store.specs.Table.{StoreTable, StoresView}

-- The row of an object.
abbrev pub row_of : List (Keyed Row) → ℕ → Option Row
row_of rows object = option_map (λ keyed. keyed.row) (find (λ keyed. keyed.row.object == object) rows)

-- The number of the first object above one.
abbrev pub next_number : List (Keyed Row) → ℕ → Option ℕ
next_number rows after = option_map (λ keyed. keyed.row.object) (find (λ keyed. nat_lt after keyed.row.object) rows)

-- This many rows, the first ones, have this number or a lower one.
pub record IsCountUpTo (rows : List (Keyed Row)) (last count : ℕ) : Type 0 where
  pub within : count ≤ length rows
  pub below : AllWithin (λ keyed. keyed.row.object ≤ last) rows 0 count
  pub above : AllWithin (λ keyed. last < keyed.row.object) rows count (length rows)

-- The link of a property.
abbrev pub link_at : List (Keyed Row) → Property → Option Link
link_at rows q = option_and_then (λ row. slice_get row.links q.number) (row_of rows q.object)

-- The row of an object after the mark of a property is taken.
abbrev pub unlinked : Property → Row → Row
unlinked at row = record row { links = slice_set row.links at.number Unmarked }

abbrev pub without_link : Property → List (Keyed Row) → List (Keyed Row)
without_link at rows = map (λ keyed. if keyed.row.object == at.object then record { key = keyed.key; row = unlinked at keyed.row } else keyed) rows

-- The declared properties of an object.
abbrev pub numbers_of : ℕ → ℕ → List Property
numbers_of object count = map {B = Property} (λ number. record { object = object; number = number }) (range_with_len 0 count)

abbrev pub properties_in : List (Keyed Row) → List Property
properties_in rows = flat_map (λ keyed. numbers_of keyed.row.object (length keyed.row.links)) rows

-- The marks of a place.
abbrev pub marks_of : List (Keyed Row) → Head → Marks
marks_of rows head = record { all = is_all head; each = filter (λ q. is_linked (link_at rows q)) (properties_in rows) }

-- The head of a place.
abbrev pub head_at : Table Head → ℕ → Head
head_at heads place = slice_index_or heads.places place None

-- The chain from the head has all linked properties of a place, and there is a link for each value.
pub record AreChained (rows : List (Keyed Row)) (head : Head) : Type 0 where
  pub as_many : All (λ keyed. length keyed.row.links ≡ length keyed.row.values) rows
  pub linked : AreLinked (link_at rows) (first_of head)

-- The table, in which at most as many places can be opened without memory as there is room for heads.
abbrev pub limited : Table (List (Keyed Row)) → ℕ → Table (List (Keyed Row))
limited rows room = record { places = rows.places; room = min rows.room room }

module _ (layouts : List (List Field)) where
  -- The properties in a row.
  abbrev pub shown : Row → Properties
  shown row = record { object = row.object; fields = fields_in layouts row.class; values = row.values; dynamic = row.dynamic.items }

  abbrev pub store_of : List (Keyed Row) → Store
  store_of rows = map (λ keyed. shown keyed.row) rows

  abbrev pub shelves_of : Table (List (Keyed Row)) → StoreTable
  shelves_of rows = record { layouts = layouts; table = record { places = map store_of rows.places; room = rows.room } }

  -- The rows of a place are sound.
  abbrev pub AreRows : List (Keyed Row) → Type 0
  AreRows rows = All (λ keyed. AreSound (shown keyed.row)) rows

  -- The rows of all places are sound.
  abbrev pub AreKept : Table (List (Keyed Row)) → Type 0
  AreKept rows = All AreRows rows.places

  pub record IsKept (rows : Table (List (Keyed Row))) (heads : Table Head) : Type 0 where
    pub sound : AreKept rows
    pub same : length heads.places ≡ length rows.places
    pub chained : (place : ℕ) → AreChained (rows_at rows place) (head_at heads place)

  -- What contracts see of all stores.
  abbrev pub stock_of : Table (List (Keyed Row)) → Table Head → StoresView
  stock_of rows heads = record { shelves = shelves_of (limited rows heads.room); marks = paired marks_of rows.places heads.places }
