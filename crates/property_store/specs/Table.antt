-- What contracts see of the stores of all places.
use Rattle.std.specs.Prelude.{ℕ, List, [], slice_index_or}
use Rattle.shared_rows.specs.Table.{Table, with_place}
use Rattle.property_store.specs.declared.field.Field.{Field}
use Rattle.property_store.specs.Marks.{Marks}
use Rattle.property_store.specs.Store.{Store, fields_in}

pub record StoreTable : Type 0 where
  -- The properties that each class declares.
  pub layouts : List (List Field)
  pub table : Table Store

-- The contents of the stores of all places.
pub record StoresView : Type 0 where
  pub shelves : StoreTable
  -- What was written at each place.
  pub marks : List Marks

-- The store of a place.
abbrev pub store_at : StoreTable → ℕ → Store
store_at shelves place = slice_index_or shelves.table.places place []

-- The table with a different store at a place.
abbrev pub with_store : StoreTable → ℕ → Store → StoreTable
with_store shelves place store = record shelves { table = with_place shelves.table place store }

-- The properties that a class declares.
abbrev pub fields_of : StoreTable → ℕ → List Field
fields_of shelves class = fields_in shelves.layouts class
