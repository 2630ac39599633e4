-- Changes of stores that keep the marks of other places.
use Rattle.std.specs.Prelude.{◌≡◌, ◌≢◌, ℕ}
use Rattle.property_store.specs.Marks.{marks_at}
use Rattle.property_store.specs.Store.{Store}
use Rattle.property_store.specs.Table.{StoresView, with_store}

-- One place has a different store, and the marks of other places are unchanged.
pub record IsStored (place : ℕ) (store : Store) (old new : StoresView) : Type 0 where
  pub shelves : new.shelves ≡ with_store old.shelves place store
  pub others : (other : ℕ) → other ≢ place → marks_at new.marks other ≡ marks_at old.marks other
