-- When stores and bindings are in step.
use Rattle.std.specs.Prelude.{◌≡◌, ◌++◌, ℕ, List, [], ◌∷◌, None, if◌then◌else◌, is_some}
use Rattle.shared_rows.specs.Table.{IsPlace, opened}
use Rattle.variant_value.specs.declared.value.Value.{Value}
use Rattle.property_store.specs.Marks.{AreMarked, HasMarks, all_marks, is_new, is_written, is_written_named, marks_at, no_marks}
use Rattle.property_store.specs.Named.{written_named}
use Rattle.property_store.specs.Store.{Store, added, changed, properties_of, with_dynamic, without, without_dynamic, written}
use Rattle.property_store.specs.Table.{StoresView, fields_of, store_at, with_store}
use Rattle.binding_graph.specs.Cache.{IsInStep, cache_at}
use Rattle.binding_graph.specs.Table.{Graphs, OthersKept, graph_at}

-- The caches of the bindings are right for these stores, except for what a written property reaches.
unfoldable pub InStep : StoresView → Graphs → Type 0
InStep stores bindings = (place : ℕ)
    → IsInStep (store_at stores.shelves place) (marks_at stores.marks place) (graph_at bindings.graphs place) (cache_at bindings.caches place)

-- The bindings of a place have changed. They are in step with the stores, and the caches of other places are unchanged.
pub record LeavesInStep (place : ℕ) (stores : StoresView) (old new : Graphs) : Type 0 where
  pub step : InStep stores new
  pub others : OthersKept place old new

-- The bindings stay in step after every change of a store.
abbrev pub StaysInStep : StoresView → StoresView → Type 0
StaysInStep old new = (bindings : Graphs) → InStep old bindings → InStep new bindings

-- One place has a different store.
abbrev pub HasStore : ℕ → Store → StoresView → StoresView → Type 0
HasStore place store old new = new.shelves ≡ with_store old.shelves place store

abbrev pub WriteStaysInStep : Type 0
WriteStaysInStep = (old new : StoresView) (place object number : ℕ) (value : Value)
    → IsPlace old.shelves.table place → HasStore place (written (store_at old.shelves place) object number value) old new
    → AreMarked place (is_written (store_at old.shelves place) object number value) old.marks new.marks → StaysInStep old new

abbrev pub NamedWriteStaysInStep : Type 0
NamedWriteStaysInStep = (old new : StoresView) (place object : ℕ) (name : List ℕ) (value : Value)
    → IsPlace old.shelves.table place → HasStore place (written_named (store_at old.shelves place) object name value) old new
    → AreMarked place (is_written_named (store_at old.shelves place) object name value) old.marks new.marks → StaysInStep old new

abbrev pub AdditionStaysInStep : Type 0
AdditionStaysInStep = (old new : StoresView) (place object class : ℕ) → properties_of (store_at old.shelves place) object ≡ None
    → IsPlace old.shelves.table place → HasStore place (added (store_at old.shelves place) object (fields_of old.shelves class)) old new
    → AreMarked place (is_new object (fields_of old.shelves class)) old.marks new.marks → StaysInStep old new

abbrev pub DynamicStaysInStep : Type 0
DynamicStaysInStep = (old new : StoresView) (place object : ℕ) (name : List ℕ) (value : Value) → IsPlace old.shelves.table place
    → HasStore place (changed (with_dynamic name value) object (store_at old.shelves place)) old new → new.marks ≡ old.marks → StaysInStep old new

abbrev pub NoDynamicStaysInStep : Type 0
NoDynamicStaysInStep = (old new : StoresView) (place object : ℕ) (name : List ℕ) → IsPlace old.shelves.table place
    → HasStore place (changed (without_dynamic name) object (store_at old.shelves place)) old new → new.marks ≡ old.marks → StaysInStep old new

abbrev pub RemovalStaysInStep : Type 0
RemovalStaysInStep =
    (old new : StoresView) (place object : ℕ) → IsPlace old.shelves.table place → HasStore place (without object (store_at old.shelves place)) old new
    → HasMarks place (if is_some (properties_of (store_at old.shelves place) object) then all_marks else marks_at old.marks place) old.marks new.marks
    → StaysInStep old new

abbrev pub ClearingStaysInStep : Type 0
ClearingStaysInStep = (old new : StoresView) (place : ℕ) → IsPlace old.shelves.table place
    → HasStore place [] old new → HasMarks place all_marks old.marks new.marks → StaysInStep old new

-- The bindings stay in step after another place is opened.
abbrev pub OpeningStaysInStep : Type 0
OpeningStaysInStep = (old new : StoresView) → new.shelves.layouts ≡ old.shelves.layouts
    → new.shelves.table ≡ opened old.shelves.table [] → new.marks ≡ old.marks ++ no_marks ∷ [] → StaysInStep old new

-- The bindings stay in step after room for a place is made.
abbrev pub RoomStaysInStep : Type 0
RoomStaysInStep = (old new : StoresView) → new.shelves.layouts ≡ old.shelves.layouts
    → new.shelves.table.places ≡ old.shelves.table.places → new.marks ≡ old.marks → StaysInStep old new
