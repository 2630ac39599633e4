-- The cache of a place from one settling to the next.
use Rattle.std.specs.Prelude.{◌≡◌, ℕ, List, [], false, Option, option_map, slice_index_or}
use Rattle.property_store.specs.declared.property.Property.{Property}
use Rattle.property_store.specs.Marks.{Marks, all_marks, is_marked}
use Rattle.property_store.specs.Pending.{both}
use Rattle.property_store.specs.Store.{Store}
use Rattle.binding_values.specs.declared.binding.Binding.{Binding}
use Rattle.binding_values.specs.declared.eval_result.CacheEntry.{CacheEntry}
use Rattle.binding_values.specs.EvalResult.{Keeping, kept_of, known}
use Rattle.binding_values.specs.Stored.{cell_in, scene_of}
use Rattle.binding_values.specs.Right.{IsRightBut, IsWhole}
use Rattle.binding_values.specs.declared.shown.Shown.{Shown}
use Rattle.binding_values.specs.Graph.{Graph, shown_as, shown_at}

pub record Cache : Type 0 where
  -- The last result of each bound property.
  pub kept : List CacheEntry
  -- The bindings that have changed since.
  pub pending : Marks
  -- How many evaluations there have been.
  pub evaluations : ℕ

-- The empty cache.
abbrev pub no_cache : Cache
no_cache = record { kept = []; pending = all_marks; evaluations = 0 }

-- The cache of a place.
abbrev pub cache_at : List Cache → ℕ → Cache
cache_at caches place = slice_index_or caches place no_cache

-- The value that a property shows by the cached results.
abbrev pub shown_by : Store → List Binding → Keeping → Property → Option Shown
shown_by store bindings keeping q = option_map (λ cell. shown_as q cell.kind (known (scene_of store bindings) keeping q)) (cell_in store q)

-- The cache of a place is right, except for what a marked property reaches: the values of its bindings, and what its
-- properties showed.
pub record IsInStep (store : Store) (marks : Marks) (graph : Graph) (cache : Cache) : Type 0 where
  pub right : IsRightBut (scene_of store graph.bindings) (both marks cache.pending) (kept_of cache.kept)
  pub whole : IsWhole (scene_of store graph.bindings) (both marks cache.pending) (kept_of cache.kept)
  pub last : (q : Property) → is_marked (both marks cache.pending) q ≡ false → shown_at graph.last q ≡ shown_by store graph.bindings (kept_of cache.kept) q
