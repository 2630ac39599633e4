-- The bindings of a place, with their cache.
use Rattle.std.specs.Prelude.{ℕ, List}
use Rattle.property_store.specs.Marks.{Marks, marks_at}
use Rattle.property_store.specs.Store.{Store}
use Rattle.property_store.specs.Table.{StoresView, store_at}
use Rattle.binding_values.specs.declared.eval_result.CacheEntry.{CacheEntry}
use Rattle.binding_graph.specs.Cache.{Cache, IsInStep, no_cache}
use Rattle.binding_values.specs.Graph.{Graph, no_graph}

pub record GraphAndCache : Type 0 where
  pub graph : Graph
  pub cache : Cache

abbrev pub no_graph_and_cache : GraphAndCache
no_graph_and_cache = record { graph = no_graph; cache = no_cache }

-- The graph and its cache are in step with the store of a place.
abbrev pub IsAt : StoresView → ℕ → GraphAndCache → Type 0
IsAt stores place pair = IsInStep (store_at stores.shelves place) (marks_at stores.marks place) pair.graph pair.cache

-- If more is marked and less is cached, a place stays in step, for every store and graph.
abbrev pub StaysKept : Marks → List CacheEntry → Marks → List CacheEntry → Type 0
StaysKept pending kept more less = (store : Store) (marks : Marks) (graph : Graph) (evaluations : ℕ)
    → IsInStep store marks graph (record { kept = kept; pending = pending; evaluations = evaluations })
    → IsInStep store marks graph (record { kept = less; pending = more; evaluations = evaluations })

-- It stays in step with every store with which it was.
abbrev pub StaysAt : GraphAndCache → GraphAndCache → Type 0
StaysAt old new = (store : Store) (marks : Marks) → IsInStep store marks old.graph old.cache → IsInStep store marks new.graph new.cache
