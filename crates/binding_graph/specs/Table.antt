-- What contracts see of the bindings of all places.
use Rattle.std.specs.Prelude.{◌≡◌, ◌≢◌, ℕ, List, slice_index_or}
use Rattle.shared_rows.specs.Table.{Table, with_place}
use Rattle.binding_graph.specs.Cache.{Cache, cache_at}
use Rattle.binding_values.specs.Graph.{Graph, no_graph}

pub record Graphs : Type 0 where
  pub graphs : Table Graph
  -- The cache of each place, on which no value depends.
  pub caches : List Cache

-- The graph of a place.
abbrev pub graph_at : Table Graph → ℕ → Graph
graph_at graphs place = slice_index_or graphs.places place no_graph

-- The table with a different graph at a place.
abbrev pub with_graph : Table Graph → ℕ → Graph → Table Graph
with_graph graphs place graph = with_place graphs place graph

-- The caches of all other places are unchanged.
abbrev pub OthersKept : ℕ → Graphs → Graphs → Type 0
OthersKept place old new = (other : ℕ) → other ≢ place → cache_at new.caches other ≡ cache_at old.caches other
