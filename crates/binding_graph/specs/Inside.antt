-- How the graph of a place is stored. No public clause cites this module.
use Rattle.std.specs.Prelude.{ℕ, Option, Some, None, map}
use Rattle.std.specs.declared.alloc.Global.{Global}
use Rattle.std.specs.declared.boxed.Box.{Box}
use Rattle.shared_rows.specs.Table.{Table}
use Rattle.binding_graph.specs.Cache.{cache_at}
use Rattle.binding_graph.specs.declared.graph.BindingGraph.{BindingGraph}
use Rattle.binding_graph.specs.GraphAndCache.{GraphAndCache, no_graph_and_cache}
use Rattle.binding_graph.specs.Table.{Graphs, graph_at}

-- The graph in the box; an empty one if there is no box.
abbrev pub pair_of : Option (Box BindingGraph Global) → GraphAndCache
pair_of None = no_graph_and_cache
pair_of (Some inner) = inner.value

-- The graphs of all places in one list, and their caches in another.
abbrev pub split : Table (Option (Box BindingGraph Global)) → Graphs
split table = record {
  graphs = record { places = map (λ made. (pair_of made).graph) table.places; room = table.room };
  caches = map (λ made. (pair_of made).cache) table.places;
}

-- The graph of a place, with its cache.
abbrev pub pair_at : Graphs → ℕ → GraphAndCache
pair_at bindings place = record { graph = graph_at bindings.graphs place; cache = cache_at bindings.caches place }
