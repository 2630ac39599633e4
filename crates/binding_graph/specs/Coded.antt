-- How the logic stores graphs.
use Rattle.std.specs.Prelude.{ℕ, List, refl}
use Rattle.std.specs.Coded.{Coded, code_by, coded×, coded_list, coded_ℕ}
use Rattle.shared_rows.specs.Table.{Table, table_code}
use Rattle.property_store.specs.Marks.{Marks}
use Rattle.property_store.specs.Pending.{coded_marks}
use Rattle.binding_values.specs.declared.binding.Binding.{Binding}
use Rattle.binding_values.specs.declared.eval_result.CacheEntry.{CacheEntry}
use Rattle.binding_values.specs.declared.shown.Shown.{Shown}
use Rattle.binding_values.specs.contracts.shown.Shown as shown
use Rattle.binding_values.specs.Coded.{coded_bindings, coded_eval_cache}
use Rattle.binding_graph.specs.Cache.{Cache}
use Rattle.binding_values.specs.Graph.{Graph}
use Rattle.binding_graph.specs.Table.{Graphs}
use Rattle.binding_graph.specs.GraphAndCache.{GraphAndCache}

abbrev pub coded_showing : Coded (List Shown)
coded_showing = coded_list shown.the_row.coded

abbrev pub coded_graph : Coded Graph
coded_graph =
    code_by (List Binding × (List Shown × ℕ)) (coded× coded_bindings (coded× coded_showing coded_ℕ))
    (λ g. (g.bindings, (g.last, g.depth))) (λ p. record { bindings = p.0; last = p.1.0; depth = p.1.1 }) (λ _. refl)

abbrev pub coded_cache : Coded Cache
coded_cache =
    code_by (List CacheEntry × (Marks × ℕ)) (coded× coded_eval_cache (coded× coded_marks coded_ℕ))
    (λ c. (c.kept, (c.pending, c.evaluations))) (λ p. record { kept = p.0; pending = p.1.0; evaluations = p.1.1 }) (λ _. refl)

abbrev pub coded_pair : Coded GraphAndCache
coded_pair = code_by (Graph × Cache) (coded× coded_graph coded_cache) (λ w. (w.graph, w.cache)) (λ p. record { graph = p.0; cache = p.1 }) (λ _. refl)

abbrev pub coded_graphs : Coded Graphs
coded_graphs = code_by (Table Graph × List Cache) (coded× (table_code coded_graph) (coded_list coded_cache))
    (λ g. (g.graphs, g.caches)) (λ p. record { graphs = p.0; caches = p.1 }) (λ _. refl)
