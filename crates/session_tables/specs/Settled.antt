-- Stores with their bindings.
use Rattle.std.specs.Prelude.{◌≡◌, ◌==◌, ◌&&◌, ℕ, Bool, length, IsFalse}
use Rattle.property_store.specs.Store.{Store}
use Rattle.property_store.specs.Table.{StoresView, store_at}
use Rattle.binding_values.specs.Graph.{Graph, all_shown, is_open}
use Rattle.binding_graph.specs.Step.{InStep}
use Rattle.binding_graph.specs.Table.{Graphs, graph_at}

-- If no group is open, a place keeps what its properties show.
abbrev pub IsNoted : Store → Graph → Type 0
IsNoted store graph = IsFalse (is_open graph) → graph.last ≡ all_shown store graph.bindings

-- If something is bound and no group is open, a place keeps what its properties show. If nothing is bound, it may keep
-- what they showed before.
abbrev pub IsSettled : Store → Graph → Type 0
IsSettled store graph = IsFalse (is_open graph) → (length graph.bindings ≡ 0 → ⊥) → graph.last ≡ all_shown store graph.bindings

-- Every place is settled.
pub record AllSettled (stores : StoresView) (bindings : Graphs) : Type 0 where
  pub step : InStep stores bindings
  pub each : (place : ℕ) → IsSettled (store_at stores.shelves place) (graph_at bindings.graphs place)

-- Whether nothing is bound and no group is open.
abbrev pub is_idle : Graph → Bool
is_idle graph = (length graph.bindings == 0) && (graph.depth == 0)
