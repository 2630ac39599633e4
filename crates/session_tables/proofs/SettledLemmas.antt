-- Graphs as contracts see them.
use Rattle.std.proofs.Common.{◌≡◌, ◌∙◌, ℕ, zero, suc, Bool, true, false, cond, List, [], ◌∷◌, get_or, map, refl, sym, ap}
use Rattle.shared_rows.specs.Table.{Table}
use Rattle.binding_values.specs.Graph.{Graph, is_open, no_graph}
use Rattle.binding_graph.specs.Table.{graph_at}
use Rattle.session_model.specs.State.{closed}
use Rattle.session_tables.specs.Bound.{all_closed}

-- what contracts see of the graph of a place
pub closed_at : (graphs : Table Graph) (place : ℕ) → graph_at (all_closed graphs) place ≡ closed (graph_at graphs place)
closed_at graphs place = by graphs.places place
  where
    by : (places : List Graph) (place : ℕ) → get_or (map closed places) place no_graph ≡ closed (get_or places place no_graph)
    by [] place = refl
    by (graph ∷ places) zero = refl
    by (graph ∷ places) (suc place) = by places place

-- what is bound there, and how many groups are open
closed_like : {A : Type 0} (part : Graph → A) → ((graph : Graph) → part (record graph { last = [] }) ≡ part graph) → (graph : Graph)
    → part (closed graph) ≡ part graph
closed_like part same graph = by (is_open graph)
  where
    by : (deep : Bool) → part (cond deep graph (record graph { last = [] })) ≡ part graph
    by true = refl
    by false = same graph

pub closed_bindings : (graph : Graph) → (closed graph).bindings ≡ graph.bindings
closed_bindings = closed_like (λ (graph : Graph). graph.bindings) (λ graph. refl)

pub closed_depth : (graph : Graph) → (closed graph).depth ≡ graph.depth
closed_depth = closed_like (λ (graph : Graph). graph.depth) (λ graph. refl)

pub depth_seen : (graphs seen : Table Graph) (place : ℕ) → all_closed graphs ≡ seen → (graph_at seen place).depth ≡ (graph_at graphs place).depth
depth_seen graphs seen place is = ap (λ (graphs : Table Graph). (graph_at graphs place).depth) (sym is)
    ∙ (ap (λ (graph : Graph). graph.depth) (closed_at graphs place) ∙ closed_depth (graph_at graphs place))
