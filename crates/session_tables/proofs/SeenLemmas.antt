-- What contracts see of a place after a change.
use Rattle.std.proofs.Common.{◌≡◌, ◌∙◌, ℕ, Bool, true, false, cond, List, [], Option, refl, sym, ap}
use Rattle.shared_rows.specs.Table.{IsPlace}
use Rattle.shared_rows.proofs.ForCallers as column
use Rattle.property_store.specs.Store.{Store}
use Rattle.property_store.specs.Table.{StoreTable, store_at, with_store}
use Rattle.binding_values.specs.declared.binding.Binding.{Binding}
use Rattle.binding_values.specs.declared.change.Change.{Change}
use Rattle.property_store.specs.declared.property.Property.{Property}
use Rattle.binding_values.specs.Graph.{Graph, all_shown, changes, is_open, no_graph, settled_graph}
use Rattle.binding_graph.specs.Table.{Graphs, graph_at, with_graph}
use Rattle.session_model.specs.State.{closed}
use Rattle.session_tables.specs.Bound.{BoundShelves, ChangesBound, all_closed, seen_of, with_bound}
use Rattle.session_tables.specs.Told.{told_at, told_of}
use Rattle.session_tables.proofs.InvariantLemmas.{closed_bound, seen_put}
use Rattle.session_tables.proofs.SettledLemmas.{closed_at, closed_bindings, closed_depth}

-- what is stored at a place, put there again
pub same_store : (stores : StoreTable) (place : ℕ) → with_store stores place (store_at stores place) ≡ stores
same_store stores place = ap (λ table. let shelves : StoreTable = record { layouts = stores.layouts; table = table } in shelves)
    (column.with_same [] stores.table place)

pub settled_store : (stores new : StoreTable) (place : ℕ) → new ≡ stores → new ≡ with_store stores place (store_at stores place)
settled_store stores new place same = same ∙ sym (same_store stores place)

-- a graph with other bindings
abbrev pub with_bindings : (List Binding → List Binding) → Graph → Graph
with_bindings change graph = record graph { bindings = change graph.bindings }

pub bindings_seen : (bindings : Graphs) (place : ℕ) (change : List Binding → List Binding)
    → closed (with_bindings change (graph_at bindings.graphs place)) ≡ with_bindings change (graph_at (all_closed bindings.graphs) place)
bindings_seen bindings place change = closed_bound (graph_at bindings.graphs place) change ∙ ap (with_bindings change) (sym (closed_at bindings.graphs place))

-- what is told says nothing of what is kept
pub told_closed : (store : Store) (graph : Graph) (other : Store) (after : Graph) (written : Option Property)
    → told_of store (closed graph) other (closed after) written ≡ told_of store graph other after written
told_closed store graph other after written =
    λ i. let opened : Graph = record { bindings = []; last = []; depth = closed_depth after i } in
    cond (is_open opened) [] (changes (all_shown store (closed_bindings graph i)) (all_shown other (closed_bindings after i)) written)

-- a place with another store and another graph
pub changes_bound : (old new : BoundShelves) (place : ℕ) (store : Store) (graph : Graph) → IsPlace old.shelves.table place → IsPlace old.graphs place
    → new ≡ with_bound old place store graph → ChangesBound place old new
changes_bound old new place store graph shelf there is = record {
  layouts = ap (λ (bound : BoundShelves). bound.shelves.layouts) is;
  stores = column.changes_with [] old.shelves.table new.shelves.table place store shelf (ap (λ (bound : BoundShelves). bound.shelves.table) is);
  graphs = column.changes_with no_graph old.graphs new.graphs place graph there (ap (λ (bound : BoundShelves). bound.graphs) is);
}

module _ (stores new : StoreTable) (bindings after : Graphs) (place : ℕ) where
  -- a store and a graph that are put
  pub put_seen : (store : Store) (graph other : Graph) → new ≡ with_store stores place store → after.graphs ≡ with_graph bindings.graphs place graph
      → closed graph ≡ other → seen_of new after ≡ with_bound (seen_of stores bindings) place store other
  put_seen store graph other first second is =
      let graphs = ap all_closed second ∙ (seen_put bindings.graphs place graph ∙ ap (with_graph (all_closed bindings.graphs) place) is) in
      λ i. record { shelves = first i; graphs = graphs i }

  -- what is told of two states, as it is seen
  pub told_seen : (written : Option Property) → told_at place (seen_of stores bindings) (seen_of new after) written
      ≡ told_of (store_at stores place) (graph_at bindings.graphs place) (store_at new place) (graph_at after.graphs place) written
  told_seen written =
      ap (λ graph. told_of (store_at stores place) graph (store_at new place) (graph_at (all_closed after.graphs) place) written)
      (closed_at bindings.graphs place)
      ∙ (ap (λ graph. told_of (store_at stores place) (closed (graph_at bindings.graphs place)) (store_at new place) graph written)
      (closed_at after.graphs place)
      ∙ told_closed (store_at stores place) (graph_at bindings.graphs place) (store_at new place) (graph_at after.graphs place) written)

  -- where contracts see no change
  pub seen_alike : new ≡ stores → all_closed after.graphs ≡ all_closed bindings.graphs → seen_of new after ≡ seen_of stores bindings
  seen_alike first second = λ i. record { shelves = first i; graphs = second i }

  module _ (shelf : IsPlace stores.table place) (there : IsPlace bindings.graphs place) where
    pub put_told : (store : Store) (change : List Binding → List Binding) (written : Option Property) → new ≡ with_store stores place store
        → after.graphs ≡ with_graph bindings.graphs place (settled_graph store (with_bindings change (graph_at bindings.graphs place)))
        → told_at place (seen_of stores bindings) (seen_of new after) written
        ≡ cond (is_open (graph_at bindings.graphs place)) []
        (changes (all_shown (store_at stores place) (graph_at bindings.graphs place).bindings)
        (all_shown store (change (graph_at bindings.graphs place).bindings)) written)
    put_told store change written first second =
        told_seen written
        ∙ (ap (λ store. told_of (store_at stores place) old store (graph_at after.graphs place) written)
        (ap (λ (shelves : StoreTable). store_at shelves place) first ∙ column.with_there [] stores.table place store shelf)
        ∙ (ap (λ graph. told_of (store_at stores place) old store graph written)
        (ap (λ graphs. graph_at graphs place) second ∙ column.with_there no_graph bindings.graphs place _ there)
        ∙ by (is_open old)))
      where
        old : Graph
        old = graph_at bindings.graphs place

        told : List Change
        told = cond (is_open old) [] (changes (all_shown (store_at stores place) old.bindings) (all_shown store (change old.bindings)) written)

        by : (deep : Bool) → told_of (store_at stores place) old store
            (cond deep (with_bindings change old) (record (with_bindings change old) { last = all_shown store (change old.bindings) })) written ≡ told
        by true = refl
        by false = refl
