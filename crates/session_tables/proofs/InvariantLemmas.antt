-- All places stay settled.
use Rattle.std.proofs.Common.{◌≡◌, ◌≢◌, ◌∙◌, ℕ, zero, suc, Bool, true, false, cond, List, [], ◌∷◌, ⊎_elim, eqb, map, nat_lt, set, refl, sym, ap, subst, arith}
use Rattle.std.proofs.lemmas.Bool.{cases_Bool}
use Rattle.std.proofs.lemmas.Bool.Decides.{nat_tests}
use Rattle.std.proofs.lemmas.List.{get_or-set_other}
use Rattle.shared_rows.specs.Table.{IsPlace, Table}
use Rattle.shared_rows.proofs.ForCallers as column
use Rattle.property_store.specs.Store.{Properties, Store, changed}
use Rattle.property_store.specs.Table.{StoreTable, StoresView, store_at, with_store}
use Rattle.binding_values.specs.declared.binding.Binding.{Binding}
use Rattle.binding_values.specs.declared.shown.Shown.{Shown}
use Rattle.binding_values.specs.Graph.{Graph, all_shown, begun, ended, is_open, no_graph, settled_graph}
use Rattle.binding_graph.specs.Step.{InStep}
use Rattle.binding_graph.specs.Table.{Graphs, graph_at, with_graph}
use Rattle.session_model.specs.State.{closed}
use Rattle.session_model.proofs.ForCallers.{showing_same}
use Rattle.session_tables.specs.Bound.{all_closed}
use Rattle.session_tables.specs.Settled.{AllSettled, IsSettled}

-- all stay settled where one place gets a store and a graph that are
pub settled_put : (stores new : StoresView) (bindings after : Graphs) (place : ℕ) (store : Store) (graph : Graph) → IsPlace stores.shelves.table place
    → IsPlace bindings.graphs place → new.shelves ≡ with_store stores.shelves place store → after.graphs ≡ with_graph bindings.graphs place graph
    → IsSettled store graph → AllSettled stores bindings → InStep new after → AllSettled new after
settled_put stores new bindings after place store graph shelf there stored bound settled all step =
    record { step = step; each = λ at. ⊎_elim (here at) (λ e. elsewhere at (λ same. absurd (grind (arith, same, e)))) (cases_Bool (eqb at place)) }
  where
    at_place : IsSettled (store_at new.shelves place) (graph_at after.graphs place)
    at_place =
        subst (λ store. IsSettled store (graph_at after.graphs place))
        (sym (ap (λ (shelves : StoreTable). store_at shelves place) stored ∙ column.with_there [] stores.shelves.table place store shelf))
        (subst (IsSettled store)
        (sym (ap (λ graphs. graph_at graphs place) bound ∙ column.with_there no_graph bindings.graphs place graph there)) settled)

    here : (at : ℕ) → eqb at place ≡ true → IsSettled (store_at new.shelves at) (graph_at after.graphs at)
    here at e = let same : at ≡ place = grind (arith, e) in subst (λ at. IsSettled (store_at new.shelves at) (graph_at after.graphs at)) (sym same) at_place

    elsewhere : (at : ℕ) → at ≢ place → IsSettled (store_at new.shelves at) (graph_at after.graphs at)
    elsewhere at differ =
        subst (λ store. IsSettled store (graph_at after.graphs at))
        (sym (ap (λ (shelves : StoreTable). store_at shelves at) stored ∙ get_or-set_other stores.shelves.table.places place at store [] differ))
        (subst (IsSettled (store_at stores.shelves at))
        (sym (ap (λ graphs. graph_at graphs at) bound ∙ get_or-set_other bindings.graphs.places place at graph no_graph differ)) (all.each at))

-- so they do with a change of an object that leaves its declared properties
pub settled_changed : (change : Properties → Properties) (object : ℕ) → ((of : Properties) → (change of).object ≡ of.object)
    → ((of : Properties) → (change of).fields ≡ of.fields) → ((of : Properties) → (change of).values ≡ of.values)
    → (stores new : StoresView) (bindings : Graphs) (place : ℕ) → IsPlace stores.shelves.table place → IsPlace bindings.graphs place
    → AllSettled stores bindings → new.shelves ≡ with_store stores.shelves place (changed change object (store_at stores.shelves place))
    → InStep new bindings → AllSettled new bindings
settled_changed change object same fields values stores new bindings place shelf there all is =
    settled_put stores new bindings bindings place (changed change object (store_at stores.shelves place)) (graph_at bindings.graphs place) shelf there is
    (sym (column.with_same no_graph bindings.graphs place))
    (λ shut some. all.each place shut some
    ∙ sym (showing_same change object same fields values (store_at stores.shelves place) (graph_at bindings.graphs place).bindings))
    all

-- what contracts see of a graph that is put
pub seen_put : (graphs : Table Graph) (place : ℕ) (graph : Graph)
    → all_closed (with_graph graphs place graph) ≡ with_graph (all_closed graphs) place (closed graph)
seen_put graphs place graph = ap (λ places. let table : Table Graph = record { places = places; room = graphs.room } in table) (by graphs.places place)
  where
    by : (places : List Graph) (place : ℕ) → map closed (set places place graph) ≡ set (map closed places) place (closed graph)
    by [] place = refl
    by (first ∷ rest) zero = refl
    by (first ∷ rest) (suc place) = ap (λ rest. closed first ∷ rest) (by rest place)

-- what is kept outside of groups is not seen
pub closed_settled : (store : Store) (graph : Graph) → closed (settled_graph store graph) ≡ closed graph
closed_settled store graph = by (is_open graph) refl
  where
    by : (deep : Bool) → is_open graph ≡ deep → closed (cond deep graph (record graph { last = all_shown store graph.bindings })) ≡ closed graph
    by true e = refl
    by false e =
        ap (λ deep. cond deep (record graph { last = all_shown store graph.bindings }) (record graph { last = [] })) e
        ∙ sym (ap (λ deep. cond deep graph (record graph { last = [] })) e)

-- other bindings are seen as they are
pub closed_bound : (graph : Graph) (change : List Binding → List Binding)
    → closed (record graph { bindings = change graph.bindings }) ≡ record (closed graph) { bindings = change (closed graph).bindings }
closed_bound graph change = by (is_open graph)
  where
    after : Graph → Graph
    after graph = record graph { bindings = change graph.bindings }

    by : (deep : Bool) → cond deep (after graph) (record (after graph) { last = [] }) ≡ after (cond deep graph (record graph { last = [] }))
    by true = refl
    by false = refl

-- and so is a group that begins
pub closed_begun : (store : Store) (graph : Graph) → closed (begun store graph) ≡ begun store (closed graph)
closed_begun store graph =
    let deep : nat_lt 0 (suc graph.depth) ≡ true = grind (arith, nat_tests) in
    ap (λ deep. cond deep (begun store graph) (record (begun store graph) { last = [] })) deep ∙ by (is_open graph) refl
  where
    by : (deep : Bool) → is_open graph ≡ deep → begun store graph ≡ begun store (cond deep graph (record graph { last = [] }))
    by true e = refl
    by false e =
        ap (λ deep.
        let made : Graph = record { bindings = graph.bindings; last = cond deep graph.last (all_shown store graph.bindings); depth = suc graph.depth } in
        made) e
        ∙ sym (ap (λ deep.
        let made : Graph = record { bindings = graph.bindings; last = cond deep [] (all_shown store graph.bindings); depth = suc graph.depth } in made) e)

-- in a group all is seen
pub closed_open : (graph : Graph) → is_open graph ≡ true → closed graph ≡ graph
closed_open graph deep = ap (λ deep. cond deep graph (record graph { last = [] })) deep

-- with the last group goes what was kept
pub closed_ended : (graph : Graph) → closed (ended (closed graph)) ≡ closed (ended graph)
closed_ended graph = by graph.bindings graph.last graph.depth
  where
    by : (bindings : List Binding) (last : List Shown) (depth : ℕ)
        → (let graph : Graph = record { bindings = bindings; last = last; depth = depth } in closed (ended (closed graph)) ≡ closed (ended graph))
    by bindings last zero = refl
    by bindings last (suc depth) =
        let graph : Graph = record { bindings = bindings; last = last; depth = suc depth } in
        let deep : nat_lt 0 (suc depth) ≡ true = grind (arith, nat_tests) in
        ap (λ graph. closed (ended graph)) (closed_open graph deep)
