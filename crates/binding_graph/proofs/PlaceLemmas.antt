-- The graphs of places, and what is kept of them.
use Rattle.std.proofs.Common.{◌≡◌, ◌≢◌, ◌∙◌, ◌==◌, ℕ, Bool, true, false, not, List, [], ◌∷◌, Option, Some, None, filter, is_some}
use Rattle.std.proofs.Common.{Result, OnErr, OnOk}
use Rattle.std.proofs.Common.{cond, find, get_or, length, option_map, refl, set, sym, ap, ap₂, subst, ⊎_elim, arith}
use Rattle.std.proofs.lemmas.Bool.{both_ways, cases_Bool, eq-eqb, eqb-true}
use Rattle.std.proofs.lemmas.Result.{on_err_weaker, on_ok_weaker}
use Rattle.std.proofs.lemmas.List.{get_or-set_other, get_or-set_same, get_or_past, length-map, map-set, set-get_or}
use Rattle.std.proofs.Math.ListN.{get_or-map}
use Rattle.shared_rows.specs.Table.{IsPlace, Table, opened, with_place}
use Rattle.shared_rows.proofs.ForCallers.{default_pushed, with_same}
use Rattle.property_store.specs.declared.property.Property.{Property}
use Rattle.property_store.specs.Marks.{marks_at}
use Rattle.property_store.specs.Pending.{IsDrained}
use Rattle.property_store.specs.Property.{is_property}
use Rattle.property_store.specs.Store.{Store}
use Rattle.property_store.specs.Table.{StoresView, store_at}
use Rattle.binding_values.specs.declared.binding.Binding.{Binding}
use Rattle.binding_values.specs.Scene.{term_at}
use Rattle.binding_graph.specs.Cache.{IsInStep, cache_at, no_cache}
use Rattle.binding_values.specs.Graph.{Graph, is_bound, no_graph, unbound}
use Rattle.binding_graph.specs.Step.{InStep, LeavesInStep}
use Rattle.binding_graph.specs.Table.{Graphs, OthersKept, graph_at, with_graph}
use Rattle.binding_graph.specs.Drained.{IsStored}
use Rattle.binding_graph.specs.GraphAndCache.{GraphAndCache, IsAt, StaysAt, no_graph_and_cache}
use Rattle.binding_graph.specs.Inside.{pair_at, pair_of, split}
use Rattle.binding_graph.specs.declared.graph.BindingGraph.{BindingGraph}
use Rattle.std.specs.declared.alloc.Global.{Global}
use Rattle.std.specs.declared.boxed.Box.{Box}
use Rattle.binding_graph.proofs.StepLemmas.{same_in_step, stands_elsewhere}

-- what stands at a place

abbrev Made : Type 0
Made = Option (Box BindingGraph Global)

abbrev pub made_at : Table Made → ℕ → GraphAndCache
made_at table place = pair_of (get_or table.places place None)

pub graph_there : (table : Table Made) (place : ℕ) → graph_at (split table).graphs place ≡ (made_at table place).graph
graph_there table place = get_or-map (λ (made : Made). (pair_of made).graph) table.places place None

pub cache_there : (table : Table Made) (place : ℕ) → cache_at (split table).caches place ≡ (made_at table place).cache
cache_there table place = get_or-map (λ (made : Made). (pair_of made).cache) table.places place None

pub pair_there : (table : Table Made) (place : ℕ) → made_at table place ≡ pair_at (split table) place
pair_there table place =
    ap₂ (λ graph cache. let pair : GraphAndCache = record { graph = graph; cache = cache } in pair) (sym (graph_there table place))
    (sym (cache_there table place))

pub place_there : (table : Table Made) (place : ℕ) → IsPlace (split table).graphs place → IsPlace table place
place_there table place is_place = omega (arith, is_place, length-map {A = Made} {B = Graph})

pub none_there : (table : Table Made) (place : ℕ) (made : Made) → made ≡ get_or table.places place None → pair_of made ≡ no_graph_and_cache
    → graph_at (split table).graphs place ≡ no_graph
none_there table place made is none = graph_there table place ∙ ap (λ (pair : GraphAndCache). pair.graph) (ap pair_of (sym is) ∙ none)

pub no_some : {T : Type 0} (found : Option T) → is_some found ≡ false → found ≡ None
no_some None e = refl
no_some (Some value) e = absurd (cc)

-- another graph at a place
pub with_pair : (table : Table Made) (place : ℕ) (made : Made)
    → (split (with_place table place made)).graphs ≡ with_graph (split table).graphs place (pair_of made).graph
with_pair table place made = ap (λ places. let graphs : Table Graph = record { places = places; room = table.room } in graphs)
    (map-set (λ (made : Made). (pair_of made).graph) table.places place made)

pub with_pair_as : (table : Table Made) (place : ℕ) (made : Made) (graph : Graph) → (pair_of made).graph ≡ graph
    → (split (with_place table place made)).graphs ≡ with_graph (split table).graphs place graph
with_pair_as table place made graph is = with_pair table place made ∙ ap (with_graph (split table).graphs place) is

-- a graph that stays is put back as it was
pub same_back : (table : Table Made) (place : ℕ) (now : GraphAndCache) (made : Made) → now ≡ made_at table place
    → (pair_of made).graph ≡ now.graph → (split (with_place table place made)).graphs ≡ (split table).graphs
same_back table place now made stood same =
    with_pair_as table place made (graph_at (split table).graphs place)
    (same ∙ (ap (λ (pair : GraphAndCache). pair.graph) stood ∙ sym (graph_there table place))) ∙ with_same no_graph (split table).graphs place

-- where nothing of it has changed, nothing has
pub all_back : (table : Table Made) (place : ℕ) (now : GraphAndCache) (made : Made) → now ≡ made_at table place → pair_of made ≡ now
    → split (with_place table place made) ≡ split table
all_back table place now made stood same =
    ap₂ (λ graphs caches. let both : Graphs = record { graphs = graphs; caches = caches } in both)
    (same_back table place now made stood (ap (λ (pair : GraphAndCache). pair.graph) same))
    (map-set (λ (made : Made). (pair_of made).cache) table.places place made
    ∙ (ap (set (split table).caches place) (ap (λ (pair : GraphAndCache). pair.cache) (same ∙ stood) ∙ sym (cache_there table place))
    ∙ set-get_or (split table).caches place no_cache))

-- what is in step at each place

pub at_place : (stores : StoresView) (table : Table Made) → InStep stores (split table) → (place : ℕ) → IsAt stores place (made_at table place)
unfolding InStep
at_place stores table step place =
    subst (λ graph. IsInStep (store_at stores.shelves place) (marks_at stores.marks place) graph (made_at table place).cache) (graph_there table place)
    (subst (λ cache. IsInStep (store_at stores.shelves place) (marks_at stores.marks place) (graph_at (split table).graphs place) cache)
    (cache_there table place) (step place))

pub at_places : (stores : StoresView) (table : Table Made) → ((place : ℕ) → IsAt stores place (made_at table place)) → InStep stores (split table)
unfolding InStep
at_places stores table each place =
    subst (λ graph. IsInStep (store_at stores.shelves place) (marks_at stores.marks place) graph (cache_at (split table).caches place))
    (sym (graph_there table place))
    (subst (λ cache. IsInStep (store_at stores.shelves place) (marks_at stores.marks place) (made_at table place).graph cache) (sym (cache_there table place))
    (each place))

pub pair_in_step : (stores : StoresView) (bindings : Graphs) → InStep stores bindings → (place : ℕ) → IsAt stores place (pair_at bindings place)
unfolding InStep
pair_in_step stores bindings step place = step place

-- another graph and another store at a place, and no other store and no other mark elsewhere
pub put_in_step : (old new : StoresView) (table : Table Made) (place : ℕ) (made : Made) → IsPlace table place
    → ((other : ℕ) → other ≢ place → store_at new.shelves other ≡ store_at old.shelves other)
    → ((other : ℕ) → other ≢ place → marks_at new.marks other ≡ marks_at old.marks other)
    → IsAt new place (pair_of made) → InStep old (split table) → InStep new (split (with_place table place made))
put_in_step old new table place made is_place stores marks here step =
    at_places new (with_place table place made) (λ other. ⊎_elim (own other) (elsewhere other) (cases_Bool (other == place)))
  where
    own : (other : ℕ) → (other == place) ≡ true → IsAt new other (made_at (with_place table place made) other)
    own other e =
        subst (λ other. IsAt new other (made_at (with_place table place made) other)) (sym (eqb-true other place e))
        (subst (IsAt new place) (sym (ap pair_of (get_or-set_same table.places place made None is_place))) here)

    elsewhere : (other : ℕ) → (other == place) ≡ false → IsAt new other (made_at (with_place table place made) other)
    elsewhere other e =
        let apart : other ≢ place = λ same. both_ways (other == place) e (eq-eqb other place same) in
        subst (IsAt new other) (sym (ap pair_of (get_or-set_other table.places place other made None apart)))
        (same_in_step (stores other apart) (marks other apart) (at_place old table step other))

-- nothing has changed
pub same_step : (place : ℕ) (stores : StoresView) (old new : Graphs) → new ≡ old → InStep stores old → LeavesInStep place stores old new
same_step place stores old new same step = record {
  step = subst (InStep stores) (sym same) step;
  others = λ other apart. ap (λ (graphs : Graphs). cache_at graphs.caches other) same;
}

-- what is kept of other places
pub others_kept : (table : Table Made) (place : ℕ) (made : Made) → OthersKept place (split table) (split (with_place table place made))
others_kept table place made other apart =
    cache_there (with_place table place made) other
    ∙ (ap (λ (made : Made). (pair_of made).cache) (get_or-set_other table.places place other made None apart) ∙ sym (cache_there table other))

-- and of this one
pub kept_here : (table : Table Made) (place : ℕ) (made : Made) → IsPlace table place
    → cache_at (split (with_place table place made)).caches place ≡ (pair_of made).cache
kept_here table place made is_place = cache_there (with_place table place made) place
    ∙ ap (λ (made : Made). (pair_of made).cache) (get_or-set_same table.places place made None is_place)

-- the graph that a place lends, and that it gets back

pub record IsLent (old : Graphs) (table : Table Made) (place : ℕ) (now : GraphAndCache) : Type 0 where
  pub view : split table ≡ old
  pub is : now ≡ made_at table place

pub lent : {old : Graphs} (table : Table Made) (place : ℕ) {made : Made} {inner : Box BindingGraph Global} {now : GraphAndCache} → split table ≡ old
    → made ≡ get_or table.places place None → made ≡ Some inner → now ≡ inner.value → IsLent old table place now
lent table place view there some is = record { view = view; is = is ∙ (sym (ap pair_of some) ∙ ap pair_of there) }

pub unmade : (table : Table Made) (place : ℕ) {slot : Made} (made : Made) → slot ≡ get_or table.places place None → pair_of made ≡ pair_of slot
    → split (with_place table place made) ≡ split table
unmade table place {slot} made there same = all_back table place (pair_of slot) made (ap pair_of there) same

module _ {old : Graphs} {table : Table Made} {place : ℕ} {now : GraphAndCache} (lent : IsLent old table place now) where
  pub graph_lent : now.graph ≡ graph_at old.graphs place
  graph_lent = ap (λ (pair : GraphAndCache). pair.graph) lent.is
      ∙ (sym (graph_there table place) ∙ ap (λ (bindings : Graphs). graph_at bindings.graphs place) lent.view)

  step_there : (stores : StoresView) → InStep stores old → InStep stores (split table)
  step_there stores = subst (InStep stores) (sym lent.view)

  pub step_lent : (stores : StoresView) → InStep stores old → IsAt stores place now
  step_lent stores step = subst (IsAt stores place) (sym lent.is) (at_place stores table (step_there stores step) place)

  pub put_at : (made : Made) (graph : Graph) → (pair_of made).graph ≡ graph
      → (split (with_place table place made)).graphs ≡ with_graph old.graphs place graph
  put_at made graph is = with_pair_as table place made graph is ∙ ap (λ (bindings : Graphs). with_graph bindings.graphs place graph) lent.view

  module _ {T E : Type 0} (r : Result T E) (made : Made) where
    pub put_back : OnErr r ((pair_of made).graph ≡ now.graph) → OnErr r ((split (with_place table place made)).graphs ≡ old.graphs)
    put_back = on_err_weaker r (λ same. same_back table place now made lent.is same ∙ ap (λ (bindings : Graphs). bindings.graphs) lent.view)

    pub put_so : (change : Graph → Graph) → OnOk r ((pair_of made).graph ≡ change now.graph)
        → OnOk r ((split (with_place table place made)).graphs ≡ with_graph old.graphs place (change (graph_at old.graphs place)))
    put_so change = on_ok_weaker r (λ so. put_at made (change (graph_at old.graphs place)) (so ∙ ap change graph_lent))

  -- what other places keep stays, and all is in step where no other store and no other mark has changed
  module _ (is_place : IsPlace old.graphs place) (made : Made) where
    leaves : (before after : StoresView) → ((other : ℕ) → other ≢ place → store_at after.shelves other ≡ store_at before.shelves other)
        → ((other : ℕ) → other ≢ place → marks_at after.marks other ≡ marks_at before.marks other) → IsAt after place (pair_of made)
        → InStep before old → LeavesInStep place after old (split (with_place table place made))
    leaves before after stores marks here step =
        subst (λ (old : Graphs). LeavesInStep place after old (split (with_place table place made))) lent.view (record {
          step = put_in_step before after table place made
              (place_there table place (subst (λ (old : Graphs). IsPlace old.graphs place) (sym lent.view) is_place)) stores marks here
              (step_there before step);
          others = others_kept table place made;
        })

    pub leaves_drained : {before after : StoresView} → IsDrained place before after → IsAt after place (pair_of made) → InStep before old
        → LeavesInStep place after old (split (with_place table place made))
    leaves_drained {before} {after} drained = leaves before after (λ other apart. ap (λ shelves. store_at shelves other) drained.shelves) drained.others

    pub leaves_stored : {before after : StoresView} (store : Store) → IsPlace before.shelves.table place → IsStored place store before after
        → IsAt after place (pair_of made) → InStep before old → LeavesInStep place after old (split (with_place table place made))
    leaves_stored {before} {after} store is_store stored =
        leaves before after (stands_elsewhere before after place store is_store stored.shelves) stored.others

    pub leaves_stayed : (stores : StoresView) → StaysAt now (pair_of made) → InStep stores old
        → LeavesInStep place stores old (split (with_place table place made))
    leaves_stayed stores stays step = leaves stores stores (λ other apart. refl) (λ other apart. refl)
        (stays (store_at stores.shelves place) (marks_at stores.marks place) (step_lent stores step)) step

-- a place that is opened keeps nothing, and what is kept of others stays
pub opened_kept : (table : Table Made) (place : ℕ) → cache_at (split (opened table None)).caches place
    ≡ cache_at (split table).caches place
opened_kept table place = cache_there (opened table None) place
    ∙ (ap (λ (made : Made). (pair_of made).cache) (default_pushed (let none : Made = None in none) table.places place) ∙ sym (cache_there table place))

pub nothing_behind : (table : Table Made) (place : ℕ) → place ≡ length table.places → cache_at (split table).caches place ≡ no_cache
nothing_behind table place is = cache_there table place ∙ ap (λ (made : Made). (pair_of made).cache)
    (get_or_past table.places place None (omega (arith, is)))

-- where no graph is, and nothing is kept, whatever the stores are
pub opened_in_step : (stores : StoresView) (table : Table Made) → InStep stores (split table) → InStep stores (split (opened table None))
opened_in_step stores table step = at_places stores (opened table None)
    (λ place. subst (IsAt stores place) (sym (ap pair_of (default_pushed (let none : Made = None in none) table.places place)))
    (at_place stores table step place))

-- a property that is not bound is taken away nowhere
nothing_taken : (q : Property) (bs : List Binding) → is_some (term_at bs q) ≡ false → filter (λ (binding : Binding). not (is_property q binding.at)) bs ≡ bs
nothing_taken q [] none = refl
nothing_taken q (b ∷ bs) none = by (is_property q b.at) none (nothing_taken q bs)
  where
    by : (t : Bool) → is_some (option_map (λ (binding : Binding). binding.expr) (cond t (Some b) (find (λ (binding : Binding). is_property q binding.at) bs)))
        ≡ false → (is_some (term_at bs q) ≡ false → filter (λ (binding : Binding). not (is_property q binding.at)) bs ≡ bs)
        → cond (not t) (b ∷ filter (λ (binding : Binding). not (is_property q binding.at)) bs)
        (filter (λ (binding : Binding). not (is_property q binding.at)) bs) ≡ b ∷ bs
    by true e rest = absurd (cc)
    by false e rest = ap (λ xs. b ∷ xs) (rest e)

pub unbound_already : (table : Table Graph) (place : ℕ) (q : Property) → is_bound (graph_at table place).bindings q ≡ false
    → table ≡ with_graph table place (unbound (graph_at table place) q)
unbound_already table place q none =
    let graph : Graph = graph_at table place in
    sym (ap (λ (bs : List Binding). with_graph table place (record graph { bindings = bs })) (nothing_taken q graph.bindings none)
    ∙ with_same no_graph table place)
