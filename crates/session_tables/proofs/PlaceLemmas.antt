-- Places that are noted, changed and settled.
use Rattle.std.proofs.Common.{◌≡◌, ◌∙◌, ℕ, Bool, true, false, cond, List, [], Option, Result, Ok, Err, IfOk, OnErr, OnOk, refl, sym, ap}
use Rattle.std.proofs.lemmas.Bool.{false≢true}
use Rattle.shared_rows.specs.Table.{ChangesAt, IsPlace, Table}
use Rattle.shared_rows.proofs.ForCallers as column
use Rattle.property_store.specs.declared.property.Property.{Property}
use Rattle.property_store.specs.Store.{Store}
use Rattle.property_store.specs.Table.{StoreTable, StoresView, store_at, with_store}
use Rattle.binding_values.specs.declared.binding.Binding.{Binding}
use Rattle.binding_values.specs.declared.change.Change.{Change}
use Rattle.binding_values.specs.Graph.{Graph, all_shown, changes, is_open, no_graph, settled_changes, settled_graph}
use Rattle.binding_graph.specs.Step.{InStep}
use Rattle.binding_graph.specs.Table.{Graphs, graph_at, with_graph}
use Rattle.session_model.specs.State.{closed}
use Rattle.session_tables.specs.Bound.{ChangesBound, all_closed, seen_of, with_bound}
use Rattle.session_tables.specs.Settled.{AllSettled, IsNoted, IsSettled}
use Rattle.session_tables.specs.Told.{told_at, told_of}
use Rattle.session_tables.proofs.InvariantLemmas.{closed_settled, seen_put, settled_put}
use Rattle.session_tables.proofs.SeenLemmas.{changes_bound, put_seen, put_told, with_bindings}
use Rattle.session_tables.proofs.SettledLemmas.{closed_at}

-- contracts see no change where a place is settled that has not changed
pub settled_alike : (store : Store) (old new : Table Graph) (place : ℕ) → new ≡ with_graph old place (settled_graph store (graph_at old place))
    → all_closed new ≡ all_closed old
settled_alike store old new place is =
    ap all_closed is
    ∙ (seen_put old place (settled_graph store (graph_at old place))
    ∙ (ap (with_graph (all_closed old) place) (closed_settled store (graph_at old place) ∙ sym (closed_at old place))
    ∙ column.with_same no_graph (all_closed old) place))

-- what is told after a place was noted and bound otherwise
told_kept : (store other : Store) (graph : Graph) (change : List Binding → List Binding) (written : Option Property) → IsNoted store graph
    → settled_changes other (with_bindings change graph) written ≡ told_of store graph other (with_bindings change graph) written
told_kept store other graph change written noted = by (is_open graph) refl
  where
    by : (deep : Bool) → is_open graph ≡ deep → cond deep [] (changes graph.last (all_shown other (change graph.bindings)) written)
        ≡ cond deep [] (changes (all_shown store graph.bindings) (all_shown other (change graph.bindings)) written)
    by true e = refl
    by false e = ap (λ last. changes last (all_shown other (change graph.bindings)) written) (noted e)

-- what follows for either result of a call
pub by_result : {T E P Q R : Type 0} (result : Result T E) → (P → R) → (Q → R) → OnOk result P → OnErr result Q → R
by_result (Ok value) ok err holds fails = ok holds
by_result (Err error) ok err holds fails = err fails

pub where_ok_too : {T E P Q : Type 0} (result : Result T E) → (P → Q) → OnOk result P → OnOk result Q
where_ok_too (Ok value) so holds = so holds
where_ok_too (Err error) so holds = tt

pub if_ok_with : {T E P : Type 0} {Q R : T → Type 0} (result : Result T E) → (P → (value : T) → Q value → R value) → OnOk result P → IfOk result Q
    → IfOk result R
if_ok_with (Ok value) so holds its = so holds value its
if_ok_with (Err error) so holds its = tt

pub if_ok_too : {T E : Type 0} {P Q : T → Type 0} (result : Result T E) → ((value : T) → P value → Q value) → IfOk result P → IfOk result Q
if_ok_too (Ok value) so holds = so value holds
if_ok_too (Err error) so holds = tt

-- A place got this store and this graph and was settled, which told of the changes. If memory ran out, its bindings were
-- forgotten.
pub record Settles {T E : Type 0} (place : ℕ) (result : Result T E) (told : T → List Change) (written : Option Property) (stores new : StoreTable)
    (bindings after : Graphs) (store : Store) (graph : Graph) : Type 0 where
  pub shelves : new ≡ with_store stores place store
  pub tells : IfOk result (λ value. told value ≡ settled_changes store graph written)
  pub ok : OnOk result (after.graphs ≡ with_graph bindings.graphs place (settled_graph store graph))
  pub cleared : OnErr result (after.graphs ≡ with_graph bindings.graphs place no_graph)

-- so it is where one call changes the place and settles it
module _ {T E : Type 0} (place : ℕ) (result first : Result T E) (told : T → List Change) (written : Option Property) (stores new : StoreTable)
    (bindings settled after : Graphs) (store : Store) (graph : Graph) (shelves : new ≡ with_store stores place store) (same : result ≡ first)
    (tells : IfOk first (λ value. told value ≡ settled_changes store graph written))
    (ok : OnOk first (settled.graphs ≡ with_graph bindings.graphs place (settled_graph store graph)))
    (changed : ChangesAt no_graph place bindings.graphs settled.graphs) (kept : OnOk result (after.graphs ≡ settled.graphs))
    (cleared : OnErr result (after.graphs ≡ with_graph settled.graphs place no_graph)) where
  pub settles_once : Settles place result told written stores new bindings after store graph
  settles_once = by result (rw (← same) at tells) (rw (← same) at ok) kept cleared
    where
      by : (result : Result T E) → IfOk result (λ value. told value ≡ settled_changes store graph written)
          → OnOk result (settled.graphs ≡ with_graph bindings.graphs place (settled_graph store graph)) → OnOk result (after.graphs ≡ settled.graphs)
          → OnErr result (after.graphs ≡ with_graph settled.graphs place no_graph) → Settles place result told written stores new bindings after store graph
      by (Ok value) tells ok kept cleared = record { shelves = shelves; tells = tells; ok = kept ∙ ok; cleared = tt }
      by (Err error) tells ok kept cleared = record {
        shelves = shelves;
        tells = tt;
        ok = tt;
        cleared = cleared ∙ column.with_after no_graph bindings.graphs settled.graphs place no_graph changed;
      }

-- and where one call changes the place and another settles it
module _ {T E : Type 0} (place : ℕ) (result first : Result T E) (told : T → List Change) (written : Option Property) (stores middle new : StoreTable)
    (bindings changed settled after : Graphs) (store : Store) (graph : Graph) (shelf : IsPlace stores.table place) (there : IsPlace bindings.graphs place)
    (stored : middle ≡ with_store stores place store) (bound : changed.graphs ≡ with_graph bindings.graphs place graph) (drained : new ≡ middle)
    (same : result ≡ first) (tells : IfOk first (λ value. told value ≡ settled_changes (store_at middle place) (graph_at changed.graphs place) written))
    (ok : OnOk first (settled.graphs ≡ with_graph changed.graphs place (settled_graph (store_at middle place) (graph_at changed.graphs place))))
    (err : OnErr first (settled.graphs ≡ changed.graphs)) (kept : OnOk result (after.graphs ≡ settled.graphs))
    (cleared : OnErr result (after.graphs ≡ with_graph settled.graphs place no_graph)) where
  store_is : store_at middle place ≡ store
  store_is = ap (λ (shelves : StoreTable). store_at shelves place) stored ∙ column.with_there [] stores.table place store shelf

  graph_is : graph_at changed.graphs place ≡ graph
  graph_is = ap (λ table. graph_at table place) bound ∙ column.with_there no_graph bindings.graphs place graph there

  put_first : ChangesAt no_graph place bindings.graphs changed.graphs
  put_first = column.changes_with no_graph bindings.graphs changed.graphs place graph there bound

  settled_is : OnOk first (settled.graphs ≡ with_graph bindings.graphs place (settled_graph store graph))
  settled_is =
      where_ok_too first
      (λ is. is
      ∙ (ap (λ store. with_graph changed.graphs place (settled_graph store (graph_at changed.graphs place))) store_is
      ∙ (ap (λ graph. with_graph changed.graphs place (settled_graph store graph)) graph_is
      ∙ column.with_after no_graph bindings.graphs changed.graphs place (settled_graph store graph) put_first)))
      ok

  pub settles : Settles place result told written stores new bindings after store graph
  settles =
      settles_once place result first told written stores new bindings settled after store graph (drained ∙ stored) same
      (if_ok_too first (λ value is. is ∙ (ap (λ store. settled_changes store (graph_at changed.graphs place) written) store_is
      ∙ ap (λ graph. settled_changes store graph written) graph_is)) tells)
      settled_is
      (by_result first (λ is. column.changes_with no_graph bindings.graphs settled.graphs place (settled_graph store graph) there is)
      (λ is. column.changes_twice no_graph bindings.graphs changed.graphs settled.graphs place put_first
      (column.changes_same no_graph changed.graphs settled.graphs place is)) settled_is err)
      kept cleared

module _ {T E : Type 0} {place : ℕ} {result : Result T E} {told : T → List Change} {written : Option Property} {stores new : StoreTable}
    {bindings after : Graphs} {store : Store} {graph : Graph} (its : Settles place result told written stores new bindings after store graph) where
  -- what contracts see then
  pub settled_to : (other : Graph) → closed graph ≡ other → after.graphs ≡ with_graph bindings.graphs place (settled_graph store graph)
      → seen_of new after ≡ with_bound (seen_of stores bindings) place store other
  settled_to other same is = put_seen stores new bindings after place store (settled_graph store graph) other its.shelves is (closed_settled store graph ∙ same)

  pub cleared_to : after.graphs ≡ with_graph bindings.graphs place no_graph → seen_of new after ≡ with_bound (seen_of stores bindings) place store no_graph
  cleared_to is = put_seen stores new bindings after place store no_graph no_graph its.shelves is refl

  -- the graph of the place, as contracts see it
  pub graph_settled : IsPlace bindings.graphs place → after.graphs ≡ with_graph bindings.graphs place (settled_graph store graph)
      → graph_at (all_closed after.graphs) place ≡ closed graph
  graph_settled there is =
      closed_at after.graphs place
      ∙ (ap closed (ap (λ graphs. graph_at graphs place) is ∙ column.with_there no_graph bindings.graphs place (settled_graph store graph) there)
      ∙ closed_settled store graph)

  -- no other place has changed
  pub changes_settled : IsPlace stores.table place → IsPlace (all_closed bindings.graphs) place
      → ChangesBound place (seen_of stores bindings) (seen_of new after)
  changes_settled shelf there =
      by_result result (λ is. changes (closed graph) (settled_to (closed graph) refl is)) (λ is. changes no_graph (cleared_to is)) its.ok its.cleared
    where
      changes : (graph : Graph) → seen_of new after ≡ with_bound (seen_of stores bindings) place store graph
          → ChangesBound place (seen_of stores bindings) (seen_of new after)
      changes graph = changes_bound (seen_of stores bindings) (seen_of new after) place store graph shelf there

  -- and what is told, where the place was noted and other bindings were put
  pub told_noted : (change : List Binding → List Binding) → IsPlace stores.table place → IsPlace bindings.graphs place
      → IsNoted (store_at stores place) (graph_at bindings.graphs place) → graph ≡ with_bindings change (graph_at bindings.graphs place)
      → IfOk result (λ value. told value ≡ told_at place (seen_of stores bindings) (seen_of new after) written)
  told_noted change shelf there noted same =
      if_ok_with result
      (λ is value tells. tells
      ∙ (ap (λ graph. settled_changes store graph written) same
      ∙ (told_kept (store_at stores place) store (graph_at bindings.graphs place) change written noted
      ∙ sym (put_told stores new bindings after place shelf there store change written its.shelves
      (is ∙ ap (λ graph. with_graph bindings.graphs place (settled_graph store graph)) same)))))
      its.ok its.tells

-- all places are settled then
pub all_settled : {T E : Type 0} {place : ℕ} {result : Result T E} {told : T → List Change} {written : Option Property} {stores new : StoresView}
    {bindings after : Graphs} {store : Store} {graph : Graph} → Settles place result told written stores.shelves new.shelves bindings after store graph
    → IsPlace stores.shelves.table place → IsPlace bindings.graphs place → AllSettled stores bindings → InStep new after → AllSettled new after
all_settled {T} {E} {place} {result} {told} {written} {stores} {new} {bindings} {after} {store} {graph} its shelf there all step =
    by_result result
    (λ is. settled_put stores new bindings after place store (settled_graph store graph) shelf there its.shelves is (by (is_open graph) refl) all step)
    (λ is. settled_put stores new bindings after place store no_graph shelf there its.shelves is (λ shut some. absurd (some refl)) all step)
    its.ok its.cleared
  where
    by : (deep : Bool) → is_open graph ≡ deep → IsSettled store (cond deep graph (record graph { last = all_shown store graph.bindings }))
    by true e shut some = absurd (false≢true (sym shut ∙ e))
    by false e shut some = refl
