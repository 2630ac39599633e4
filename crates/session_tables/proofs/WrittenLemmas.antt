-- A value that is written in place of another.
use Rattle.std.proofs.Common.{◌≡◌, ◌∙◌, ◌==◌, ℕ, Bool, true, false, cond, List, [], ◌∷◌, Option, Some, None, filter, not, option_map, slice_get, refl, sym, ap}
use Rattle.std.specs.Option.{option_and_then, option_map_or}
use Rattle.std.proofs.lemmas.List.{set-set}
use Rattle.variant_value.specs.declared.value.Value.{Value}
use Rattle.variant_value.specs.Values.{converted}
use Rattle.property_store.specs.declared.field.Field.{Field}
use Rattle.property_store.specs.Store.{Properties, Store, changed, field_at, fitting, properties_of, with_value, written}
use Rattle.property_store.proofs.ForCallers.{changed_fields}
use Rattle.property_store.specs.declared.property.Property.{Property}
use Rattle.property_store.specs.Property.{is_property}
use Rattle.property_store.specs.Table.{StoreTable, store_at, with_store}
use Rattle.shared_rows.specs.Table.{IsPlace}
use Rattle.shared_rows.proofs.ForCallers as column
use Rattle.binding_values.specs.declared.binding.Binding.{Binding}
use Rattle.binding_values.specs.Graph.{Graph, all_shown, is_bound, is_open, no_graph, settled_graph, stored_value, taken, unbound, value_in}
use Rattle.binding_graph.specs.Table.{Graphs, graph_at, with_graph}
use Rattle.session_tables.specs.Bound.{bound_at, seen_of}
use Rattle.session_tables.proofs.ShowingLemmas.{unbound_shown, value_seen}

-- of two changes of an object, where the second makes the same without the first
changed_twice : (first second : Properties → Properties) (object : ℕ) → ((of : Properties) → (first of).object ≡ of.object)
    → ((of : Properties) → second (first of) ≡ second of) → (store : Store) → changed second object (changed first object store) ≡ changed second object store
changed_twice first second object same once [] = refl
changed_twice first second object same once (of ∷ rest) =
    ap (λ of. of ∷ changed second object (changed first object rest)) (one (of.object == object) refl)
    ∙ ap (λ rest. cond (of.object == object) (second of) of ∷ rest) (changed_twice first second object same once rest)
  where
    one : (is : Bool) → (of.object == object) ≡ is → cond ((cond is (first of) of).object == object) (second (cond is (first of) of)) (cond is (first of) of)
        ≡ cond is (second of) of
    one true e = ap (λ is. cond is (second (first of)) (first of)) (ap (λ number. number == object) (same of) ∙ e) ∙ once of
    one false e = ap (λ is. cond is (second of) of) e

module _ (store : Store) (object number : ℕ) (first second : Value) where
  abbrev after : Store
  after = changed (with_value number first) object store

  by_fields : (store : Store) → field_at store object number ≡ option_and_then (λ fields. slice_get fields number)
      (option_map (λ (of : Properties). of.fields) (properties_of store object))
  by_fields store = by (properties_of store object)
    where
      by : (found : Option Properties) → option_and_then (λ (of : Properties). slice_get of.fields number) found
          ≡ option_and_then (λ fields. slice_get fields number) (option_map (λ (of : Properties). of.fields) found)
      by None = refl
      by (Some of) = refl

  fits_still : fitting after object number second ≡ fitting store object number second
  fits_still = ap (option_and_then (λ (field : Field). converted field.kind second))
      (by_fields after ∙ (ap (option_and_then (λ fields. slice_get fields number))
      (changed_fields (with_value number first) object (λ of. refl) (λ of. refl) store object) ∙ sym (by_fields store)))

  written_over : fitting store object number second ≡ Some second → written after object number second ≡ written store object number second
  written_over fits =
      ap (λ fit. option_map_or (λ fit. changed (with_value number fit) object after) fit after) (fits_still ∙ fits)
      ∙ (changed_twice (with_value number first) (with_value number second) object (λ of. refl)
      (λ of. ap (λ values. let values_of : Properties = record of { values = values } in values_of) (set-set of.values number first second)) store
      ∙ sym (ap (λ fit. option_map_or (λ fit. changed (with_value number fit) object store) fit store) fits))

-- what was taken before a value is written is written over
pub written_taken : (store : Store) (graph : Graph) (q : Property) (value : Value) → fitting store q.object q.number value ≡ Some value
    → written (taken store graph q) q.object q.number value ≡ written store q.object q.number value
written_taken store graph q value fits = by (is_bound graph.bindings q)
  where
    old : Value
    old = (value_in store graph q).0

    over : (fit : Option Value) → written (option_map_or (λ fit. changed (with_value q.number fit) q.object store) fit store) q.object q.number value
        ≡ written store q.object q.number value
    over None = refl
    over (Some fit) = written_over store q.object q.number fit value fits

    by : (bound : Bool) → written (cond bound (written store q.object q.number old) store) q.object q.number value ≡ written store q.object q.number value
    by true = over (fitting store q.object q.number old)
    by false = refl

-- so the property is written as if it was written alone
pub wrote_is : (stores took wrote : StoreTable) (place : ℕ) (graph : Graph) (q : Property) (value : Value) → IsPlace stores.table place
    → fitting (store_at stores place) q.object q.number value ≡ Some value → took ≡ with_store stores place (taken (store_at stores place) graph q)
    → wrote ≡ with_store took place (written (store_at took place) q.object q.number value)
    → wrote ≡ with_store stores place (written (store_at stores place) q.object q.number value)
wrote_is stores took wrote place graph q value shelf fits first second =
    second
    ∙ (ap (with_store took place) (ap (λ store. written store q.object q.number value)
    (ap (λ (shelves : StoreTable). store_at shelves place) first ∙ column.with_there [] stores.table place (taken store graph q) shelf)
    ∙ written_taken store graph q value fits)
    ∙ (ap (λ (shelves : StoreTable). with_store shelves place (written store q.object q.number value)) first
    ∙ ap (λ table. let shelves : StoreTable = record stores { table = table } in shelves)
    (column.with_twice stores.table place (taken store graph q) (written store q.object q.number value))))
  where
    store : Store
    store = store_at stores place

-- a property that is bound no longer shows what is stored
unbound_not : (bindings : List Binding) (q : Property) → is_bound (filter (λ binding. not (is_property q binding.at)) bindings) q ≡ false
unbound_not [] q = refl
unbound_not (binding ∷ rest) q = by (is_property q binding.at) refl (unbound_not rest q)
  where
    kept : List Binding
    kept = filter (λ binding. not (is_property q binding.at)) rest

    by : (t : Bool) → is_property q binding.at ≡ t → is_bound kept q ≡ false → is_bound (cond (not t) (binding ∷ kept) kept) q ≡ false
    by true e later = later
    by false e later = rw e later

pub written_shown : (stores new : StoreTable) (bindings after : Graphs) (place : ℕ) (q : Property) (store : Store) → IsPlace stores.table place
    → IsPlace bindings.graphs place → new ≡ with_store stores place store
    → after.graphs ≡ with_graph bindings.graphs place (settled_graph store (unbound (graph_at bindings.graphs place) q))
    → (value_in (store_at new place) (bound_at (seen_of new after) place) q).0 ≡ stored_value store q
written_shown stores new bindings after place q store shelf there first second =
    ap (λ (shown : Value × _). shown.0) (value_seen (store_at new place) after.graphs (seen_of new after).graphs place q refl)
    ∙ (ap (λ store. (value_in store (graph_at after.graphs place) q).0)
    (ap (λ (shelves : StoreTable). store_at shelves place) first ∙ column.with_there [] stores.table place store shelf)
    ∙ (ap (λ graph. (value_in store graph q).0)
    (ap (λ graphs. graph_at graphs place) second ∙ column.with_there no_graph bindings.graphs place _ there)
    ∙ ap (λ (shown : Value × _). shown.0) (unbound_shown store (settled_graph store graph) q (by (is_open graph)))))
  where
    graph : Graph
    graph = unbound (graph_at bindings.graphs place) q

    by : (deep : Bool) → is_bound (cond deep graph (record graph { last = all_shown store graph.bindings })).bindings q ≡ false
    by true = unbound_not (graph_at bindings.graphs place).bindings q
    by false = unbound_not (graph_at bindings.graphs place).bindings q
