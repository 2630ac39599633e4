-- A write where nothing is bound and no group is open.
use Rattle.std.proofs.Common.{◌≡◌, ◌∙◌, ◌==◌, ◌&&◌, ℕ, zero, suc, Bool, true, false, not, cond, List, [], ◌∷◌, length, nat_lt, is_some, IfOk, Result, Ok, Err}
use Rattle.std.proofs.Common.{Option, Some, None, option_map, filter, refl, sym, ap, subst, arith}
use Rattle.std.proofs.lemmas.Bool.{and_parts, eqb-true}
use Rattle.std.specs.List.{slice_get}
use Rattle.std.specs.Result.{result_err, result_unwrap_or}
use Rattle.plain_types.specs.declared.code.Code.{Code}
use Rattle.plain_types.specs.declared.code.Code.TheVariants.{BadValue}
use Rattle.std.specs.Option.{option_and_then, option_map_or}
use Rattle.shared_rows.specs.Table.{IsPlace}
use Rattle.shared_rows.proofs.ForCallers as column
use Rattle.variant_value.specs.declared.value.Value.{Value}
use Rattle.variant_value.specs.declared.value.Value.TheVariants.{Invalid}
use Rattle.variant_value.specs.Values.{IsOfKind, IsShort, converted, is_same}
use Rattle.property_store.specs.declared.field.Field.{Field}
use Rattle.property_store.specs.Store.{AreSound, IsSound, Properties, Store, changed, field_at, fitting, is_change, properties_of, value_at, with_value}
use Rattle.property_store.specs.Store.{without, write_refusal}
use Rattle.property_store.specs.Store as stored
use Rattle.property_store.specs.Table.{StoreTable, store_at, with_store}
use Rattle.property_store.proofs.ForCallers.{converted_fits, with_value_sound, sound_changed}
use Rattle.binding_values.specs.declared.binding.Binding.{Binding}
use Rattle.binding_values.specs.declared.change.Change.{Change}
use Rattle.binding_values.specs.declared.change.ChangeKind.TheVariants as message
use Rattle.property_store.specs.declared.property.Property.{Property}
use Rattle.binding_values.specs.Graph.{Graph, all_shown, changes, is_bound, is_open, no_graph, value_in}
use Rattle.binding_values.specs.Scene.{Cell}
use Rattle.property_store.specs.Property.{is_property}
use Rattle.binding_values.specs.Stored.{cell_in, cell_of}
use Rattle.binding_graph.specs.Table.{Graphs, graph_at}
use Rattle.session_model.specs.State.{closed}
use Rattle.session_model.proofs.ForCallers.{going_told, its_cell, write_told}
use Rattle.session_tables.specs.Bound.{all_closed, bound_at, seen_of, with_bound}
use Rattle.binding_graph.specs.WriteChanges.{alone, changes_in}
use Rattle.session_tables.specs.Told.{told_at, told_of}
use Rattle.session_tables.proofs.DeclaredLemmas.{TellsWritten, with_written}
use Rattle.session_tables.specs.Settled.{is_idle}
use Rattle.session_tables.proofs.CellLemmas.{found_sound, standing}
use Rattle.session_tables.proofs.SeenLemmas.{put_seen, told_seen}
use Rattle.session_tables.proofs.SettledLemmas.{closed_at, closed_bindings, closed_depth}
use Rattle.session_tables.proofs.ShowingLemmas.{unbound_shown, value_seen}

-- what that is
pub record IsIdle (graph : Graph) : Type 0 where
  pub none : graph.bindings ≡ []
  pub shut : is_open graph ≡ false

pub idle_is : (graph : Graph) → is_idle graph ≡ true → IsIdle graph
idle_is graph idle = by graph.bindings refl graph.depth refl idle
  where
    by : (bindings : List Binding) → graph.bindings ≡ bindings → (depth : ℕ) → graph.depth ≡ depth → ((length bindings == 0) && (depth == 0)) ≡ true
        → IsIdle graph
    by [] e zero f is = record { none = e; shut = ap (λ depth. nat_lt 0 depth) f }
    by [] e (suc depth) f is = let never : suc depth ≡ 0 = eqb-true (suc depth) 0 (and_parts true (suc depth == 0) is).1 in absurd (omega (arith, never))
    by (first ∷ rest) e depth f is =
        let never : suc (length rest) ≡ 0 = eqb-true (suc (length rest)) 0 (and_parts (suc (length rest) == 0) (depth == 0) is).0 in absurd
        (omega (arith, never))

module _ (store : Store) (sound : IsSound store) (q : Property) (value fit : Value) (short : IsShort value)
    (fits : fitting store q.object q.number value ≡ Some fit) where
  abbrev new : Store
  new = changed (with_value q.number fit) q.object store

  -- the property that is written
  record IsWritten : Type 0 where
    of : Properties
    found : properties_of store q.object ≡ Some of
    are : AreSound of
    field : Field
    declared : slice_get of.fields q.number ≡ Some field
    fitted : converted field.kind value ≡ Some fit
    old : Value
    stands : slice_get of.values q.number ≡ Some old

  written : IsWritten
  written = by (properties_of store q.object) refl fits
    where
      by_field : (of : Properties) → properties_of store q.object ≡ Some of → (field : Option Field) → slice_get of.fields q.number ≡ field
          → option_and_then (λ (field : Field). converted field.kind value) field ≡ Some fit → IsWritten
      by_field of e None f g = absurd (cc)
      by_field of e (Some field) f g =
          let are = found_sound store sound q.object of e in
          let there = standing of are q.number field f in
          record { of = of; found = e; are = are; field = field; declared = f; fitted = g; old = there.value; stands = there.is }

      by : (of : Option Properties) → properties_of store q.object ≡ of
          → option_and_then (λ (field : Field). converted field.kind value) (option_and_then (λ (of : Properties). slice_get of.fields q.number) of) ≡ Some fit
          → IsWritten
      by None e f = absurd (cc)
      by (Some of) e f = by_field of e (slice_get of.fields q.number) refl f

  -- its cell before and after
  cell_before : cell_in store q ≡ Some (record { kind = written.field.kind; value = written.old })
  cell_before =
      ap (λ of. option_map_or (cell_of q.number) of None) written.found
      ∙ (ap (λ field. option_map_or (λ (field : Field). option_map (λ value. let cell : Cell = record { kind = field.kind; value = value } in cell)
      (slice_get written.of.values q.number)) field None) written.declared
      ∙ ap (option_map (λ value. let cell : Cell = record { kind = written.field.kind; value = value } in cell)) written.stands)

  cell_after : cell_in new q ≡ Some (record { kind = written.field.kind; value = fit })
  cell_after = its_cell store q fit (record { kind = written.field.kind; value = written.old }) cell_before

  new_sound : IsSound new
  new_sound = sound_changed (with_value q.number fit) q.object (λ of. refl) store
      (λ of is its. by of (sym written.found ∙ is)) sound
    where
      kind : IsOfKind written.field.kind fit
      kind = converted_fits written.field.kind value fit short written.fitted

      by : (of : Properties) → Some written.of ≡ Some of → AreSound (with_value q.number fit of)
      by of e = let same : written.of ≡ of = cc in subst (λ of. AreSound (with_value q.number fit of)) same
          (with_value_sound written.of written.are q.number fit written.field written.declared kind.0 kind.1)

  other : is_change store q.object q.number value ≡ not (is_same written.old fit)
  other =
      ap (λ fit. option_map_or (λ fit. option_map_or (λ stands. not (is_same stands fit)) (value_at store q.object q.number) false) fit false) fits
      ∙ ap (λ stands. option_map_or (λ stands. not (is_same stands fit)) stands false)
      (ap (option_and_then (λ (of : Properties). slice_get of.values q.number)) written.found ∙ written.stands)

  -- it alone tells of the write
  pub tells_alone : changes_in q fit (alone (is_change store q.object q.number value)) ≡ changes (all_shown store []) (all_shown new []) (Some q)
  tells_alone = ap (λ change. changes_in q fit (alone change)) other
      ∙ (by (is_same written.old fit) ∙ sym (write_told store q fit new_sound (record { kind = written.field.kind; value = written.old }) cell_before))
    where
      by : (same : Bool) → changes_in q fit (alone (not same))
          ≡ cond same [] ((let change : Change = record { at = q; told = message.Value fit } in change) ∷ [])
      by true = refl
      by false = refl

  -- and shows the value then
  pub shows_fit : (graph : Graph) → graph.bindings ≡ [] → (value_in new graph q).0 ≡ fit
  shows_fit graph none =
      ap (λ (shown : Value × _). shown.0) (unbound_shown new graph q (ap (λ bindings. is_bound bindings q) none))
      ∙ ap (λ cell. option_map_or (λ (cell : Cell). cell.value) cell Invalid) cell_after

-- where nothing is bound, taking bindings away leaves the graph
pub unbound_idle : (graph : Graph) (test : Binding → Bool) → IsIdle graph → record graph { bindings = filter test graph.bindings } ≡ graph
unbound_idle graph test idle = ap (λ bindings. let after : Graph = record { bindings = filter test bindings; last = graph.last; depth = graph.depth } in after)
    idle.none ∙ sym (ap (λ bindings. let after : Graph = record { bindings = bindings; last = graph.last; depth = graph.depth } in after) idle.none)

pub kept_idle : (bindings : Graphs) (place : ℕ) (test : Binding → Bool) → is_idle (graph_at bindings.graphs place) ≡ true
    → closed (graph_at bindings.graphs place) ≡ record (graph_at (all_closed bindings.graphs) place)
    { bindings = filter test (graph_at (all_closed bindings.graphs) place).bindings }
kept_idle bindings place test idle =
    let graph = graph_at bindings.graphs place in
    let its : IsIdle (closed graph) = record {
      none = closed_bindings graph ∙ (idle_is graph idle).none;
      shut = ap (λ depth. nat_lt 0 depth) (closed_depth graph)
          ∙ (idle_is graph idle).shut;
    } in
    sym (unbound_idle (closed graph) test its) ∙ ap (λ (graph : Graph). let after : Graph = record graph { bindings = filter test graph.bindings } in after)
    (sym (closed_at bindings.graphs place))

-- so it is seen
module _ (stores after : StoreTable) (bindings : Graphs) (place : ℕ) (q : Property) (value fit : Value) (shelf : IsPlace stores.table place)
    (idle : is_idle (graph_at bindings.graphs place) ≡ true) (sound : IsSound (store_at stores place)) (short : IsShort value)
    (fits : fitting (store_at stores place) q.object q.number value ≡ Some fit)
    (is : after ≡ with_store stores place (changed (with_value q.number fit) q.object (store_at stores place))) where
  pub alone_told : TellsWritten place q (seen_of stores bindings) (seen_of after bindings) (alone (is_change (store_at stores place) q.object q.number value))
  alone_told =
      ap (λ now. changes_in q now (alone (is_change (store_at stores place) q.object q.number value))) shown
      ∙ (tells_alone (store_at stores place) sound q value fit short fits ∙ sym told)
    where
      graph : Graph
      graph = graph_at bindings.graphs place

      its : IsIdle graph
      its = idle_is graph idle

      at_place : store_at after place ≡ changed (with_value q.number fit) q.object (store_at stores place)
      at_place = ap (λ (shelves : StoreTable). store_at shelves place) is ∙ column.with_there [] stores.table place _ shelf

      shown : (value_in (store_at after place) (bound_at (seen_of after bindings) place) q).0 ≡ fit
      shown =
          ap (λ (shown : Value × _). shown.0) (value_seen (store_at after place) bindings.graphs (seen_of after bindings).graphs place q refl)
          ∙ (ap (λ store. (value_in store graph q).0) at_place ∙ shows_fit (store_at stores place) sound q value fit short fits graph its.none)

      told : told_at place (seen_of stores bindings) (seen_of after bindings) (Some q)
          ≡ changes (all_shown (store_at stores place) []) (all_shown (changed (with_value q.number fit) q.object (store_at stores place)) []) (Some q)
      told =
          told_seen stores after bindings bindings place (Some q)
          ∙ (ap (λ store. told_of (store_at stores place) graph store graph (Some q)) at_place
          ∙ (ap (λ deep. cond deep [] (changes (all_shown (store_at stores place) graph.bindings)
          (all_shown (changed (with_value q.number fit) q.object (store_at stores place)) graph.bindings) (Some q))) its.shut
          ∙ ap (λ bindings. changes (all_shown (store_at stores place) bindings)
          (all_shown (changed (with_value q.number fit) q.object (store_at stores place)) bindings) (Some q)) its.none))

-- the store alone is another one
module _ (stores after : StoreTable) (bindings : Graphs) (place : ℕ) (store : Store) (test : Binding → Bool)
    (idle : is_idle (graph_at bindings.graphs place) ≡ true) (is : after ≡ with_store stores place store) where
  pub idle_seen : seen_of after bindings ≡ with_bound (seen_of stores bindings) place store
      (record (graph_at (all_closed bindings.graphs) place) { bindings = filter test (graph_at (all_closed bindings.graphs) place).bindings })
  idle_seen = put_seen stores after bindings bindings place store (graph_at bindings.graphs place) _ is (sym (column.with_same no_graph bindings.graphs place))
      (kept_idle bindings place test idle)

pub alone_seen : (stores after : StoreTable) (bindings : Graphs) (place : ℕ) (q : Property) (fit : Value) → is_idle (graph_at bindings.graphs place) ≡ true
    → after ≡ with_store stores place (changed (with_value q.number fit) q.object (store_at stores place))
    → seen_of after bindings ≡ with_written (seen_of stores bindings) place q fit
alone_seen stores after bindings place q fit idle is = idle_seen stores after bindings place
    (changed (with_value q.number fit) q.object (store_at stores place)) (λ binding. not (is_property q binding.at)) idle is

-- an object that goes tells nothing
pub going_alone : (stores after : StoreTable) (bindings : Graphs) (place object : ℕ) → IsPlace stores.table place
    → is_idle (graph_at bindings.graphs place) ≡ true → after ≡ with_store stores place (without object (store_at stores place))
    → told_at place (seen_of stores bindings) (seen_of after bindings) None ≡ []
going_alone stores after bindings place object shelf idle is =
    let graph = graph_at bindings.graphs place in
    let its = idle_is graph idle in
    let store = store_at stores place in
    told_seen stores after bindings bindings place None
    ∙ (ap (λ after. told_of store graph after graph None)
    (ap (λ (shelves : StoreTable). store_at shelves place) is ∙ column.with_there [] stores.table place (without object store) shelf)
    ∙ (ap (λ deep. cond deep [] (changes (all_shown store graph.bindings) (all_shown (without object store) graph.bindings) None)) its.shut
    ∙ (ap (λ bindings. changes (all_shown store bindings) (all_shown (without object store) bindings) None) its.none
    ∙ going_told store object None)))

-- a value that fits is written as it is
pub written_as : (store : Store) (object number : ℕ) (value : Value) → fitting store object number value ≡ Some value
    → stored.written store object number value ≡ changed (with_value number value) object store
written_as store object number value fits = ap (λ fit. option_map_or (λ fit. changed (with_value number fit) object store) fit store) fits

-- and what the store answers says whether it is another one
pub change_of : (result : Result Bool Code) (store : Store) (object number : ℕ) (value : Value) → fitting store object number value ≡ Some value
    → result_err result ≡ write_refusal store object number value → IfOk result (λ answer. answer ≡ is_change store object number value)
    → result_unwrap_or result false ≡ is_change store object number value
change_of (Ok answer) store object number value fits refused is = is
change_of (Err code) store object number value fits refused is = absurd (by (field_at store object number) fits refused)
  where
    by : (field : Option Field) → option_and_then (λ (field : Field). converted field.kind value) field ≡ Some value
        → Some code ≡ option_and_then (λ (field : Field). cond (is_some (converted field.kind value)) None (Some BadValue)) field → ⊥
    by None e f = absurd (cc)
    by (Some field) e f = let never : Some code ≡ None = f ∙ ap (λ fit. cond (is_some fit) None (Some BadValue)) e in absurd (cc)
