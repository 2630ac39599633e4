-- What is kept of bindings stays in step with every change of a store.
use Rattle.std.proofs.Common.{◌≡◌, ◌≢◌, ◌∙◌, ◌==◌, ◌||◌, ℕ, suc, Bool, true, false, cond, not, List, [], ◌∷◌, Option, Some, None, Ok, Err}
use Rattle.std.proofs.Common.{is_some, length, nat_lt, option_map, slice_index_or, refl, sym, ap, ap₂, subst, ⊎_elim, arith}
use Rattle.std.specs.Option.{option_map_or}
use Rattle.std.proofs.lemmas.Bool.{both_ways, cases_Bool, eq-eqb, eqb-true, false_from_ne_true, ltb-false, or_cases, or_from, or_left, or_parts, or_right}
use Rattle.std.proofs.lemmas.List.{get_or-set_other}
use Rattle.shared_rows.specs.Table.{IsPlace}
use Rattle.shared_rows.proofs.ForCallers.{default_pushed, with_there}
use Rattle.signature_core.specs.declared.kind.Kind.{Kind}
use Rattle.term_core.specs.Term.{Term}
use Rattle.property_store.specs.declared.property.Property.{Property}
use Rattle.property_store.specs.Marks.{AreMarked, HasMarks, Marks, all_marks, has_marks, is_marked, is_written, is_written_named, marks_at, no_marks}
use Rattle.property_store.specs.Pending.{AreMore, both}
use Rattle.property_store.specs.Named.{declared_at, written_named}
use Rattle.property_store.specs.Property.{among}
use Rattle.property_store.specs.Store.{Properties, Store, properties_of, without, written}
use Rattle.property_store.specs.Table.{StoresView, fields_of, store_at}
use Rattle.property_store.proofs.ForCallers.{both_marked, filter_all, none_passes}
use Rattle.binding_values.specs.declared.binding.Binding.{Binding}
use Rattle.binding_values.specs.declared.eval_result.EvalResult.{EvalResult}
use Rattle.binding_values.specs.declared.property.BindingError.TheVariants.{BindingLoop, EvaluationError}
use Rattle.binding_values.specs.EvalResult.{Keeping, kept_of}
use Rattle.binding_values.specs.Scene.{Cell, Outcome, Scene}
use Rattle.binding_values.specs.Stored.{cell_in, scene_of}
use Rattle.binding_values.specs.Right.{DiffersAt, IsComplete}
use Rattle.binding_values.proofs.ForCallers.{complete_is_known, complete_is_right, unmarked_is_complete, AreAlikeBut, alike, stays_right, stays_whole}
use Rattle.binding_values.proofs.ForCallers.{addition_is_marked, all_may_change, dynamic_is_nothing, no_dynamic_is_nothing, write_is_marked}
use Rattle.binding_values.specs.declared.shown.Shown.{Shown}
use Rattle.binding_graph.specs.Cache.{Cache, IsInStep, cache_at, shown_by}
use Rattle.binding_values.specs.Graph.{Graph, all_shown, shown_as, shown_at, shown_now}
use Rattle.binding_graph.specs.Step.{AdditionStaysInStep, ClearingStaysInStep, DynamicStaysInStep, HasStore, InStep, NamedWriteStaysInStep}
use Rattle.binding_graph.specs.Step.{NoDynamicStaysInStep, OpeningStaysInStep, RemovalStaysInStep, RoomStaysInStep, StaysInStep, WriteStaysInStep}
use Rattle.binding_graph.specs.Table.{graph_at}
use Rattle.binding_values.proofs.ForCallers.{found_in_all}

-- where more is marked, more is marked with what is pending

pub more_of_both : (marks more pending : Marks) → AreMore marks more → AreMore (both marks pending) (both more pending)
more_of_both marks more pending are_more q on =
    both_marked more pending q
    ∙ ⊎_elim (λ one. or_left (is_marked more q) _ (are_more q one)) (λ other. or_right (is_marked more q) _ other)
    (or_cases (is_marked marks q) (is_marked pending q) (sym (both_marked marks pending q) ∙ on))

-- in scenes that differ at marked properties alone, what is not marked shows the same by what is kept

pub same_shown : (store other : Store) (bindings after : List Binding) (marks : Marks) (keeping : Keeping)
    → AreAlikeBut marks (scene_of store bindings) (scene_of other after) → (q : Property) → is_marked marks q ≡ false
    → shown_by store bindings keeping q ≡ shown_by other after keeping q
same_shown store other bindings after marks keeping differs q off = ap₂ shows (differs.cells q off) (differs.terms q off)
  where
    shows : Option Cell → Option Term → Option Shown
    shows cell term =
        let stands : Outcome = option_map_or (λ (term : Term). Err BindingLoop) term
        (option_map_or (λ (cell : Cell). Ok cell.value) cell (Err EvaluationError)) in
        option_map (λ (cell : Cell). shown_as q cell.kind (option_map_or (λ (kept : EvalResult). kept.outcome) (keeping q) stands)) cell

-- what is in step stays so where what changes is marked, of the store or of the bindings

pub stays_where_marked : (store other : Store) (marks more pending : Marks) (graph : Graph) (after : List Binding) (cache : Cache)
    → AreMore (both marks cache.pending) (both more pending)
    → DiffersAt (both more pending) (scene_of store graph.bindings) (scene_of other after) → IsInStep store marks graph cache
    → IsInStep other more (record graph { bindings = after }) (record cache { pending = pending })
stays_where_marked store other marks more pending graph after cache are_more differs step = record {
  right = stays_right (scene_of store graph.bindings) (scene_of other after) (both marks cache.pending) (both more pending)
      (kept_of cache.kept) are_more same step.right;
  whole = stays_whole (scene_of store graph.bindings) (scene_of other after) (both marks cache.pending) (both more pending)
      (kept_of cache.kept) are_more same step.whole;
  last = λ q off. step.last q (was_clear q off) ∙ same_shown store other graph.bindings after (both more pending) (kept_of cache.kept) same q off;
}
  where
    same : AreAlikeBut (both more pending) (scene_of store graph.bindings) (scene_of other after)
    same = alike (both more pending) (scene_of store graph.bindings) (scene_of other after) differs

    was_clear : (q : Property) → is_marked (both more pending) q ≡ false → is_marked (both marks cache.pending) q ≡ false
    was_clear q off = false_from_ne_true (is_marked (both marks cache.pending) q) (λ on. both_ways (is_marked (both more pending) q) off (are_more q on))

pub stays_in_step : {store other : Store} {marks more : Marks} {graph : Graph} {cache : Cache} → AreMore marks more
    → DiffersAt (both more cache.pending) (scene_of store graph.bindings) (scene_of other graph.bindings) → IsInStep store marks graph cache
    → IsInStep other more graph cache
stays_in_step {store} {other} {marks} {more} {graph} {cache} are_more differs =
    stays_where_marked store other marks more cache.pending graph graph.bindings cache (more_of_both marks more cache.pending are_more) differs

-- more marks do no harm

same_scene : (marks : Marks) (scene : Scene) → DiffersAt marks scene scene
same_scene marks scene = record {
  cells = λ q off. refl;
  terms = λ q off. refl;
  names = λ object target name q e off. e;
  nameless = λ object target name e. e;
  there = λ some q e. e;
}

pub more_in_step : {store : Store} {marks more pending : Marks} {graph : Graph} {cache : Cache} → IsInStep store marks graph cache
    → AreMore (both marks cache.pending) (both more pending) → IsInStep store more graph (record cache { pending = pending })
more_in_step {store} {marks} {more} {pending} {graph} {cache} step are_more =
    stays_where_marked store store marks more pending graph graph.bindings cache are_more (same_scene (both more pending) (scene_of store graph.bindings)) step

-- where all that is bound is kept, and what properties showed is what they show

pub complete_in_step : {store : Store} {graph : Graph} {cache : Cache} → IsComplete (scene_of store graph.bindings) (kept_of cache.kept)
    → graph.last ≡ all_shown store graph.bindings → {marks : Marks} → IsInStep store marks graph cache
complete_in_step {store} {graph} {cache} complete last {marks} = record {
  right = complete_is_right (scene_of store graph.bindings) (both marks cache.pending) (kept_of cache.kept) complete;
  whole = λ q off. complete.whole q;
  last = λ q off. found q ∙ ap (λ outcome. option_map (λ (cell : Cell). shown_as q cell.kind outcome) (cell_in store q))
      (sym (complete_is_known (scene_of store graph.bindings) (kept_of cache.kept) complete q));
}
  where
    found : (q : Property) → shown_at graph.last q ≡ shown_now store graph.bindings q
    found q = ap (λ last. shown_at last q) last ∙ found_in_all store graph.bindings q

-- and the other way round where nothing is marked

pub nothing_marked : (marks : Marks) → has_marks marks ≡ false → (q : Property) → is_marked marks q ≡ false
nothing_marked marks none q = let parts = or_parts marks.all _ none in or_from marks.all (among q marks.each) parts.0 (by marks.each parts.1)
  where
    by : (each : List Property) → nat_lt 0 (length each) ≡ false → among q each ≡ false
    by [] e = refl
    by (p ∷ each) e = absurd (omega (arith, ltb-false 0 (suc (length each)) e))

pub clean_is_complete : {store : Store} {marks : Marks} {graph : Graph} {cache : Cache} → IsInStep store marks graph cache → has_marks marks ≡ false
    → has_marks cache.pending ≡ false → IsComplete (scene_of store graph.bindings) (kept_of cache.kept)
clean_is_complete {store} {marks} {graph} {cache} step none idle =
    unmarked_is_complete (scene_of store graph.bindings) (both marks cache.pending) (kept_of cache.kept)
    (λ q on. absurd (both_ways (is_marked (both marks cache.pending) q)
    (both_marked marks cache.pending q ∙ or_from _ _ (nothing_marked marks none q) (nothing_marked cache.pending idle q)) on))
    step.right step.whole

-- where nothing is kept, and all is marked

pub all_in_step : (store : Store) (marks : Marks) (graph : Graph) (cache : Cache) → cache.kept ≡ [] → cache.pending.all ≡ true
    → IsInStep store marks graph cache
all_in_step store marks graph cache empty on = record {
  right = λ part within closed clear q kept is. absurd (nothing q kept (within q kept is));
  whole = λ q off. absurd (never q off);
  last = λ q off. absurd (never q off);
}
  where
    nothing : (q : Property) (kept : EvalResult) → kept_of cache.kept q ≡ Some kept → ⊥
    nothing q kept is = let none : None ≡ Some kept = ap (λ rows. kept_of rows q) (sym empty) ∙ is in cc

    never : (q : Property) → is_marked (both marks cache.pending) q ≡ false → ⊥
    never q off = both_ways (is_marked (both marks cache.pending) q) off (or_left (marks.all || cache.pending.all) _ (or_right marks.all _ on))

-- the same store and marks

pub same_in_step : {store other : Store} {marks more : Marks} {graph : Graph} {cache : Cache} → other ≡ store → more ≡ marks
    → IsInStep store marks graph cache → IsInStep other more graph cache
same_in_step {store} {other} {marks} {more} {graph} {cache} e f step = subst (λ other. IsInStep other more graph cache) (sym e)
    (subst (λ more. IsInStep store more graph cache) (sym f) step)

-- another store at one place

module _ (old new : StoresView) (place : ℕ) (store : Store) (is_place : IsPlace old.shelves.table place) (has : HasStore place store old new) where
  stands_there : store_at new.shelves place ≡ store
  stands_there = ap (λ shelves. store_at shelves place) has ∙ with_there [] old.shelves.table place store is_place

  pub stands_elsewhere : (other : ℕ) → other ≢ place → store_at new.shelves other ≡ store_at old.shelves other
  stands_elsewhere other apart = ap (λ shelves. store_at shelves other) has ∙ get_or-set_other old.shelves.table.places place other store [] apart

  -- is in step there, and the marks of the other places are as before
  pub changed_there : ((other : ℕ) → other ≢ place → marks_at new.marks other ≡ marks_at old.marks other)
      → ((graph : Graph) (cache : Cache) → IsInStep (store_at old.shelves place) (marks_at old.marks place) graph cache
      → IsInStep store (marks_at new.marks place) graph cache) → StaysInStep old new
  unfolding InStep
  changed_there others here bindings step other = ⊎_elim own elsewhere (cases_Bool (other == place))
    where
      elsewhere : (other == place) ≡ false → IsInStep (store_at new.shelves other) (marks_at new.marks other) (graph_at bindings.graphs other)
          (cache_at bindings.caches other)
      elsewhere apart =
          let not_there : other ≢ place = λ e. both_ways (other == place) apart (eq-eqb other place e) in
          same_in_step (stands_elsewhere other not_there) (others other not_there) (step other)

      own : (other == place) ≡ true → IsInStep (store_at new.shelves other) (marks_at new.marks other) (graph_at bindings.graphs other)
          (cache_at bindings.caches other)
      own same =
          subst (λ other. IsInStep (store_at new.shelves other) (marks_at new.marks other) (graph_at bindings.graphs other) (cache_at bindings.caches other))
          (sym (eqb-true other place same))
          (same_in_step stands_there refl (here (graph_at bindings.graphs place) (cache_at bindings.caches place) (step place)))

  -- what changes is marked besides what was
  pub marked_there : (these : Property → Bool) → AreMarked place these old.marks new.marks
      → ((bindings : List Binding) (marks : Marks) → ((q : Property) → these q ≡ true → is_marked marks q ≡ true)
      → DiffersAt marks (scene_of (store_at old.shelves place) bindings) (scene_of store bindings)) → StaysInStep old new
  marked_there these marked differs = changed_there marked.others
      (λ graph cache. stays_in_step
      (λ q on. marked.here q ∙ or_right (these q) _ on)
      (differs graph.bindings (both (marks_at new.marks place) cache.pending)
      (λ q on. both_marked (marks_at new.marks place) cache.pending q
      ∙ or_left (is_marked (marks_at new.marks place) q) _ (marked.here q ∙ or_left (these q) _ on))))

  -- all is marked
  pub all_marked_there : HasMarks place all_marks old.marks new.marks → StaysInStep old new
  all_marked_there marked = changed_there marked.others
      (λ graph cache. stays_in_step
      (λ q on. or_left (marks_at new.marks place).all _ all)
      (all_may_change (store_at old.shelves place) store graph.bindings graph.bindings (both (marks_at new.marks place) cache.pending)
      (or_left (marks_at new.marks place).all _ all)))
    where
      all : (marks_at new.marks place).all ≡ true
      all = ap (λ (marks : Marks). marks.all) marked.here

  -- nothing changes for bindings, and nothing is marked
  pub unmarked_there : ((other : ℕ) → marks_at new.marks other ≡ marks_at old.marks other)
      → ((bindings : List Binding) (marks : Marks) → DiffersAt marks (scene_of (store_at old.shelves place) bindings) (scene_of store bindings))
      → StaysInStep old new
  unmarked_there same differs = changed_there (λ other apart. same other)
      (λ graph cache. stays_in_step
      (λ q on. ap (λ marks. is_marked marks q) (same place) ∙ on) (differs graph.bindings (both (marks_at new.marks place) cache.pending)))

-- each change of a store

pub write_in_step : WriteStaysInStep
write_in_step old new place object number value is_place has marked =
    marked_there old new place (written (store_at old.shelves place) object number value) is_place has
    (is_written (store_at old.shelves place) object number value) marked
    (λ bindings marks. write_is_marked (store_at old.shelves place) bindings marks object number value)

pub named_write_in_step : NamedWriteStaysInStep
named_write_in_step old new place object name value is_place has marked =
    marked_there old new place (written_named (store_at old.shelves place) object name value) is_place has
    (is_written_named (store_at old.shelves place) object name value) marked (by (declared_at (store_at old.shelves place) object name))
  where
    by : (found : Option (ℕ × Kind)) (bindings : List Binding) (marks : Marks)
        → ((q : Property) → option_map_or (λ (at : ℕ × Kind). is_written (store_at old.shelves place) object at.0 value q) found false ≡ true
        → is_marked marks q ≡ true)
        → DiffersAt marks (scene_of (store_at old.shelves place) bindings)
        (scene_of (option_map_or (λ (at : ℕ × Kind). written (store_at old.shelves place) object at.0 value) found (store_at old.shelves place)) bindings)
    by None bindings marks on = same_scene marks (scene_of (store_at old.shelves place) bindings)
    by (Some at) bindings marks on = write_is_marked (store_at old.shelves place) bindings marks object at.0 value on

pub addition_in_step : AdditionStaysInStep
addition_in_step old new place object class absent is_place has marked =
    marked_there old new place _ is_place has _ marked
    (λ bindings marks on. addition_is_marked (store_at old.shelves place) bindings marks object (fields_of old.shelves class) absent on)

pub dynamic_in_step : DynamicStaysInStep
dynamic_in_step old new place object name value is_place has same =
    unmarked_there old new place _ is_place has (λ other. ap (λ marks. marks_at marks other) same)
    (λ bindings marks. dynamic_is_nothing (store_at old.shelves place) bindings marks object name value)

pub no_dynamic_in_step : NoDynamicStaysInStep
no_dynamic_in_step old new place object name is_place has same =
    unmarked_there old new place _ is_place has (λ other. ap (λ marks. marks_at marks other) same)
    (λ bindings marks. no_dynamic_is_nothing (store_at old.shelves place) bindings marks object name)

-- an object that is not there takes nothing with it
nothing_without : (store : Store) (object : ℕ) → properties_of store object ≡ None → without object store ≡ store
nothing_without store object none = filter_all (λ (of : Properties). not (of.object == object)) store
    (λ k d within. ap not (none_passes (λ (of : Properties). of.object == object) store none k d within))

module _ (old new : StoresView) (place object : ℕ)
    (marked : HasMarks place (cond (is_some (properties_of (store_at old.shelves place) object)) all_marks (marks_at old.marks place)) old.marks
    new.marks) where
  removal_there : (graph : Graph) (cache : Cache) → IsInStep (store_at old.shelves place) (marks_at old.marks place) graph cache
      → IsInStep (without object (store_at old.shelves place)) (marks_at new.marks place) graph cache
  removal_there graph cache step = by (properties_of before object) refl
    where
      before : Store
      before = store_at old.shelves place

      at : (found : Option Properties) → properties_of before object ≡ found
          → marks_at new.marks place ≡ cond (is_some found) all_marks (marks_at old.marks place)
      at found e = marked.here ∙ ap (λ found. cond (is_some found) all_marks (marks_at old.marks place)) e

      by : (found : Option Properties) → properties_of before object ≡ found → IsInStep (without object before) (marks_at new.marks place) graph cache
      by (Some of) e =
          let all : (marks_at new.marks place).all ≡ true = ap (λ (marks : Marks). marks.all) (at (Some of) e) in
          stays_in_step (λ q on. or_left (marks_at new.marks place).all _ all)
          (all_may_change before (without object before) graph.bindings graph.bindings (both (marks_at new.marks place) cache.pending)
          (or_left (marks_at new.marks place).all _ all)) step
      by None e = same_in_step (nothing_without before object e) (at None e) step

pub removal_in_step : RemovalStaysInStep
removal_in_step old new place object is_place has marked = changed_there old new place _ is_place has marked.others (removal_there old new place object marked)

pub clearing_in_step : ClearingStaysInStep
clearing_in_step old new place is_place has marked = all_marked_there old new place [] is_place has marked

-- one more place, or room for one

nowhere_changed : (old new : StoresView) → ((place : ℕ) → store_at new.shelves place ≡ store_at old.shelves place)
    → ((place : ℕ) → marks_at new.marks place ≡ marks_at old.marks place) → StaysInStep old new
unfolding InStep
nowhere_changed old new stores marks bindings step place =
    same_in_step (stores place) (marks place) (step place)

pub opening_in_step : OpeningStaysInStep
opening_in_step old new layouts table marks = nowhere_changed old new
    (λ place. ap (λ table. store_at (record { layouts = old.shelves.layouts; table = table }) place) table ∙ default_pushed [] old.shelves.table.places place)
    (λ place. ap (λ marks. marks_at marks place) marks ∙ default_pushed no_marks old.marks place)

pub room_in_step : RoomStaysInStep
room_in_step old new layouts places marks = nowhere_changed old new (λ place. ap (λ places. slice_index_or places place []) places)
    (λ place. ap (λ marks. marks_at marks place) marks)
