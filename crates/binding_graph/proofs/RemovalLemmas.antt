-- What is kept of a place where an object goes.
use Rattle.std.proofs.Common.{◌≡◌, ◌∙◌, ◌≤◌, ℕ, true, false, List, [], length, sym, ap, subst}
use Rattle.std.proofs.lemmas.Bool.{both_ways, or_right}
use Rattle.shared_rows.specs.Table.{IsPlace}
use Rattle.shared_rows.proofs.ForCallers.{with_there}
use Rattle.property_store.specs.declared.property.Property.{Property}
use Rattle.property_store.specs.Marks.{Marks, has_marks, is_marked, marks_at}
use Rattle.property_store.specs.Pending.{AreMore, IsDrained, both}
use Rattle.property_store.specs.Store.{Store, without}
use Rattle.property_store.specs.Table.{StoresView, store_at, with_store}
use Rattle.property_store.proofs.ForCallers.{both_marked}
use Rattle.binding_values.specs.declared.eval_result.CacheEntry.{CacheEntry}
use Rattle.binding_values.specs.EvalResult.{kept_of}
use Rattle.binding_values.specs.Stored.{fields_at, scene_of}
use Rattle.binding_values.proofs.ForCallers.{AreAlikeBut, stays_right, stays_whole, kept_objects, removal_is_alike}
use Rattle.binding_graph.specs.Cache.{Cache, IsInStep}
use Rattle.binding_values.specs.Graph.{Graph, without_object}
use Rattle.binding_graph.specs.GraphAndCache.{StaysKept}
use Rattle.binding_graph.proofs.SettlingLemmas.{drained_in_step}
use Rattle.binding_graph.proofs.StepLemmas.{more_in_step, more_of_both, nothing_marked, same_shown}

-- what is kept is as right as before where the properties of the object are marked

module _ (store : Store) (marks : Marks) (graph : Graph) (cache : Cache) (object : ℕ)
    (marked : (number : ℕ) → number ≤ length (fields_at store object) → is_marked cache.pending (record { object = object; number = number }) ≡ true)
    (step : IsInStep store marks graph cache) where
  abbrev all : Marks
  all = both marks cache.pending

  same : AreAlikeBut all (scene_of store graph.bindings) (scene_of (without object store) (kept_objects object graph.bindings))
  same = removal_is_alike store graph.bindings all object
      (λ number within. let q : Property = record { object = object; number = number } in both_marked marks cache.pending q
      ∙ or_right (is_marked marks q) _ (marked number within))

  pub gone_in_step : IsInStep (without object store) marks (without_object object graph) cache
  gone_in_step = record {
    right = stays_right (scene_of store graph.bindings) (scene_of (without object store) (kept_objects object graph.bindings)) all all (kept_of cache.kept)
        (λ q on. on) same step.right;
    whole = stays_whole (scene_of store graph.bindings) (scene_of (without object store) (kept_objects object graph.bindings)) all all (kept_of cache.kept)
        (λ q on. on) same step.whole;
    last = λ q off. step.last q off
        ∙ same_shown store (without object store) graph.bindings (kept_objects object graph.bindings) all (kept_of cache.kept) same q off;
  }

-- the store without the object, by way of one that was drained

module _ (object : ℕ) {place : ℕ} {old drained : StoresView} (dropped new : StoresView) (is_place : IsPlace old.shelves.table place)
    (drains : IsDrained place old drained)
    (drops : dropped.shelves ≡ with_store drained.shelves place (without object (store_at drained.shelves place))) (takes : new.shelves ≡ dropped.shelves) where
  pub removed_shelves : new.shelves ≡ with_store old.shelves place (without object (store_at old.shelves place))
  removed_shelves = takes ∙ (drops ∙ ap (λ shelves. with_store shelves place (without object (store_at shelves place))) drains.shelves)

  pub removed_store : store_at new.shelves place ≡ without object (store_at old.shelves place)
  removed_store = ap (λ shelves. store_at shelves place) removed_shelves
      ∙ with_there [] old.shelves.table place (without object (store_at old.shelves place)) is_place

  -- where nothing was marked any longer, whatever is marked now is more
  pub removed_in_step : {graph : Graph} {cache : Cache} → has_marks (marks_at drained.marks place) ≡ false
      → IsInStep (without object (store_at drained.shelves place)) (marks_at drained.marks place) graph cache
      → IsInStep (store_at new.shelves place) (marks_at new.marks place) graph cache
  removed_in_step {graph} {cache} none step =
      subst (λ store. IsInStep store (marks_at new.marks place) graph cache)
      (ap (λ shelves. without object (store_at shelves place)) drains.shelves ∙ sym removed_store)
      (more_in_step step (more_of_both (marks_at drained.marks place) (marks_at new.marks place) cache.pending
      (λ q on. absurd (both_ways (is_marked (marks_at drained.marks place) q) (nothing_marked (marks_at drained.marks place) none q) on))))

  -- so where a place was drained, and what was kept of the object's properties was let go
  module _ {graph : Graph} {cache : Cache} (kept : List CacheEntry) (before pending : Marks) (none : has_marks (marks_at drained.marks place) ≡ false)
      (marked : (number : ℕ) → number ≤ length (fields_at (store_at drained.shelves place) object)
      → is_marked pending (record { object = object; number = number }) ≡ true)
      (stays : StaysKept before cache.kept pending kept) (more : AreMore (both (marks_at old.marks place) cache.pending) before)
      (step : IsInStep (store_at old.shelves place) (marks_at old.marks place) graph cache) where
    abbrev left : Cache
    left = record { kept = kept; pending = pending; evaluations = cache.evaluations }

    gone : IsInStep (without object (store_at drained.shelves place)) (marks_at drained.marks place) (without_object object graph) left
    gone = gone_in_step (store_at drained.shelves place) (marks_at drained.marks place) graph left object marked
        (stays (store_at drained.shelves place) (marks_at drained.marks place) graph cache.evaluations
        (drained_in_step drains more step))

    pub let_go_in_step : IsInStep (store_at new.shelves place) (marks_at new.marks place) (without_object object graph) left
    let_go_in_step = removed_in_step none gone
