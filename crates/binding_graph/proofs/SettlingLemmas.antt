-- What a settling tells and leaves, where only what marked properties reach is evaluated.
use Rattle.std.proofs.Common.{ℕ, ◌≡◌, ◌∙◌, ◌||◌, true, false, cond, List, Option, None, option_map, refl, sym, ap, ap₂}
use Rattle.std.specs.Prelude.{if◌then◌else◌}
use Rattle.std.specs.Option.{option_map_or}
use Rattle.std.proofs.lemmas.Bool.{both_ways, false_from_ne_true, or_right}
use Rattle.property_store.specs.declared.property.Property.{Property}
use Rattle.property_store.specs.Marks.{Marks, has_marks, is_marked, marks_at}
use Rattle.property_store.specs.Pending.{AreMore, IsDrained, both, only}
use Rattle.property_store.specs.Property.{among}
use Rattle.property_store.specs.Store.{IsSound, Store}
use Rattle.property_store.specs.Table.{StoresView, store_at}
use Rattle.property_store.proofs.ForCallers.{both_marked}
use Rattle.binding_values.specs.declared.eval_result.CacheEntry.{CacheEntry}
use Rattle.binding_values.specs.declared.eval_result.EvalResult.{EvalResult}
use Rattle.binding_values.specs.Binds.{AreBindings}
use Rattle.binding_values.specs.EvalResult.{at_hand, kept_of}
use Rattle.binding_values.specs.Scene.{Cell}
use Rattle.binding_values.specs.Sorted.{IsRising}
use Rattle.binding_values.specs.Stored.{cell_in, scene_of}
use Rattle.binding_values.specs.Right.{IsComplete, IsRightBut, IsWhole}
use Rattle.binding_values.proofs.ForCallers.{complete_is_known}
use Rattle.binding_values.specs.declared.shown.Shown.{Shown}
use Rattle.binding_graph.specs.Cache.{Cache, IsInStep}
use Rattle.binding_graph.specs.Rows.{AreMerged}
use Rattle.binding_values.specs.Graph.{Graph, all_shown, changes, shown_as, shown_at, shown_now}
use Rattle.binding_values.proofs.ForCallers.{found_in_all}
use Rattle.binding_values.proofs.ForCallers.{all_shown_sound}
use Rattle.binding_graph.proofs.StepLemmas.{more_in_step, nothing_marked, same_in_step}
use Rattle.binding_values.proofs.ForCallers.{changes_of_touched, merged_is_all}

-- what was taken from the store is pending

pub drained_in_step : {old new : StoresView} {place : ℕ} {graph : Graph} {cache : Cache} {pending : Marks} → IsDrained place old new
    → AreMore (both (marks_at old.marks place) cache.pending) pending → IsInStep (store_at old.shelves place) (marks_at old.marks place) graph cache
    → IsInStep (store_at new.shelves place) (marks_at new.marks place) graph (record cache { pending = pending })
drained_in_step {old} {new} {place} {graph} {cache} {pending} drained are_more step =
    same_in_step (ap (λ shelves. store_at shelves place) drained.shelves) refl
    (more_in_step step (λ q on. both_marked (marks_at new.marks place) pending q ∙ or_right (is_marked (marks_at new.marks place) q) _ (are_more q on)))

module _ {store : Store} {marks : Marks} {graph : Graph} {cache : Cache} (none : has_marks marks ≡ false) (some : cache.pending.all ≡ false)
    (step : IsInStep store marks graph cache) where
  same_marks : (q : Property) → is_marked (both marks cache.pending) q ≡ among q cache.pending.each
  same_marks q = both_marked marks cache.pending q ∙ ap₂ (λ s t. s || (t || among q cache.pending.each)) (nothing_marked marks none q) some

  -- what is kept is right, but for what a touched property reaches
  pub touched_right : IsRightBut (scene_of store graph.bindings) (only cache.pending.each) (kept_of cache.kept)
  touched_right part within closed clear = step.right part within closed
      (λ q kept is. record { own = same_marks q ∙ (clear q kept is).own; reads = λ k d lt. same_marks _ ∙ (clear q kept is).reads k d lt })

  pub touched_whole : IsWhole (scene_of store graph.bindings) (only cache.pending.each) (kept_of cache.kept)
  touched_whole q off = step.whole q (same_marks q ∙ off)

  module _ (sound : IsSound store) (are : AreBindings graph.bindings) (kept : List CacheEntry) (touched : List Property)
      (complete : IsComplete (scene_of store graph.bindings) (kept_of kept))
      (same : (q : Property) → among q touched ≡ false → kept_of kept q ≡ kept_of cache.kept q)
      (more : (q : Property) → among q cache.pending.each ≡ true → among q touched ≡ true)
      (now : List Shown) (found : (q : Property) → shown_at now q ≡ (if among q touched then shown_now store graph.bindings q else None)) where
    all_rising : IsRising (λ (shown : Shown). shown.at) (all_shown store graph.bindings)
    all_rising = (all_shown_sound store sound graph.bindings are).rising

    found_so : (q : Property) → shown_at now q ≡ (if among q touched then shown_at (all_shown store graph.bindings) q else None)
    found_so q = found q ∙ ap (λ shown. cond (among q touched) shown None) (sym (found_in_all store graph.bindings q))

    -- what is not touched shows what it showed
    stayed : (q : Property) → among q touched ≡ false → shown_at graph.last q ≡ shown_at (all_shown store graph.bindings) q
    stayed q off =
        step.last q (same_marks q ∙ false_from_ne_true (among q cache.pending.each) (λ on. both_ways (among q touched) off (more q on)))
        ∙ (ap by_kept (sym (same q off))
        ∙ (ap (λ outcome. option_map (λ (cell : Cell). shown_as q cell.kind outcome) (cell_in store q))
        (complete_is_known (scene_of store graph.bindings) (kept_of kept) complete q)
        ∙ sym (found_in_all store graph.bindings q)))
      where
        by_kept : Option EvalResult → Option Shown
        by_kept kept = option_map (λ (cell : Cell). shown_as q cell.kind
            (option_map_or (λ (kept : EvalResult). kept.outcome) kept (at_hand (scene_of store graph.bindings) q))) (cell_in store q)

    pub told_so : (written : Option Property) → IsRising (λ (shown : Shown). shown.at) now
        → changes graph.last (all_shown store graph.bindings) written ≡ changes graph.last now written
    told_so written rising = changes_of_touched graph.last now (all_shown store graph.bindings) touched written rising all_rising found_so stayed

    pub merged_so : (new : List Shown) → IsRising (λ (shown : Shown). shown.at) new → AreMerged touched now graph.last new
        → new ≡ all_shown store graph.bindings
    merged_so new rising merged = merged_is_all graph.last now new (all_shown store graph.bindings) touched rising all_rising merged found_so stayed
