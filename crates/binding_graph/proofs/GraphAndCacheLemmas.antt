-- What is kept of a place, where less is kept, and where a binding is another.
use Rattle.std.proofs.Common.{ℕ, ◌≡◌, ◌∙◌, ◌||◌, Bool, true, false, cond, not, List, [], ◌∷◌, Option, Some, None, filter, find, option_map, refl, sym, ap, inl}
use Rattle.std.proofs.Common.{inr, ◌⊎◌, ⊎_elim}
use Rattle.std.proofs.lemmas.Bool.{both_ways, cases_Bool, or_right}
use Rattle.property_store.specs.declared.property.Property.{Property}
use Rattle.property_store.specs.Marks.{Marks, is_marked}
use Rattle.property_store.specs.Pending.{AreMore, both}
use Rattle.property_store.specs.Property.{is_property}
use Rattle.property_store.specs.Store.{Store}
use Rattle.property_store.proofs.ForCallers.{both_marked}
use Rattle.term_core.specs.Term.{Term}
use Rattle.binding_values.specs.declared.eval_result.CacheEntry.{CacheEntry}
use Rattle.binding_values.specs.declared.eval_result.EvalResult.{EvalResult}
use Rattle.binding_values.specs.Binds.{with_binding}
use Rattle.binding_values.specs.EvalResult.{IsKept, IsUnbound, IsWithin, kept_of}
use Rattle.binding_values.specs.Scene.{Cell}
use Rattle.binding_values.specs.EvalResult.{at_hand}
use Rattle.std.specs.Option.{option_map_or}
use Rattle.binding_values.specs.Stored.{cell_in, scene_of}
use Rattle.binding_values.proofs.ForCallers.{property_eq}
use Rattle.binding_values.proofs.ForCallers.{binding_is_marked, unbinding_is_marked}
use Rattle.binding_values.specs.declared.shown.Shown.{Shown}
use Rattle.binding_graph.specs.Cache.{Cache, IsInStep}
use Rattle.binding_values.specs.Graph.{Graph, bound, shown_as, unbound}
use Rattle.binding_graph.proofs.StepLemmas.{more_in_step, stays_where_marked}

-- what is kept where that of one property was let go

abbrev rest : Property → List CacheEntry → List CacheEntry
rest at rows = filter (λ (row : CacheEntry). not (is_property at row.at)) rows

none_kept : (at : Property) (rows : List CacheEntry) → kept_of (rest at rows) at ≡ None
none_kept at [] = refl
none_kept at (row ∷ rows) = by (is_property at row.at) refl (none_kept at rows)
  where
    by : (same : Bool) → is_property at row.at ≡ same → kept_of (rest at rows) at ≡ None
        → kept_of (cond (not same) (row ∷ rest at rows) (rest at rows)) at ≡ None
    by true e later = later
    by false e later = rw e later

others_kept : (at q : Property) → is_property at q ≡ false → (rows : List CacheEntry) → kept_of (rest at rows) q ≡ kept_of rows q
others_kept at q apart [] = refl
others_kept at q apart (row ∷ rows) = by (is_property at row.at) refl (is_property q row.at) refl (others_kept at q apart rows)
  where
    by : (its : Bool) → is_property at row.at ≡ its → (here : Bool) → is_property q row.at ≡ here → kept_of (rest at rows) q ≡ kept_of rows q
        → kept_of (cond (not its) (row ∷ rest at rows) (rest at rows)) q
        ≡ option_map (λ (row : CacheEntry). row.kept) (cond here (Some row) (find (λ (row : CacheEntry). is_property q row.at) rows))
    by true e true f later = absurd (both_ways (is_property at q) apart (ap (is_property at) (property_eq q row.at f) ∙ e))
    by true e false f later = later
    by false e true f later = rw f refl
    by false e false f later = rw f later

rest_within : (at : Property) (rows : List CacheEntry) → IsWithin (kept_of (rest at rows)) (kept_of rows)
rest_within at rows q kept is = ⊎_elim same other (cases_Bool (is_property at q))
  where
    same : is_property at q ≡ true → kept_of rows q ≡ Some kept
    same e = absurd (let never : None ≡ Some kept = sym (ap (kept_of (rest at rows)) (sym (property_eq at q e)) ∙ none_kept at rows) ∙ is in cc)

    other : is_property at q ≡ false → kept_of rows q ≡ Some kept
    other e = sym (others_kept at q e rows) ∙ is

-- less is kept, but of marked properties alone
pub forgotten_in_step : {store : Store} {marks : Marks} {graph : Graph} {cache : Cache} (at : Property) → is_marked (both marks cache.pending) at ≡ true
    → IsInStep store marks graph cache → IsInStep store marks graph (record cache { kept = rest at cache.kept })
forgotten_in_step {store} {marks} {graph} {cache} at on step = record {
  right = λ part within. step.right part (λ q kept is. rest_within at cache.kept q kept (within q kept is));
  whole = λ q off. by q off (step.whole q off);
  last = λ q off. step.last q off ∙ ap (shows q) (sym (still q off));
}
  where
    apart : (q : Property) → is_marked (both marks cache.pending) q ≡ false → is_property at q ≡ false
    apart q off = ⊎_elim (λ e. absurd (both_ways (is_marked (both marks cache.pending) q) off
        (ap (is_marked (both marks cache.pending)) (sym (property_eq at q e)) ∙ on))) (λ e. e) (cases_Bool (is_property at q))

    still : (q : Property) → is_marked (both marks cache.pending) q ≡ false → kept_of (rest at cache.kept) q ≡ kept_of cache.kept q
    still q off = others_kept at q (apart q off) cache.kept

    by : (q : Property) → is_marked (both marks cache.pending) q ≡ false → IsKept (kept_of cache.kept) q ⊎ IsUnbound (scene_of store graph.bindings) q
        → IsKept (kept_of (rest at cache.kept)) q ⊎ IsUnbound (scene_of store graph.bindings) q
    by q off (inl (kept, is)) = inl (kept, still q off ∙ is)
    by q off (inr unbound) = inr unbound

    shows : Property → Option EvalResult → Option Shown
    shows q kept = option_map (λ (cell : Cell). shown_as q cell.kind
        (option_map_or (λ (kept : EvalResult). kept.outcome) kept (at_hand (scene_of store graph.bindings) q))) (cell_in store q)

-- more is marked, or another group is open

pub at_depth : {store : Store} {marks : Marks} {graph : Graph} {cache : Cache} (depth : ℕ) → IsInStep store marks graph cache
    → IsInStep store marks (record graph { depth = depth }) cache
at_depth depth step = record { right = step.right; whole = step.whole; last = step.last }

more_of_pending : (marks before pending : Marks) → AreMore before pending → AreMore (both marks before) (both marks pending)
more_of_pending marks before pending are_more q on = both_marked marks pending q ∙ by (is_marked marks q) (sym (both_marked marks before q) ∙ on)
  where
    by : (t : Bool) → (t || is_marked before q) ≡ true → (t || is_marked pending q) ≡ true
    by true e = refl
    by false e = are_more q e

pub pending_in_step : {store : Store} {marks : Marks} (pending : Marks) {graph : Graph} {cache : Cache} → AreMore cache.pending pending
    → IsInStep store marks graph cache → IsInStep store marks graph (record cache { pending = pending })
pending_in_step {store} {marks} pending {graph} {cache} are_more step = more_in_step step (more_of_pending marks cache.pending pending are_more)

module _ {store : Store} {marks : Marks} (pending : Marks) {graph : Graph} {cache : Cache} (at : Property) (are_more : AreMore cache.pending pending)
    (marked : is_marked pending at ≡ true) (step : IsInStep store marks graph cache) where
  marked_here : is_marked (both marks pending) at ≡ true
  marked_here = both_marked marks pending at ∙ or_right (is_marked marks at) _ marked

  -- a binding that is made or taken away
  pub bound_in_step : (term : Term) → IsInStep store marks (bound graph at term) (record cache { pending = pending; kept = rest at cache.kept })
  bound_in_step term =
      forgotten_in_step at marked_here
      (stays_where_marked store store marks marks pending graph (with_binding (record { at = at; expr = term }) graph.bindings) cache
      (more_of_pending marks cache.pending pending are_more)
      (binding_is_marked store graph.bindings (both marks pending) (record { at = at; expr = term }) marked_here) step)

  pub unbound_in_step : IsInStep store marks (unbound graph at) (record cache { pending = pending; kept = rest at cache.kept })
  unbound_in_step =
      forgotten_in_step at marked_here
      (stays_where_marked store store marks marks pending graph (unbound graph at).bindings cache (more_of_pending marks cache.pending pending are_more)
      (unbinding_is_marked store graph.bindings (both marks pending) at marked_here) step)
