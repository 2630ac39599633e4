-- What properties show by what is kept of all that is bound.
use Rattle.std.proofs.Common.{◌≡◌, ◌∙◌, ◌⊎◌, ◌||◌, Bool, true, false, cond, List, Option, Some, None, Ok, option_map, refl, sym, ap, inl, inr}
use Rattle.std.specs.Prelude.{if◌then◌else◌}
use Rattle.std.specs.Option.{option_map_or}
use Rattle.property_store.specs.declared.property.Property.{Property}
use Rattle.property_store.specs.Property.{is_property}
use Rattle.property_store.specs.Store.{Store}
use Rattle.binding_values.specs.declared.binding.Binding.{Binding}
use Rattle.binding_values.specs.declared.eval_result.EvalResult.{EvalResult}
use Rattle.binding_values.specs.EvalResult.{IsKept, IsUnbound, Keeping, at_hand}
use Rattle.binding_values.specs.Scene.{Cell, Outcome}
use Rattle.binding_values.specs.Stored.{cell_in, outcome_in, scene_of}
use Rattle.binding_values.proofs.ForCallers.{property_eq}
use Rattle.binding_values.specs.Right.{IsComplete}
use Rattle.binding_values.proofs.ForCallers.{complete_is_known}
use Rattle.binding_values.specs.declared.shown.Shown.{Shown}
use Rattle.binding_graph.specs.Rows.{IsPut}
use Rattle.binding_values.specs.Graph.{shown_as, shown_at, shown_now}
use Rattle.binding_values.proofs.ForCallers.{shown_of}

-- what is kept, or else what is stored, is the value
pub kept_or_stored : (store : Store) (bindings : List Binding) (keeping : Keeping) → IsComplete (scene_of store bindings) keeping → (q : Property) (cell : Cell)
    → cell_in store q ≡ Some cell → option_map_or (λ (kept : EvalResult). kept.outcome) (keeping q) (Ok cell.value) ≡ outcome_in store bindings q
kept_or_stored store bindings keeping complete q cell is = by (keeping q) refl (complete.whole q)
    ∙ complete_is_known (scene_of store bindings) keeping complete q
  where
    by : (kept : Option EvalResult) → keeping q ≡ kept → IsKept keeping q ⊎ IsUnbound (scene_of store bindings) q
        → option_map_or (λ (kept : EvalResult). kept.outcome) kept (Ok cell.value)
        ≡ option_map_or (λ (kept : EvalResult). kept.outcome) kept (at_hand (scene_of store bindings) q)
    by (Some kept) e whole = refl
    by None e (inl (kept, f)) = absurd (let never : None ≡ Some kept = sym e ∙ f in cc)
    by None e (inr unbound) = rw (unbound, is) refl

pub shown_so : (store : Store) (bindings : List Binding) (keeping : Keeping) → IsComplete (scene_of store bindings) keeping → (q : Property) (cell : Cell)
    → Some cell ≡ cell_in store q → (outcome : Outcome) → outcome ≡ option_map_or (λ (kept : EvalResult). kept.outcome) (keeping q) (Ok cell.value)
    → Some (shown_as q cell.kind outcome) ≡ shown_now store bindings q
shown_so store bindings keeping complete q cell is outcome known =
    ap (λ outcome. Some (shown_as q cell.kind outcome)) (known ∙ kept_or_stored store bindings keeping complete q cell (sym is))
    ∙ ap (option_map (λ (cell : Cell). shown_as q cell.kind (outcome_in store bindings q))) is

-- one touched property more

module _ (store : Store) (bindings : List Binding) (old : List Shown) (before : Property → Bool)
    (found : (q : Property) → shown_at old q ≡ (if before q then shown_now store bindings q else None)) (at : Property) where
  pub touched_put : (new : List Shown) (shown : Shown) → shown_now store bindings at ≡ Some shown → IsPut shown old new → (q : Property)
      → shown_at new q ≡ (if before q || is_property q at then shown_now store bindings q else None)
  touched_put new shown is put q = put q ∙
      (ap (λ p. cond (is_property q p) (Some shown) (shown_at old q)) (shown_of store bindings at shown is) ∙ by (is_property q at) refl (before q) (found q))
    where
      by : (here : Bool) → is_property q at ≡ here → (was : Bool) → shown_at old q ≡ cond was (shown_now store bindings q) None
          → cond here (Some shown) (shown_at old q) ≡ cond (was || here) (shown_now store bindings q) None
      by true e true f = sym is ∙ ap (shown_now store bindings) (sym (property_eq q at e))
      by true e false f = sym is ∙ ap (shown_now store bindings) (sym (property_eq q at e))
      by false e true f = f
      by false e false f = f

  pub touched_gone : shown_now store bindings at ≡ None → (q : Property)
      → shown_at old q ≡ (if before q || is_property q at then shown_now store bindings q else None)
  touched_gone is q = found q ∙ by (is_property q at) refl (before q)
    where
      by : (here : Bool) → is_property q at ≡ here → (was : Bool)
          → cond was (shown_now store bindings q) None ≡ cond (was || here) (shown_now store bindings q) None
      by true e true = refl
      by true e false = sym (ap (shown_now store bindings) (property_eq q at e) ∙ is)
      by false e true = refl
      by false e false = refl
