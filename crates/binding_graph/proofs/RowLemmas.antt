-- What properties show, with a row more.
use Rattle.std.proofs.Common.{◌≡◌, ◌∙◌, suc, Bool, true, false, cond, List, ◌∷◌, Option, Some, None, filter, refl, ap, ap₂, arith}
use Rattle.std.specs.Prelude.{if◌then◌else◌}
use Rattle.std.specs.Option.{option_map_or, option_or}
use Rattle.std.proofs.lemmas.Bool.{both_ways}
use Rattle.std.proofs.lemmas.List.Elements.{All-append, All-cons, All-filter}
use Rattle.std.proofs.lemmas.List.Folds.{find-append}
use Rattle.variant_value.specs.Values.{IsOfKind}
use Rattle.property_store.specs.declared.property.Property.{Property}
use Rattle.property_store.specs.Property.{is_property}
use Rattle.binding_values.specs.Sorted.{is_before}
use Rattle.binding_values.proofs.ForCallers.{property_eq, is_behind, is_other, is_property_sym, with_rising}
use Rattle.binding_values.specs.declared.shown.Shown.{Shown}
use Rattle.binding_values.specs.Graph.{AreShown, shown_at}
use Rattle.binding_graph.specs.Rows.{IsPut}
use Rattle.binding_graph.specs.Rows.{with_shown}
use Rattle.binding_values.proofs.ForCallers.{behind_first, found_filter, none_behind, without_first}

module _ (new : Shown) (rows : List Shown) where
  abbrev below : List Shown
  below = filter (λ shown. is_before shown.at new.at) rows

  abbrev above : List Shown
  above = filter (λ shown. is_before new.at shown.at) rows

  -- what is found of a property is the row, or what was found before
  pub found_with : (q : Property) → shown_at (with_shown new rows) q ≡ (if is_property q new.at then Some new else shown_at rows q)
  found_with q =
      find-append (λ (shown : Shown). is_property q shown.at) below (new ∷ above)
      ∙ (ap₂ (λ front back. option_or front (cond (is_property q new.at) (Some new) back)) (found_filter (λ p. is_before p new.at) rows q)
      (found_filter (is_before new.at) rows q)
      ∙ by (is_before q new.at) refl (is_property q new.at) refl (is_before new.at q) refl (shown_at rows q))
    where
      by : (before : Bool) → is_before q new.at ≡ before → (same : Bool) → is_property q new.at ≡ same → (behind : Bool) → is_before new.at q ≡ behind
          → (found : Option Shown)
          → option_or (cond before found None) (cond same (Some new) (cond behind found None)) ≡ cond same (Some new) found
      by true e true f behind g found = absurd (both_ways _ (is_other q new.at e) f)
      by true e false f behind g (Some shown) = refl
      by true e false f true g None = refl
      by true e false f false g None = refl
      by false e true f behind g found = refl
      by false e false f true g found = refl
      by false e false f false g found = absurd (both_ways _ g (is_behind q new.at e (is_property_sym new.at q ∙ f)))

  -- it is in order, and of its kinds
  pub are_shown_with : AreShown rows → IsOfKind new.kind new.value → AreShown (with_shown new rows)
  are_shown_with are fits = record {
    rising = with_rising (λ (shown : Shown). shown.at) new rows are.rising;
    fitting = All-append Fits below (new ∷ above) (All-filter (λ shown. is_before shown.at new.at) Fits rows are.fitting)
        (All-cons Fits new above fits (All-filter (λ shown. is_before new.at shown.at) Fits rows are.fitting));
  }
    where
      Fits : Shown → Type 0
      Fits shown = IsOfKind shown.kind shown.value

-- a row more of those that are put in place of others

pub rest_shown : (row : Shown) (rest : List Shown) → AreShown (row ∷ rest) → AreShown rest
rest_shown row rest are = record {
  rising = without_first row rest are.rising;
  fitting = λ k d lt. are.fitting (suc k) d (omega (arith, lt));
}

pub merged_next : (row : Shown) (rest rows new : List Shown) → AreShown (row ∷ rest) → IsPut row rows new → (q : Property)
    → option_map_or Some (shown_at rest q) (shown_at new q) ≡ option_map_or Some (shown_at (row ∷ rest) q) (shown_at rows q)
merged_next row rest rows new are put q = by (is_property q row.at) refl (put q)
  where
    by : (same : Bool) → is_property q row.at ≡ same → shown_at new q ≡ cond same (Some row) (shown_at rows q)
        → option_map_or Some (shown_at rest q) (shown_at new q) ≡ option_map_or Some (cond same (Some row) (shown_at rest q)) (shown_at rows q)
    by true is found = ap (λ later. option_map_or Some later (shown_at new q))
        (ap (shown_at rest) (property_eq q row.at is) ∙ none_behind row.at rest (behind_first row rest are.rising)) ∙ found
    by false is found = ap (option_map_or Some (shown_at rest q)) found
