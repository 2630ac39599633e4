-- One property that alone has another value.
use Rattle.std.proofs.Common.{◌≡◌, ◌∙◌, ◌||◌, Bool, true, false, cond, not, List, [], ◌∷◌, Option, Some, None, Ok, refl, sym, ap, ap₂, subst, arith}
use Rattle.std.specs.Prelude.{if◌then◌else◌}
use Rattle.std.specs.List.{cons_option}
use Rattle.std.specs.Option.{option_map_or}
use Rattle.signature_core.specs.declared.kind.Kind.{Kind}
use Rattle.variant_value.specs.declared.value.Value.{Value}
use Rattle.variant_value.specs.declared.value.Value.TheVariants.{Invalid}
use Rattle.variant_value.specs.Values.{IsOfKind, is_same}
use Rattle.property_store.specs.declared.property.Property.{Property}
use Rattle.property_store.specs.Property.{among, is_property}
use Rattle.property_store.specs.Marks.{Marks, has_marks}
use Rattle.property_store.specs.Pending.{only}
use Rattle.property_store.specs.Store.{IsSound, Store}
use Rattle.binding_values.specs.declared.binding.Binding.{Binding}
use Rattle.binding_values.specs.declared.eval_result.EvalResult.{EvalResult}
use Rattle.binding_values.specs.Binds.{AreBindings}
use Rattle.binding_values.specs.EvalResult.{kept_of}
use Rattle.binding_values.specs.Right.{IsApart, IsComplete, IsRightBut, IsWhole}
use Rattle.binding_values.specs.Scene.{Cell}
use Rattle.binding_values.specs.Sorted.{IsRising}
use Rattle.binding_values.specs.Stored.{cell_in, scene_of}
use Rattle.binding_values.proofs.ForCallers.{is_itself, property_eq}
use Rattle.binding_values.specs.declared.change.Change.{Change}
use Rattle.binding_values.specs.declared.change.ChangeKind.TheVariants as message
use Rattle.binding_values.specs.declared.shown.Shown.{Shown}
use Rattle.binding_graph.specs.Cache.{Cache, IsInStep}
use Rattle.binding_values.specs.Graph.{AreShown, Graph, all_shown, before, change_alone, changes, shown_as, shown_at, shown_now, stored_value}
use Rattle.binding_graph.specs.Rows.{AreMerged, IsPut}
use Rattle.binding_graph.specs.WriteChanges.{alone, changes_in}
use Rattle.binding_values.proofs.ForCallers.{shown_now_fits}
use Rattle.binding_graph.proofs.KnownLemmas.{shown_so}
use Rattle.binding_graph.proofs.SettlingLemmas.{merged_so, told_so, touched_right, touched_whole}

-- it alone is told, where its value is another one
pub told_alone : (last : List Shown) (at : Property) (kind : Kind) (value : Value)
    → changes last (shown_as at kind (Ok value) ∷ []) (Some at)
    ≡ change_alone at value (not (is_same (before last (shown_as at kind (Ok value))).value value))
told_alone last at kind value = rw (is_itself at) (by (is_same (before last (shown_as at kind (Ok value))).value value))
  where
    by : (same : Bool) → cons_option (cond same None (Some (let change : Change = record { at = at; told = message.Value value } in change))) []
        ≡ change_alone at value (not same)
    by true = refl
    by false = refl

-- what is told then is the changes of the write
pub alone_changes : (at : Property) (value : Value) (is_change : Bool) → changes_in at value (alone is_change) ≡ change_alone at value is_change
alone_changes at value true = refl
alone_changes at value false = refl

pub one_rising : (row : Shown) → IsRising (λ (shown : Shown). shown.at) (row ∷ [])
one_rising row i j d lt within = absurd (omega (arith, lt, within))

-- and it is found
pub found_alone : (store : Store) (bindings : List Binding) (row : Shown) → Some row ≡ shown_now store bindings row.at → (q : Property)
    → shown_at (row ∷ []) q ≡ (if among q (row.at ∷ []) then shown_now store bindings q else None)
found_alone store bindings row is q = by (is_property q row.at) refl
  where
    by : (t : Bool) → is_property q row.at ≡ t → cond t (Some row) None ≡ cond (t || false) (shown_now store bindings q) None
    by true e = is ∙ ap (shown_now store bindings) (sym (property_eq q row.at e))
    by false e = refl

-- it stands in place of what it showed
pub merged_alone : (row : Shown) (last new : List Shown) → IsPut row last new → AreMerged (row.at ∷ []) (row ∷ []) last new
merged_alone row last new put q = put q ∙ by (is_property q row.at)
  where
    by : (t : Bool) → cond t (Some row) (shown_at last q) ≡ option_map_or Some (cond t (Some row) None) (cond (t || false) None (shown_at last q))
    by true = refl
    by false = refl

-- where a property alone is marked, and nothing is to be evaluated for it
module _ {store : Store} {marks : Marks} {graph : Graph} {cache : Cache} {at : Property} (none : has_marks marks ≡ false)
    (one : cache.pending ≡ only (at ∷ [])) (step : IsInStep store marks graph cache)
    (apart : IsApart (scene_of store graph.bindings) (kept_of cache.kept) at) where
  some : cache.pending.all ≡ false
  some = ap (λ (marks : Marks). marks.all) one

  -- all that is bound is kept
  pub complete_alone : IsComplete (scene_of store graph.bindings) (kept_of cache.kept)
  complete_alone = apart.complete
      (subst (λ each. IsRightBut (scene_of store graph.bindings) (only each) (kept_of cache.kept)) (ap (λ (marks : Marks). marks.each) one)
      (touched_right none some step))
      (subst (λ each. IsWhole (scene_of store graph.bindings) (only each) (kept_of cache.kept)) (ap (λ (marks : Marks). marks.each) one)
      (touched_whole none some step))

  more : (q : Property) → among q cache.pending.each ≡ true → among q (at ∷ []) ≡ true
  more q on = subst (λ each. among q each ≡ true) (ap (λ (marks : Marks). marks.each) one) on

  module _ (sound : IsSound store) (are : AreBindings graph.bindings) {kind : Kind} {value stored : Value}
      (there : Some (record { kind = kind; value = stored }) ≡ cell_in store at) (copied : value ≡ stored) {row : Shown}
      (row_is : row ≡ shown_as at kind (Ok value)) where
    shows : Some (shown_as at kind (Ok value)) ≡ shown_now store graph.bindings at
    shows = shown_so store graph.bindings (kept_of cache.kept) complete_alone at (record { kind = kind; value = stored }) there (Ok value)
        (ap Ok copied ∙ sym (ap (λ kept. option_map_or (λ (kept : EvalResult). kept.outcome) kept (Ok stored)) apart.absent))

    found : (q : Property) → shown_at (shown_as at kind (Ok value) ∷ []) q ≡ (if among q (at ∷ []) then shown_now store graph.bindings q else None)
    found = found_alone store graph.bindings (shown_as at kind (Ok value)) shows

    pub fits_alone : IsOfKind row.kind row.value
    fits_alone = subst (λ (row : Shown). IsOfKind row.kind row.value) (sym row_is)
        (shown_now_fits store sound graph.bindings are.limited at (shown_as at kind (Ok value)) (sym shows)).0

    -- what is told
    pub told_so_alone : (is_change : Bool) → is_change ≡ not (is_same (before graph.last row).value row.value)
        → change_alone at (stored_value store at) is_change ≡ changes graph.last (all_shown store graph.bindings) (Some at)
    told_so_alone is_change is =
        ap₂ (λ now changed. change_alone at now changed)
        (ap (λ (cell : Option Cell). option_map_or (λ (cell : Cell). cell.value) cell Invalid) (sym there) ∙ sym copied)
        (is ∙ ap (λ (row : Shown). not (is_same (before graph.last row).value row.value)) row_is)
        ∙ (sym (told_alone graph.last at kind value)
        ∙ sym (told_so none some step sound are cache.kept (at ∷ []) complete_alone (λ q off. refl) more
        (shown_as at kind (Ok value) ∷ []) found (Some at) (one_rising (shown_as at kind (Ok value)))))

    -- and what is shown then
    pub last_alone : (new : List Shown) → AreShown new → IsPut row graph.last new → new ≡ all_shown store graph.bindings
    last_alone new are_shown put =
        merged_so none some step sound are cache.kept (at ∷ []) complete_alone (λ q off. refl) more
        (shown_as at kind (Ok value) ∷ []) found new are_shown.rising
        (merged_alone (shown_as at kind (Ok value)) graph.last new (subst (λ (row : Shown). IsPut row graph.last new) row_is put))
