-- What a settling tells is of the kinds of the properties.
use Rattle.std.proofs.Common.{◌≡◌, ◌∙◌, Bool, true, false, cond, List, [], Option, Some, None, Ok, Err, All, IfSome, filter, filter_map, get_or, option_map}
use Rattle.std.proofs.Common.{refl, sym, ap, subst}
use Rattle.std.specs.Prelude.{if◌then◌else◌, option_and_then}
use Rattle.std.specs.Option.{option_map_or}
use Rattle.std.proofs.lemmas.List.Elements.{All-append, All-filter, All-nil}
use Rattle.variant_value.specs.Values.{IsOfKind, is_same}
use Rattle.property_store.specs.Store.{Store}
use Rattle.property_store.specs.Store as store
use Rattle.binding_values.specs.declared.change.Change.{Change}
use Rattle.binding_values.specs.declared.change.ChangeKind.TheVariants as message
use Rattle.binding_values.specs.declared.property.BindingError.{BindingError}
use Rattle.property_store.specs.declared.property.Property.{Property}
use Rattle.binding_values.specs.declared.shown.Shown.{Shown}
use Rattle.binding_values.specs.Fitting.{IsFitting}
use Rattle.binding_values.specs.Graph.{Graph, all_shown, before, changes, has_turn, in_turn, is_open, is_same_error, notice, settled_changes, settled_graph}
use Rattle.binding_values.specs.Graph.{shown_as, shown_now, warning}
use Rattle.binding_values.specs.Graph as graph
use Rattle.binding_values.specs.Scene.{Cell, Outcome}
use Rattle.binding_values.specs.Stored.{cell_in, outcome_in, properties_in}
use Rattle.binding_values.proofs.FitLemmas.{shown_now_fits}
use Rattle.binding_values.proofs.MapLemmas.{all_given}
use Rattle.binding_values.proofs.ShownLemmas.{all_shown_sound}

-- what a property shows is of the kind that it has
record IsShownThere (s : Store) (shown : Shown) : Type 0 where
  fits : IsOfKind shown.kind shown.value
  kind : IfSome (cell_in s shown.at) (λ cell. cell.kind ≡ shown.kind)

module _ (s : Store) (sound : store.IsSound s) (g : Graph) (are : graph.IsSound g) where
  there : (q : Property) (shown : Shown) → shown_now s g.bindings q ≡ Some shown → IsShownThere s shown
  there q shown is = record {
    fits = fits.0;
    kind = subst (λ (p : Property). IfSome (cell_in s p) (λ (cell : Cell). cell.kind ≡ shown.kind)) (sym fits.1)
        (by (cell_in s q) is);
  }
    where
      fits : IsOfKind shown.kind shown.value × (shown.at ≡ q)
      fits = shown_now_fits s sound g.bindings are.bindings.limited q shown is

      kept : (kind : _) (o : Outcome) → (shown_as q kind o).kind ≡ kind
      kept kind (Ok value) = refl
      kept kind (Err error) = refl

      by : (c : Option Cell) → option_map (λ cell. shown_as q cell.kind (outcome_in s g.bindings q)) c ≡ Some shown → IfSome c (λ cell. cell.kind ≡ shown.kind)
      by None e = tt
      by (Some cell) e = let same : shown_as q cell.kind (outcome_in s g.bindings q) ≡ shown = cc in sym (kept cell.kind (outcome_in s g.bindings q))
          ∙ ap (λ (x : Shown). x.kind) same

  all_there : All (IsShownThere s) (all_shown s g.bindings)
  all_there = all_given (shown_now s g.bindings) (IsShownThere s) (properties_in s) (λ k d lt shown e. there (get_or (properties_in s) k d) shown e)

  turns_there : (written : Option Property) → All (IsShownThere s) (in_turn written (all_shown s g.bindings))
  turns_there written = All-append (IsShownThere s) (filter (has_turn written true) (all_shown s g.bindings))
      (filter (has_turn written false) (all_shown s g.bindings)) (All-filter (has_turn written true) (IsShownThere s) (all_shown s g.bindings) all_there)
      (All-filter (has_turn written false) (IsShownThere s) (all_shown s g.bindings) all_there)

  abbrev Fits : Change → Type 0
  Fits change = IsFitting s change.at change.told

  warns : (last : List Shown) (shown : Shown) (change : Change) → warning last shown ≡ Some change → Fits change
  warns last shown change is = by shown.error is
    where
      at : (error : BindingError) (t : Bool) → cond t None (Some (let c : Change = record { at = shown.at; told = message.Error error } in c)) ≡ Some change
          → Fits change
      at error true e = absurd (cc)
      at error false e = let same : (let c : Change = record { at = shown.at; told = message.Error error } in c) ≡ change = cc in subst Fits same tt

      by : (o : Option BindingError) → option_and_then
          (λ error. if option_map_or (is_same_error error) (before last shown).error false then None
          else Some (let c : Change = record { at = shown.at; told = message.Error error } in c)) o ≡ Some change → Fits change
      by None e = absurd (cc)
      by (Some error) e = at error (option_map_or (is_same_error error) (before last shown).error false) e

  notices : (last : List Shown) (shown : Shown) → IsShownThere s shown → (change : Change) → notice last shown ≡ Some change → Fits change
  notices last shown it change is = by (is_same (before last shown).value shown.value) is
    where
      fits : (c : Option Cell) → IfSome c (λ (cell : Cell). cell.kind ≡ shown.kind) → IfSome c (λ (cell : Cell). IsOfKind cell.kind shown.value)
      fits None e = tt
      fits (Some cell) e = subst (λ k. IsOfKind k shown.value) (sym e) it.fits

      by : (t : Bool) → cond t None (Some (let c : Change = record { at = shown.at; told = message.Value shown.value } in c)) ≡ Some change → Fits change
      by true e = absurd (cc)
      by false e = let same : (let c : Change = record { at = shown.at; told = message.Value shown.value } in c) ≡ change = cc in subst Fits same
          (fits (cell_in s shown.at) it.kind)

  told_fit : (written : Option Property) → All Fits (changes g.last (all_shown s g.bindings) written)
  told_fit written =
      All-append Fits (filter_map (warning g.last) (in_turn written (all_shown s g.bindings)))
      (filter_map (notice g.last) (in_turn written (all_shown s g.bindings)))
      (all_given (warning g.last) Fits (in_turn written (all_shown s g.bindings))
      (λ k d lt change e. warns g.last (get_or (in_turn written (all_shown s g.bindings)) k d) change e))
      (all_given (notice g.last) Fits (in_turn written (all_shown s g.bindings))
      (λ k d lt change e. notices g.last (get_or (in_turn written (all_shown s g.bindings)) k d) (turns_there written k d lt) change e))

  pub changes_fit_at : (written : Option Property) → All Fits (settled_changes s g written)
  changes_fit_at written = by (is_open g)
    where
      by : (t : Bool) → All Fits (cond t [] (changes g.last (all_shown s g.bindings) written))
      by true = All-nil Fits
      by false = told_fit written

  pub settling_sound_at : graph.IsSound (settled_graph s g)
  settling_sound_at = by (is_open g)
    where
      by : (t : Bool) → graph.IsSound (cond t g (record g { last = all_shown s g.bindings }))
      by true = are
      by false = record { bindings = are.bindings; last = all_shown_sound s sound g.bindings are.bindings; shallow = are.shallow }

pub changes_fit : (s : Store) (g : Graph) → store.IsSound s → graph.IsSound g → (written : Option Property)
    → All (λ change. IsFitting s change.at change.told) (settled_changes s g written)
changes_fit s g sound are written = changes_fit_at s sound g are written

pub settling_sound : (s : Store) (g : Graph) → store.IsSound s → graph.IsSound g → graph.IsSound (settled_graph s g)
settling_sound s g sound are = settling_sound_at s sound g are
