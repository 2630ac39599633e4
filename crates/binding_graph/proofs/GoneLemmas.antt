-- Touched properties that are not there.
use Rattle.std.proofs.Common.{◌≡◌, ◌∙◌, ◌||◌, ◌&&◌, Bool, true, false, cond, not, List, [], ◌∷◌, ◌++◌, Option, Some, None, refl, ap}
use Rattle.std.specs.Option.{is_some, option_map_or}
use Rattle.std.proofs.lemmas.Bool.{both_ways}
use Rattle.std.proofs.lemmas.List.Folds.{list_any-append}
use Rattle.property_store.specs.declared.property.Property.{Property}
use Rattle.property_store.specs.Property.{among, is_property}
use Rattle.property_store.specs.Store.{Store}
use Rattle.binding_values.specs.declared.binding.Binding.{Binding}
use Rattle.binding_values.proofs.ForCallers.{property_eq}
use Rattle.binding_values.specs.declared.shown.Shown.{Shown}
use Rattle.binding_values.specs.Graph.{shown_at, shown_now}
use Rattle.binding_graph.specs.Rows.{AreMerged, AreReplaced}

-- of touched properties only those that are not there are taken out

pub appended : (list : List Property) (at q : Property) → among q (list ++ at ∷ []) ≡ (among q list || is_property q at)
appended list at q = list_any-append (is_property q) list (at ∷ []) ∙ ap (λ t. among q list || t) (by (is_property q at))
  where
    by : (here : Bool) → (here || false) ≡ here
    by true = refl
    by false = refl

module _ (store : Store) (bindings : List Binding) where
  abbrev shows_nothing : Property → Bool
  shows_nothing q = not (is_some (shown_now store bindings q))

  module _ (touched : Property → Bool) (old new : List Property)
      (are : (q : Property) → among q new ≡ (among q old || (touched q && not (is_some (shown_now store bindings q))))) (at : Property) where
    -- one that is not there
    pub absent_too : (more : List Property) → ((q : Property) → among q more ≡ (among q new || is_property q at)) → shown_now store bindings at ≡ None
        → (q : Property) → among q more ≡ (among q old || ((touched q || is_property q at) && not (is_some (shown_now store bindings q))))
    absent_too more added none q =
        added q ∙ (ap (λ t. t || is_property q at) (are q) ∙ by (is_property q at) refl (among q old) (touched q) (shows_nothing q) refl)
      where
        nothing : is_property q at ≡ true → shows_nothing q ≡ true
        nothing e = ap shows_nothing (property_eq q at e) ∙ ap (λ shown. not (is_some shown)) none

        by : (here : Bool) → is_property q at ≡ here → (was touches absent : Bool) → shows_nothing q ≡ absent
            → ((was || (touches && absent)) || here) ≡ (was || ((touches || here) && absent))
        by here e true touches absent f = refl
        by true e false true true f = refl
        by true e false false true f = refl
        by true e false touches false f = absurd (both_ways (shows_nothing q) f (nothing e))
        by false e false true true f = refl
        by false e false true false f = refl
        by false e false false absent f = refl

    -- one that is
    pub present_too : (shown : Shown) → shown_now store bindings at ≡ Some shown
        → (q : Property) → among q new ≡ (among q old || ((touched q || is_property q at) && not (is_some (shown_now store bindings q))))
    present_too shown there q = are q ∙ by (is_property q at) refl (among q old) (touched q) (shows_nothing q) refl
      where
        something : is_property q at ≡ true → shows_nothing q ≡ false
        something e = ap shows_nothing (property_eq q at e) ∙ ap (λ shown. not (is_some shown)) there

        by : (here : Bool) → is_property q at ≡ here → (was touches absent : Bool) → shows_nothing q ≡ absent
            → (was || (touches && absent)) ≡ (was || ((touches || here) && absent))
        by here e true touches absent f = refl
        by here e false true absent f = refl
        by true e false false true f = absurd (both_ways (shows_nothing q) (something e) f)
        by true e false false false f = refl
        by false e false false absent f = refl

  pub replaced_present : (touched absent : List Property) (now old new : List Shown)
      → ((q : Property) → among q absent ≡ (among q touched && not (is_some (shown_now store bindings q))))
      → ((q : Property) → shown_at now q ≡ cond (among q touched) (shown_now store bindings q) None)
      → AreReplaced absent now old new → AreMerged touched now old new
  replaced_present touched absent now old new are found replaced q =
      replaced q ∙ (ap (λ t. cond t None (option_map_or Some (shown_at now q) (shown_at old q))) (are q)
      ∙ by (among q touched) (shown_now store bindings q) (shown_at now q) (shown_at old q) (found q))
    where
      by : (t : Bool) (shows here then : Option Shown) → here ≡ cond t shows None
          → cond (t && not (is_some shows)) None (option_map_or Some here then) ≡ option_map_or Some here (cond t None then)
      by true (Some row) here then is = rw is refl
      by true None here then is = rw is refl
      by false shows here then is = refl
