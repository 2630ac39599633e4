-- What is found of a property among all that is shown.
use Rattle.std.proofs.Common.{◌≡◌, ◌∙◌, ◌+◌, ◌==◌, ◌&&◌, ◌||◌, ℕ, zero, suc, Bool, true, false, cond, List, [], ◌∷◌, Option, Some, None, Ok, Err, filter_map}
use Rattle.std.proofs.Common.{find, option_map, slice_get, refl, sym, ap, subst, arith}
use Rattle.std.specs.List.{cons_option}
use Rattle.std.specs.Option.{option_map_or}
use Rattle.std.proofs.lemmas.Bool.{or_left, or_right}
use Rattle.std.proofs.lemmas.Bool.Decides.{nat_tests}
use Rattle.std.proofs.lemmas.List.Folds.{list_any-append}
use Rattle.signature_core.specs.declared.kind.Kind.{Kind}
use Rattle.property_store.specs.declared.field.Field.{Field}
use Rattle.property_store.specs.declared.property.Property.{Property}
use Rattle.property_store.specs.Property.{among, is_property}
use Rattle.property_store.specs.Store.{Store, properties_of}
use Rattle.binding_values.specs.declared.binding.Binding.{Binding}
use Rattle.binding_values.specs.Scene.{Cell, Outcome}
use Rattle.binding_values.specs.Stored.{cell_in, cell_of, numbered, outcome_in, properties_in, properties_of_object}
use Rattle.binding_values.proofs.FuelLemmas.{is_itself, property_eq}
use Rattle.binding_values.specs.declared.shown.Shown.{Shown}
use Rattle.binding_values.specs.Graph.{all_shown, shown_as, shown_at, shown_now}

-- a property that has a cell is among those that are there
numbered_among : (object number : ℕ) (fields : List Field) (k : ℕ) (field : Field) → slice_get fields k ≡ Some field
    → among (record { object = object; number = number + k }) (numbered object number fields) ≡ true
numbered_among object number [] k field is = absurd (cc)
numbered_among object number (first ∷ fields) zero field is =
    let same : number + 0 ≡ number = omega arith in
    or_left (is_property (record { object = object; number = number + 0 }) (record { object = object; number = number })) _
    (ap (λ n. is_property (record { object = object; number = n }) (record { object = object; number = number })) same
    ∙ is_itself (record { object = object; number = number }))
numbered_among object number (first ∷ fields) (suc k) field is =
    let same : number + suc k ≡ suc number + k = omega arith in
    or_right (is_property (record { object = object; number = number + suc k }) (record { object = object; number = number })) _
    (ap (λ n. among (record { object = object; number = n }) (numbered object (suc number) fields)) same ∙ numbered_among object (suc number) fields k field is)

pub standing_in : (store : Store) (q : Property) (cell : Cell) → cell_in store q ≡ Some cell → among q (properties_in store) ≡ true
standing_in [] q cell is = absurd (cc)
standing_in (of ∷ rest) q cell is = list_any-append (is_property q) (properties_of_object of) (properties_in rest)
    ∙ by (of.object == q.object) refl is (standing_in rest q cell)
  where
    own : (field : Option Field) → slice_get of.fields q.number ≡ field
        → option_map_or (λ (field : Field). option_map (λ value. let c : Cell = record { kind = field.kind; value = value } in c)
        (slice_get of.values q.number)) field None ≡ Some cell
        → among (record { object = of.object; number = q.number }) (properties_of_object of) ≡ true
    own None e f = absurd (cc)
    own (Some field) e f =
        let same : 0 + q.number ≡ q.number = omega arith in
        subst (λ n. among (record { object = of.object; number = n }) (properties_of_object of) ≡ true) same
        (numbered_among of.object 0 of.fields q.number field e)

    by : (here : Bool) → (of.object == q.object) ≡ here → option_map_or (cell_of q.number) (cond here (Some of) (properties_of rest q.object)) None ≡ Some cell
        → (cell_in rest q ≡ Some cell → among q (properties_in rest) ≡ true)
        → (among q (properties_of_object of) || among q (properties_in rest)) ≡ true
    by true e f later =
        let its : record { object = of.object; number = q.number } ≡ q =
        property_eq (record { object = of.object; number = q.number }) q (same_number q.number e) in
        or_left (among q (properties_of_object of)) _
        (subst (λ (p : Property). among p (properties_of_object of) ≡ true) its (own (slice_get of.fields q.number) refl f))
      where
        same_number : (n : ℕ) → (of.object == q.object) ≡ true → (of.object == q.object && n == n) ≡ true
        same_number n is = grind (arith, nat_tests, is)
    by false e f later = or_right (among q (properties_of_object of)) _ (later f)

module _ (store : Store) (bindings : List Binding) where
  -- what a property shows says which property it is
  pub shown_of : (q : Property) (shown : Shown) → shown_now store bindings q ≡ Some shown → shown.at ≡ q
  shown_of q shown is = by (cell_in store q) is
    where
      as_at : (kind : Kind) (outcome : Outcome) → (shown_as q kind outcome).at ≡ q
      as_at kind (Ok value) = refl
      as_at kind (Err error) = refl

      by : (cell : Option Cell) → option_map (λ cell. shown_as q cell.kind (outcome_in store bindings q)) cell ≡ Some shown → shown.at ≡ q
      by None e = absurd (cc)
      by (Some cell) e = let same : shown_as q cell.kind (outcome_in store bindings q) ≡ shown = cc in ap (λ (shown : Shown). shown.at) (sym same)
          ∙ as_at cell.kind (outcome_in store bindings q)

  -- what is found of a property is what it shows, where it is there
  pub found_shown : (properties : List Property) (q : Property)
      → shown_at (filter_map (shown_now store bindings) properties) q ≡ cond (among q properties) (shown_now store bindings q) None
  found_shown [] q = refl
  found_shown (p ∷ properties) q = by (is_property q p) refl (shown_now store bindings p) refl (found_shown properties q)
    where
      rest : List Shown
      rest = filter_map (shown_now store bindings) properties

      test : Shown → Bool
      test shown = is_property q shown.at

      nothing : (there : Bool) → cond there None None ≡ (let none : Option Shown = None in none)
      nothing true = refl
      nothing false = refl

      by : (here : Bool) → is_property q p ≡ here → (made : Option Shown) → shown_now store bindings p ≡ made
          → find test rest ≡ cond (among q properties) (shown_now store bindings q) None
          → find test (cons_option made rest) ≡ cond (here || among q properties) (shown_now store bindings q) None
      by true e None f later =
          let none : shown_now store bindings q ≡ None = ap (shown_now store bindings) (property_eq q p e) ∙ f in
          later ∙ (ap (λ made. cond (among q properties) made None) none ∙ (nothing (among q properties) ∙ sym none))
      by true e (Some shown) f later =
          let at = shown_of p shown f in
          let passes : is_property q shown.at ≡ true = ap (is_property q) at ∙ e in
          ap (λ same. cond same (Some shown) (find test rest)) passes ∙ sym (ap (shown_now store bindings) (property_eq q p e) ∙ f)
      by false e None f later = later
      by false e (Some shown) f later =
          let at = shown_of p shown f in
          let other : is_property q shown.at ≡ false = ap (is_property q) at ∙ e in
          ap (λ same. cond same (Some shown) (find test rest)) other ∙ later

  -- and where it is not, it shows nothing
  pub found_in_all : (q : Property) → shown_at (all_shown store bindings) q ≡ shown_now store bindings q
  found_in_all q = found_shown (properties_in store) q ∙ by (cell_in store q) refl
    where
      either : (there : Bool) → cond there None None ≡ (let none : Option Shown = None in none)
      either true = refl
      either false = refl

      by : (cell : Option Cell) → cell_in store q ≡ cell → cond (among q (properties_in store)) (shown_now store bindings q) None ≡ shown_now store bindings q
      by None e =
          let none : shown_now store bindings q ≡ None = ap (option_map (λ (cell : Cell). shown_as q cell.kind (outcome_in store bindings q))) e in
          ap (λ made. cond (among q (properties_in store)) made None) none ∙ (either (among q (properties_in store)) ∙ sym none)
      by (Some cell) e = ap (λ there. cond there (shown_now store bindings q) None) (standing_in store q cell e)
