-- Values of properties are short, and of their kinds.
use Rattle.std.proofs.Common.{◌≡◌, ℕ, ◌==◌, Bool, true, false, List, [], ◌∷◌, Option, Some, None, Ok, Err, IfOk, All, filter, find, option_map, refl, sym}
use Rattle.std.proofs.Common.{subst, arith}
use Rattle.std.specs.List.{slice_get}
use Rattle.std.specs.Option.{ok_or, option_map_or}
use Rattle.std.proofs.lemmas.Bool.{and_parts}
use Rattle.std.proofs.lemmas.List.Elements.{All-filter}
use Rattle.signature_core.specs.declared.kind.Kind.{Kind}
use Rattle.variant_value.specs.declared.value.Value.{Value}
use Rattle.variant_value.specs.Values.{IsOfKind, IsShort, converted}
use Rattle.term_core.specs.Forms.{is_within_limits}
use Rattle.term_core.specs.Term.{Term, has_short_texts}
use Rattle.term_evaluation.specs.Evaluation.{eval_by}
use Rattle.term_evaluation.specs.Outcomes.{Answer, own, refused}
use Rattle.term_evaluation.proofs.ForCallers.{short_value}
use Rattle.property_store.specs.declared.field.Field.{Field}
use Rattle.property_store.specs.Store.{AreSound, IsSound, Properties, Store, properties_of}
use Rattle.property_store.proofs.ForCallers.{converted_fits, default_kind, default_short, kind_there, found}
use Rattle.binding_values.specs.declared.binding.Binding.{Binding}
use Rattle.binding_values.specs.declared.property.BindingError.{BindingError}
use Rattle.binding_values.specs.declared.property.BindingError.TheVariants.{EvaluationError}
use Rattle.property_store.specs.declared.property.Property.{Property}
use Rattle.binding_values.specs.declared.shown.Shown.{Shown}
use Rattle.binding_values.specs.Graph.{shown_as, shown_now}
use Rattle.binding_values.specs.Scene.{Cell, Outcome, choose, evaluated, passed_on, plain, reader, reading, settled, term_at}
use Rattle.property_store.specs.Property.{among, is_property}
use Rattle.binding_values.specs.Stored.{cell_in, cell_of, is_there, outcome_in, scene_of}
use Rattle.binding_values.proofs.FuelLemmas.{by_unmet, plain_rule}

-- what is converted of a short value is of the kind
settled_fits : (kind : Kind) (r : Answer BindingError) → IfOk r IsShort → IfOk (settled kind r) (IsOfKind kind)
settled_fits kind (Ok value) short = by (converted kind value) refl
  where
    by : (fit : Option Value) → converted kind value ≡ fit → IfOk (ok_or fit EvaluationError) (IsOfKind kind)
    by None e = tt
    by (Some fit) e = converted_fits kind value fit short e
settled_fits kind (Err (own error)) short = tt
settled_fits kind (Err (refused code)) short = tt

fits_short : (kind : Kind) (o : Outcome) → IfOk o (IsOfKind kind) → IfOk o IsShort
fits_short kind (Ok value) fits = fits.1
fits_short kind (Err error) fits = tt

pub shown_fits : (q : Property) (kind : Kind) (o : Outcome) → IfOk o (IsOfKind kind) → IsOfKind kind (shown_as q kind o).value
shown_fits q kind (Ok value) fits = fits
shown_fits q kind (Err error) fits = (default_kind kind, default_short kind)

module _ (store : Store) (sound : IsSound store) where
  cell_of_fits : (of : Properties) → AreSound of → (number : ℕ) (cell : Cell) → cell_of number of ≡ Some cell → IsOfKind cell.kind cell.value
  cell_of_fits of are number cell is = by (slice_get of.fields number) refl (slice_get of.values number) refl is
    where
      by : (field : Option Field) → slice_get of.fields number ≡ field → (value : Option Value) → slice_get of.values number ≡ value
          → option_map_or (λ (field : Field). option_map (λ value. let c : Cell = record { kind = field.kind; value = value } in c) value) field None
          ≡ Some cell → IsOfKind cell.kind cell.value
      by None f value v e = absurd (cc)
      by (Some field) f None v e = absurd (cc)
      by (Some field) f (Some value) v e =
          let kind : field.kind ≡ cell.kind = cc in
          let same : value ≡ cell.value = cc in
          subst (λ k. IsOfKind k cell.value) kind (subst (IsOfKind field.kind) same (kind_there of are number value field v f))

  pub cell_fits : (q : Property) (cell : Cell) → cell_in store q ≡ Some cell → IsOfKind cell.kind cell.value
  cell_fits q cell is = by (properties_of store q.object) refl is
    where
      by : (of : Option Properties) → properties_of store q.object ≡ of → option_map_or (cell_of q.number) of None ≡ Some cell → IsOfKind cell.kind cell.value
      by None f e = absurd (cc)
      by (Some of) f e =
          let there = found (λ (of : Properties). of.object == q.object) store of f in
          cell_of_fits of (subst AreSound (there.is of) (sound.each there.at of there.within)) q.number cell e

  module _ (bindings : List Binding) (limited : All (λ (binding : Binding). is_within_limits binding.expr ≡ true) bindings) where
    texts : (q : Property) (term : Term) → term_at (scene_of store bindings).bindings q ≡ Some term → has_short_texts term ≡ true
    texts q term bound = by (find (λ (binding : Binding). is_property q binding.at) (filter (is_there store) bindings)) refl bound
      where
        by : (b : Option Binding) → find (λ (binding : Binding). is_property q binding.at) (filter (is_there store) bindings) ≡ b
            → option_map (λ (binding : Binding). binding.expr) b ≡ Some term → has_short_texts term ≡ true
        by None f e = absurd (cc)
        by (Some b) f e =
            let there = found (λ (binding : Binding). is_property q binding.at) (filter (is_there store) bindings) b f in
            let within : is_within_limits b.expr ≡ true = subst (λ (b : Binding). is_within_limits b.expr ≡ true) (there.is b)
            (All-filter (is_there store) (λ (binding : Binding). is_within_limits binding.expr ≡ true) bindings limited there.at b there.within) in
            let same : b.expr ≡ term = cc in
            subst (λ (t : Term). has_short_texts t ≡ true) same (and_parts _ _ within).1

    read_short : (value : Property → Outcome) → ((r : Property) → IfOk (value r) IsShort) → (o : Option Property) → IfOk (reading value o) IsShort
    read_short value short None = tt
    read_short value short (Some r) = by (value r) (short r)
      where
        by : (o : Outcome) → IfOk o IsShort → IfOk (passed_on o) IsShort
        by (Ok v) h = h
        by (Err error) h = tt

    abbrev Short : List Property → Type 0
    Short seen = (q : Property) → IfOk (plain (scene_of store bindings) seen q) IsShort

    evaluated_fits : (seen : List Property) (q : Property) (cell : Cell) (term : Term) → term_at (scene_of store bindings).bindings q ≡ Some term
        → Short (q ∷ seen) → IfOk (evaluated (scene_of store bindings) (plain (scene_of store bindings) (q ∷ seen)) q.object cell.kind term)
        (IsOfKind cell.kind)
    evaluated_fits seen q cell term bound short =
        settled_fits cell.kind (eval_by [] (reader (scene_of store bindings) (plain (scene_of store bindings) (q ∷ seen)) q.object) term)
        (short_value term [] (reader (scene_of store bindings) (plain (scene_of store bindings) (q ∷ seen)) q.object) (texts q term bound)
        (λ k d lt. absurd (omega arith)) (λ target name. read_short (plain (scene_of store bindings) (q ∷ seen)) short
        ((scene_of store bindings).named q.object target name)))

    -- by the rule a value is of the kind of its property, where others' values are short
    rule_fits : (seen : List Property) → ((q : Property) (term : Term) → term_at (scene_of store bindings).bindings q ≡ Some term → among q seen ≡ false
        → Short (q ∷ seen)) → (q : Property) (cell : Cell) → cell_in store q ≡ Some cell → IfOk (plain (scene_of store bindings) seen q) (IsOfKind cell.kind)
    rule_fits seen short q cell is = subst (λ (o : Outcome). IfOk o (IsOfKind cell.kind)) (sym (plain_rule (scene_of store bindings) seen q))
        (by (among q seen) refl (cell_in store q) is (term_at (scene_of store bindings).bindings q) refl)
      where
        evaluate : Cell → Term → Outcome
        evaluate cell term = evaluated (scene_of store bindings) (plain (scene_of store bindings) (q ∷ seen)) q.object cell.kind term

        by : (t : Bool) → among q seen ≡ t → (c : Option Cell) → c ≡ Some cell → (term : Option Term) → term_at (scene_of store bindings).bindings q ≡ term
            → IfOk (choose t c term evaluate) (IsOfKind cell.kind)
        by true e c f term g = tt
        by false e None f term g = tt
        by false e (Some c) f None g = let same : c ≡ cell = cc in subst (λ (c : Cell). IsOfKind cell.kind c.value) (sym same) (cell_fits q cell is)
        by false e (Some c) f (Some term) g = let same : c ≡ cell = cc in subst (λ (c : Cell). IfOk (evaluate c term) (IsOfKind cell.kind)) (sym same)
            (evaluated_fits seen q cell term g (short q term g e))

    nowhere : (seen : List Property) (q : Property) → cell_in store q ≡ None → IfOk (plain (scene_of store bindings) seen q) IsShort
    nowhere seen q is = subst (λ (o : Outcome). IfOk o IsShort) (sym (plain_rule (scene_of store bindings) seen q)) (by (among q seen) (cell_in store q) is)
      where
        by : (t : Bool) (c : Option Cell) → c ≡ None
            → IfOk (choose t c (term_at (scene_of store bindings).bindings q)
            (λ cell term. evaluated (scene_of store bindings) (plain (scene_of store bindings) (q ∷ seen)) q.object cell.kind term)) IsShort
        by true c e = tt
        by false None e = tt
        by false (Some c) e = absurd (cc)

    all_short : (seen : List Property) → Short seen
    all_short seen = by_unmet (scene_of store bindings) Short step seen
      where
        step : (seen : List Property) → ((q : Property) (term : Term) → term_at (scene_of store bindings).bindings q ≡ Some term → among q seen ≡ false
            → Short (q ∷ seen)) → Short seen
        step seen short q = by (cell_in store q) refl
          where
            by : (c : Option Cell) → cell_in store q ≡ c → IfOk (plain (scene_of store bindings) seen q) IsShort
            by None e = nowhere seen q e
            by (Some cell) e = fits_short cell.kind _ (rule_fits seen short q cell e)

    -- the value of a property is of its kind
    pub outcome_fits : (q : Property) (cell : Cell) → cell_in store q ≡ Some cell → IfOk (outcome_in store bindings q) (IsOfKind cell.kind)
    outcome_fits q cell is = rule_fits [] (λ r term bound fresh. all_short (r ∷ [])) q cell is

    -- and so is what it shows
    pub shown_now_fits : (q : Property) (shown : Shown) → shown_now store bindings q ≡ Some shown → IsOfKind shown.kind shown.value × (shown.at ≡ q)
    shown_now_fits q shown is = by (cell_in store q) refl is
      where
        as_kind : (kind : Kind) (o : Outcome) → ((shown_as q kind o).kind ≡ kind) × ((shown_as q kind o).at ≡ q)
        as_kind kind (Ok value) = (refl, refl)
        as_kind kind (Err error) = (refl, refl)

        by : (c : Option Cell) → cell_in store q ≡ c → option_map (λ cell. shown_as q cell.kind (outcome_in store bindings q)) c ≡ Some shown
            → IsOfKind shown.kind shown.value × (shown.at ≡ q)
        by None e f = absurd (cc)
        by (Some cell) e f =
            let same : shown_as q cell.kind (outcome_in store bindings q) ≡ shown = cc in
            let is_so = as_kind cell.kind (outcome_in store bindings q) in
            subst (λ (s : Shown). IsOfKind s.kind s.value × (s.at ≡ q)) same (
              subst (λ k. IsOfKind k (shown_as q cell.kind (outcome_in store bindings q)).value) (sym is_so.0)
                  (shown_fits q cell.kind (outcome_in store bindings q) (outcome_fits q cell e)),
              is_so.1,
            )
