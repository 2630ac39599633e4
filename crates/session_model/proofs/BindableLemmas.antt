-- What is asked to be bound may be bound, and its expression is within the limits.
use Rattle.std.proofs.Common.{◌≡◌, ℕ, true, false, List, Ok, subst}
use Rattle.std.specs.Option.{option_map_or}
use Rattle.session_model.proofs.Common.{Data, is_within_limits, Field, Property, State}
use Rattle.term_core.specs.Forms.{binding_term_of}
use Rattle.term_evaluation.specs.Reading.{reads_of}
use Rattle.property_store.specs.Store.{field_at}
use Rattle.session_model.proofs.BindingLemmas.{IsBindable}
use Rattle.session_model.proofs.BoundTermLemmas.{bound_term_short}
use Rattle.session_model.specs.Binding.{Bound, asked_binding, asked_property, bindable_property, reads_refusal}
use Rattle.session_model.proofs.FoundLemmas.{found_past, if_found, then_found}

-- the property may be bound, and the expression is within the limits
pub record MayBeBound (state : State) (bound : Bound) : Type 0 where
  pub bindable : IsBindable state.store bound.at
  pub short : is_within_limits bound.term ≡ true

-- a property that is found to be bindable is so
found_bindable : (state : State) (target : ℕ) (name : List ℕ) (at : Property) → bindable_property state target name ≡ Ok at → IsBindable state.store at
found_bindable state target name at is =
    let (asked, found, e) = then_found (asked_property state target name) _ is in
    let (may, e) = if_found (option_map_or (λ (field : Field). field.bindable) (field_at state.store asked.object asked.number) false) _ _ e in
    let same : asked ≡ at = cc in subst (IsBindable state.store) same may

pub may_be_bound : (state : State) (target : ℕ) (name : List ℕ) (to : Data) (bound : Bound) → asked_binding state target name to ≡ Ok bound
    → MayBeBound state bound
may_be_bound state target name to bound is =
    let (at, found, e) = then_found (bindable_property state target name) _ is in
    let (term, so, e) = then_found (binding_term_of to) _ e in
    let made : Bound = record { at = at; term = term } in
    let passed = found_past (reads_refusal state target (reads_of term)) (Ok made) bound e in
    let same : made ≡ bound = cc in
    subst (MayBeBound state) same (record { bindable = found_bindable state target name at found; short = bound_term_short to term so })
