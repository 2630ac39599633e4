-- Arguments: as many as there are parameters, each of its kind, and no text too long.
use Rattle.std.proofs.Common.{◌≡◌, ◌==◌, ℕ, Bool, true, false, cond, bytes_eq, List, [], ◌∷◌, ◌++◌, Option, Some, None, Ok, Err, IfOk, IfSome, find, length}
use Rattle.std.proofs.Common.{take, refl, ap, subst, append_assoc, ◌∙◌}
use Rattle.std.specs.List.{All, list_all}
use Rattle.std.specs.Option.{ok_or, option_and_then, option_map, option_map_or}
use Rattle.std.proofs.lemmas.Bool.{and_parts}
use Rattle.std.proofs.lemmas.List.Elements.{All-cons, All-head, All-nil, All-tail}
use Rattle.session_model.proofs.Common.{BadValue, Limit, NoSuchObject, Data, Kind, fits, Value, IsShort, converted, Target, is_within_limits, Term}
use Rattle.session_model.proofs.Common.{AreSound, Properties, properties_of, is_there, AreArguments, Found, State, all_converted, all_evaluated}
use Rattle.session_model.proofs.Common.{object_of}
use Rattle.plain_types.specs.declared.code.Code.TheVariants.{NoSuchProperty}
use Rattle.signature_core.proofs.ForCallers.{Decides-fits}
use Rattle.variant_value.specs.Values.{value_of}
use Rattle.term_evaluation.specs.Evaluation.{eval_by}
use Rattle.term_evaluation.specs.Outcomes.{Answer, own, refused}
use Rattle.term_evaluation.proofs.ForCallers.{short_value}
use Rattle.property_store.specs.declared.dynamic.Named.{Named}
use Rattle.property_store.specs.Store as stored
use Rattle.property_store.specs.Store.{dynamic_value, field_number}
use Rattle.property_store.proofs.ForCallers.{converted_fits}
use Rattle.binding_values.specs.Graph as graph
use Rattle.binding_values.proofs.ForCallers.{value_short}
use Rattle.session_model.specs.Showing.{named_value}
use Rattle.session_model.specs.Signals.{values_of, with_value}
use Rattle.session_model.specs.State.{shown}
use Rattle.session_model.specs.Targets.{evaluated, outcome, reads}
use Rattle.session_model.proofs.FitLemmas.{read_kind}
use Rattle.session_model.proofs.FilterLemmas.{of_found}
use Rattle.session_model.proofs.FoundLemmas.{some_found, then_found}

-- the first of them serve parameters that are the first
front_arguments : (front rest : List Kind) (args : List Value) → AreArguments (front ++ rest) args → AreArguments front (take (length front) args)
front_arguments [] rest [] all = tt
front_arguments [] rest (value ∷ args) all = tt
front_arguments (kind ∷ front) rest [] all = absurd all
front_arguments (kind ∷ front) rest (value ∷ args) all = (all.0, front_arguments front rest args all.1)

pub fitting_arguments : (kinds params : List Kind) (args : List Value) → fits kinds params ≡ true → AreArguments kinds args
    → AreArguments params (take (length params) args)
fitting_arguments kinds params args fit all =
    let split = (Decides-fits kinds params).0 fit in
    front_arguments params split.0 args (subst (λ kinds. AreArguments kinds args) split.1 all)

-- so do parameters that are the first of those
pub fitting_through : (kinds front params : List Kind) (args : List Value) → fits kinds front ≡ true → fits front params ≡ true → AreArguments kinds args
    → AreArguments params (take (length params) args)
fitting_through kinds front params args one other all =
    let first = (Decides-fits kinds front).0 one in
    let second = (Decides-fits front params).0 other in
    front_arguments params (second.0 ++ first.0) args
    (subst (λ kinds. AreArguments kinds args) (first.1 ∙ ap (λ kinds. kinds ++ first.0) second.1 ∙ append_assoc params second.0 first.0) all)

pub short_arguments : (kinds : List Kind) (args : List Value) → AreArguments kinds args → All IsShort args
short_arguments [] [] all = All-nil IsShort
short_arguments [] (value ∷ args) all = absurd all
short_arguments (kind ∷ kinds) [] all = absurd all
short_arguments (kind ∷ kinds) (value ∷ args) all = All-cons IsShort value args all.0.1 (short_arguments kinds args all.1)

-- values that are converted, of short ones
pub converted_arguments : (kinds : List Kind) (values new : List Value) → All IsShort values → all_converted kinds values ≡ Ok new → AreArguments kinds new
converted_arguments [] [] new short e = let same : [] ≡ new = cc in subst (AreArguments []) same tt
converted_arguments [] (value ∷ values) new short e = absurd (cc)
converted_arguments (kind ∷ kinds) [] new short e = absurd (cc)
converted_arguments (kind ∷ kinds) (value ∷ values) new short e =
    let (one, is, e) = then_found (ok_or (converted kind value) BadValue) _ e in
    let (rest, so, e) = then_found (all_converted kinds values) _ e in
    let same : one ∷ rest ≡ new = cc in
    subst (AreArguments (kind ∷ kinds)) same (
      converted_fits kind value one (All-head IsShort value values short) (some_found (converted kind value) _ is),
      converted_arguments kinds values rest (All-tail IsShort value values short) so,
    )

-- and values that are read
pub read_arguments : (kinds : List Kind) (jsons : List Data) (values : List Value) → values_of kinds jsons ≡ Ok values → AreArguments kinds values
read_arguments [] [] values e = let same : [] ≡ values = cc in subst (AreArguments []) same tt
read_arguments [] (json ∷ jsons) values e = absurd (cc)
read_arguments (kind ∷ kinds) [] values e = absurd (cc)
read_arguments (kind ∷ kinds) (json ∷ jsons) values e = by (value_of kind json) (values_of kinds jsons) refl (λ rest so. read_arguments kinds jsons rest so) e
  where
    by : (one : Found Value) (others : Found (List Value)) → value_of kind json ≡ one → ((rest : List Value) → others ≡ Ok rest → AreArguments kinds rest)
        → with_value one others ≡ Ok values → AreArguments (kind ∷ kinds) values
    by (Ok value) (Ok rest) is later e =
        let same : value ∷ rest ≡ values = cc in
        subst (AreArguments (kind ∷ kinds)) same (read_kind kind json value is, later rest refl)
    by (Ok value) (Err code) is so e = absurd (cc)
    by (Err code) (Ok rest) is so e = absurd (cc)
    by (Err Limit) (Err code) is so e = absurd (cc)
    by (Err other) (Err code) is so e = absurd (cc)

-- what a slot reads and evaluates is short
module _ (state : State) (properties : stored.IsSound state.store) (bound : graph.IsSound state.graph) where
  named_short : (object : ℕ) (name : List ℕ) → IfSome (named_value state object name) IsShort
  named_short object name = by (properties_of state.store object) refl
    where
      free : (of : Properties) → AreSound of → (named : Option Named) → find (λ (named : Named). bytes_eq named.name name) of.dynamic ≡ named
          → IfSome (option_map (λ (named : Named). named.value) named) IsShort
      free of sound None e = tt
      free of sound (Some named) e =
          of_found (λ (named : Named). IsShort named.value) (λ (named : Named). bytes_eq named.name name) of.dynamic named e sound.dynamic_short

      numbered : (of : Properties) → AreSound of → (number : Option ℕ)
          → IfSome (option_map_or (λ number. Some (shown state object number).0) number (dynamic_value name of.dynamic)) IsShort
      numbered of sound None = free of sound (find (λ (named : Named). bytes_eq named.name name) of.dynamic) refl
      numbered of sound (Some number) = value_short state.store properties state.graph bound (record { object = object; number = number })

      by : (of : Option Properties) → properties_of state.store object ≡ of
          → IfSome (option_and_then (λ of. option_map_or (λ number. Some (shown state object number).0) (field_number name of.fields)
          (dynamic_value name of.dynamic)) of) IsShort
      by None e = tt
      by (Some of) e =
          numbered of (of_found AreSound (λ (of : Properties). of.object == object) state.store of e properties.each) (field_number name of.fields)

  reads_short : (self sender : ℕ) (target : Target) (name : List ℕ) → IfOk (reads state self sender target name) IsShort
  reads_short self sender target name = by (is_there state.forest.rows (object_of state self sender target))
      (named_value state (object_of state self sender target) name) (named_short (object_of state self sender target) name)
    where
      read : Bool → Option Value → Answer (Unit {0})
      read there value = cond there (ok_or value (refused NoSuchProperty)) (Err (refused NoSuchObject))

      by : (there : Bool) (value : Option Value) → IfSome value IsShort → IfOk (read there value) IsShort
      by false value short = tt
      by true None short = tt
      by true (Some value) short = short

  evaluated_short : (self sender : ℕ) (args : List Value) (term : Term) (value : Value) → All IsShort args → is_within_limits term ≡ true
      → evaluated state self sender args term ≡ Ok value → IsShort value
  unfolding evaluated
  evaluated_short self sender args term value short limited e =
      by (eval_by args (reads state self sender) term)
      (short_value term args (reads state self sender) (and_parts _ _ limited).1 short (reads_short self sender)) e
    where
      by : (answer : Answer (Unit {0})) → IfOk answer IsShort → outcome answer ≡ Ok value → IsShort value
      by (Ok made) is e = let same : made ≡ value = cc in subst IsShort same is
      by (Err (refused code)) is e = absurd (cc)
      by (Err (own fault)) is e = absurd (cc)

  pub all_evaluated_short : (self sender : ℕ) (args : List Value) (terms : List Term) (values : List Value) → All IsShort args
      → list_all is_within_limits terms ≡ true → all_evaluated state self sender args terms ≡ Ok values → All IsShort values
  all_evaluated_short self sender args [] values short limited e = let same : [] ≡ values = cc in subst (All IsShort) same (All-nil IsShort)
  all_evaluated_short self sender args (term ∷ terms) values short limited e =
      let (one, is, e) = then_found (evaluated state self sender args term) _ e in
      let (rest, so, e) = then_found (all_evaluated state self sender args terms) _ e in
      let same : one ∷ rest ≡ values = cc in
      subst (All IsShort) same (All-cons IsShort one rest (evaluated_short self sender args term one short (and_parts _ _ limited).0 is)
      (all_evaluated_short self sender args terms rest short (and_parts _ _ limited).1 so))
