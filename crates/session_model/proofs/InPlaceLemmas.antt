-- An action over the arguments of its slot does what it does with them put in.
use Rattle.std.proofs.Common.{◌≡◌, ℕ, Bool, true, false, List, [], ◌∷◌, ◌++◌, Ok, Err, map, refl, sym, ap, ◌∙◌}
use Rattle.std.specs.Option.{ok_or, option_or}
use Rattle.std.specs.Result.{result_err}
use Rattle.session_model.proofs.Common.{BadValue, Value, SingleAction, Acts, single_action, more, nothing, when, Term, absence, acts, chosen, warns_or}
use Rattle.session_model.proofs.Common.{with_found, step, Execution, Act, Emit, Next, puts, Found, ◌>>=◌, kinds_at, methods_of, signal_with, run, Settings}
use Rattle.session_model.proofs.Common.{State, all_converted, all_evaluated, object_of, truth_evaluated, acted_writing, written}
use Rattle.variant_value.specs.Values.{truth_in}
use Rattle.term_core.specs.declared.action.SingleAction.TheVariants as e
use Rattle.term_core.specs.Act as term
use Rattle.term_evaluation.specs.Unfolding.{unfolded, unfolded_acts, unfolded_effect, unfolded_term}
use Rattle.term_evaluation.proofs.ForCallers.{in_place}
use Rattle.session_model.specs.Laws.{ActsInPlace}
use Rattle.session_model.specs.Targets.{evaluated, outcome, reads}
use Rattle.session_model.proofs.RunLemmas.{at_item, behind_nothing, in_parts}

module _ (settings : Settings) (self sender : ℕ) (args : List Value) where
  evaluated-put_in : (state : State) (term : Term) → evaluated state self sender args term ≡ evaluated state self sender [] (unfolded_term args term)
  unfolding evaluated
  evaluated-put_in state term = ap outcome (in_place term args (reads state self sender))

  all_evaluated-put_in : (state : State) (terms : List Term) → all_evaluated state self sender args terms
      ≡ all_evaluated state self sender [] (map (unfolded_term args) terms)
  all_evaluated-put_in state [] = refl
  all_evaluated-put_in state (term ∷ rest) =
      ap (λ found. found >>= λ value. all_evaluated state self sender args rest >>= λ values. Ok (value ∷ values)) (evaluated-put_in state term)
      ∙ ap (λ found. evaluated state self sender [] (unfolded_term args term) >>= λ value. found >>= λ values. Ok (value ∷ values))
      (all_evaluated-put_in state rest)

  -- what a single action comes to
  effect-put_in : (depth : ℕ) (doing : Execution) (plain : SingleAction)
      → step settings (Act (single_action plain) args self sender depth) doing
      ≡ step settings (Act (single_action (unfolded_effect args plain)) [] self sender depth) doing
  effect-put_in depth doing (e.Set of property value) =
      let object = object_of doing.state self sender of in
      ap
      (λ found. let writing = found >>= acted_writing doing.state object property in
      warns_or (option_or (absence doing.state object) (result_err writing)) self doing
      (with_found writing (λ writing. written settings doing object depth writing) doing))
      (evaluated-put_in doing.state value)
  effect-put_in depth doing (e.Emit of signal sent) =
      let object = object_of doing.state self sender of in
      let methods = methods_of settings doing.state object in
      ap
      (λ found.
      let emission : Found (ℕ × List Value) = signal_with methods signal >>= λ index. found >>= λ values. all_converted (kinds_at methods index) values >>=
      λ converted. Ok (index, converted) in
      warns_or (option_or (absence doing.state object) (result_err emission)) self doing
      (with_found emission (λ emitted. puts (Emit object emitted.0 emitted.1 depth ∷ []) doing) doing))
      (all_evaluated-put_in doing.state sent)
  effect-put_in depth doing _ = refl

  -- a choice, by its test and what its branches come to
  choice-put_in : (test : Term) (held failed : Acts) (depth : ℕ) (doing : Execution)
      → run settings (acts held args self sender depth) doing ≡ run settings (acts (unfolded_acts args held) [] self sender depth) doing
      → run settings (acts failed args self sender depth) doing ≡ run settings (acts (unfolded_acts args failed) [] self sender depth) doing
      → run settings (Act (when test held failed) args self sender depth ∷ []) doing
      ≡ run settings (Act (unfolded args (when test held failed)) [] self sender depth ∷ []) doing
  choice-put_in test held failed depth doing one other =
      at_item settings (Act (when test held failed) args self sender depth) [] doing
      ∙ by (truth_evaluated doing.state self sender args test)
      ∙ ap (λ found. after (found >>= λ value. ok_or (truth_in value) BadValue)) (evaluated-put_in doing.state test)
      ∙ sym (at_item settings (Act (unfolded args (when test held failed)) [] self sender depth) [] doing)
    where
      after : Found Bool → Execution
      after truth = let next = chosen truth (unfolded_acts args held) (unfolded_acts args failed) [] self sender depth doing in run settings
          (next.items ++ []) next.doing

      by : (truth : Found Bool) → (let next = chosen truth held failed args self sender depth doing in run settings (next.items ++ []) next.doing ≡ after truth)
      by (Ok true) = behind_nothing settings (acts held args self sender depth) doing ∙ one
          ∙ sym (behind_nothing settings (acts (unfolded_acts args held) [] self sender depth) doing)
      by (Ok false) = behind_nothing settings (acts failed args self sender depth) doing ∙ other
          ∙ sym (behind_nothing settings (acts (unfolded_acts args failed) [] self sender depth) doing)
      by (Err code) = refl

  mutual
    pub act-put_in : (action : term.Act) (depth : ℕ) (doing : Execution)
        → run settings (Act action args self sender depth ∷ []) doing ≡ run settings (Act (unfolded args action) [] self sender depth ∷ []) doing
    act-put_in (single_action plain) depth doing =
        at_item settings (Act (single_action plain) args self sender depth) [] doing
        ∙ ap (λ (next : Next). run settings (next.items ++ []) next.doing) (effect-put_in depth doing plain)
        ∙ sym (at_item settings (Act (single_action (unfolded_effect args plain)) [] self sender depth) [] doing)
    act-put_in (when test held failed) depth doing = choice-put_in test held failed depth doing (acts-put_in held depth doing) (acts-put_in failed depth doing)

    -- and so do all actions of a body
    pub acts-put_in : (body : Acts) (depth : ℕ) (doing : Execution)
        → run settings (acts body args self sender depth) doing ≡ run settings (acts (unfolded_acts args body) [] self sender depth) doing
    acts-put_in nothing depth doing = refl
    acts-put_in (more action rest) depth doing =
        in_parts settings (Act action args self sender depth ∷ []) (acts rest args self sender depth) doing
        ∙ ap (run settings (acts rest args self sender depth)) (act-put_in action depth doing)
        ∙ acts-put_in rest depth (run settings (Act (unfolded args action) [] self sender depth ∷ []) doing)
        ∙ sym (in_parts settings (Act (unfolded args action) [] self sender depth ∷ []) (acts (unfolded_acts args rest) [] self sender depth) doing)

pub acts_in_place : ActsInPlace
acts_in_place settings action args self sender depth doing = act-put_in settings self sender args action depth doing
