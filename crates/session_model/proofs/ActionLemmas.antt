-- The rules by which an action of a slot's body is done: one for each way that it goes.
use Rattle.std.proofs.Common.{◌≡◌, ℕ, Bool, true, false, cond, List, [], ◌∷◌, Option, Some, None, Ok, Err, sym, ap, ◌∙◌}
use Rattle.std.specs.Option.{option_map_or, option_or}
use Rattle.std.specs.Result.{result_err}
use Rattle.session_model.proofs.Common.{Code, NoSuchObject, Signature, Value, SingleAction, Target, Acts, single_action, when, Term, Operation, is_there}
use Rattle.session_model.proofs.Common.{act_operation, acts, chosen, emission, warns_or, with_found, step, operation_done, operation_refusal, found_refusal}
use Rattle.session_model.proofs.Common.{Execution, Act, Emit, Next, Warn, puts, Found, Settings, object_of, truth_evaluated, Writing, written}
use Rattle.term_core.specs.declared.action.SingleAction.TheVariants as e
use Rattle.session_model.specs.Acts.{writing}

module _ (settings : Settings) (self sender : ℕ) (args : List Value) (depth : ℕ) (doing : Execution) where
  -- what a single action comes to
  abbrev pub comes_to : SingleAction → Next
  comes_to plain = step settings (Act (single_action plain) args self sender depth) doing

  -- what warns of a code for the object whose slot is run
  abbrev pub warned : Code → Next
  warned code = puts (Warn code (Some self) ∷ []) doing

  -- the object that a target is
  abbrev pub object : Target → ℕ
  object target = object_of doing.state self sender target

  -- an absence, by whether the object is there
  abbrev absent : Bool → Option Code
  absent there = cond there None (Some NoSuchObject)

  -- writing a property
  module _ (of : Target) (property : List ℕ) (value : Term) (target : ℕ) (is : target ≡ object of) where
    set_next : ℕ → Bool → Found Writing → Next
    set_next target there found = warns_or (option_or (absent there) (result_err found)) self doing
        (with_found found (λ writing. written settings doing target depth writing) doing)

    by_owner : (there : Bool) → is_there doing.state.forest.rows target ≡ there
        → comes_to (e.Set of property value) ≡ set_next target there (writing doing.state self sender args target property value)
    unfolding set_next
    by_owner there e =
        ap (λ target. set_next target (is_there doing.state.forest.rows target) (writing doing.state self sender args target property value)) (sym is)
        ∙ ap (λ there. set_next target there (writing doing.state self sender args target property value)) e

    module _ (there : is_there doing.state.forest.rows target ≡ true) where
      pub set_faulty : (code : Code) → writing doing.state self sender args target property value ≡ Err code → comes_to (e.Set of property value) ≡ warned code
      unfolding set_next
      set_faulty code found = by_owner true there ∙ ap (set_next target true) found

      -- what is written is written, and then told of
      pub set_done : (found : Writing) → writing doing.state self sender args target property value ≡ Ok found
          → comes_to (e.Set of property value) ≡ written settings doing target depth found
      unfolding set_next
      set_done _ found = by_owner true there ∙ ap (set_next target true) found

  -- sending a signal
  module _ (of : Target) (signal : Signature) (sent : List Term) (target : ℕ) (is : target ≡ object of) where
    emit_next : ℕ → Bool → Found (ℕ × List Value) → Next
    emit_next target there found = warns_or (option_or (absent there) (result_err found)) self doing
        (with_found found (λ emitted. puts (Emit target emitted.0 emitted.1 depth ∷ []) doing) doing)

    by_sender : (there : Bool) → is_there doing.state.forest.rows target ≡ there
        → comes_to (e.Emit of signal sent) ≡ emit_next target there (emission settings doing.state self sender args target signal sent)
    unfolding emit_next
    by_sender there e =
        ap (λ target. emit_next target (is_there doing.state.forest.rows target) (emission settings doing.state self sender args target signal sent)) (sym is)
        ∙ ap (λ there. emit_next target there (emission settings doing.state self sender args target signal sent)) e

    pub emit_absent : is_there doing.state.forest.rows target ≡ false → comes_to (e.Emit of signal sent) ≡ warned NoSuchObject
    unfolding emit_next
    emit_absent there = by_sender false there

  -- what comes of an operation
  abbrev pub found_next : Found Operation → Next
  found_next found = warns_or (found_refusal doing.state found) self doing (with_found found (λ operation. puts [] (operation_done doing operation)) doing)

  next_of : Option (Found Operation) → Next
  next_of found = option_map_or found_next found (puts [] doing)

  pub by_operation : (plain : SingleAction) (found : Found Operation) → act_operation settings doing.state self sender plain ≡ Some found
      → comes_to plain ≡ found_next found
  unfolding next_of
  by_operation (e.Set of property value) found is = absurd (cc)
  by_operation (e.Emit of signal sent) found is = absurd (cc)
  by_operation (e.Delete of) found is = absurd (cc)
  by_operation _ found is = ap next_of is

  -- doing an operation
  module _ (plain : SingleAction) where
    module _ (operation : Operation) (is : act_operation settings doing.state self sender plain ≡ Some (Ok operation)) where
      pub operation_is_done : operation_refusal doing.state operation ≡ None → comes_to plain ≡ puts [] (operation_done doing operation)
      operation_is_done passed = by_operation plain (Ok operation) is
          ∙ ap (λ refusal. warns_or refusal self doing (puts [] (operation_done doing operation))) passed

  -- choosing a branch
  module _ (test : Term) (held failed : Acts) where
    pub when_faulty : (code : Code) → truth_evaluated doing.state self sender args test ≡ Err code
        → step settings (Act (when test held failed) args self sender depth) doing ≡ warned code
    when_faulty code found = ap (λ truth. chosen truth held failed args self sender depth doing) found

    pub when_held : truth_evaluated doing.state self sender args test ≡ Ok true
        → step settings (Act (when test held failed) args self sender depth) doing ≡ puts (acts held args self sender depth) doing
    when_held found = ap (λ truth. chosen truth held failed args self sender depth doing) found

    pub when_failed : truth_evaluated doing.state self sender args test ≡ Ok false
        → step settings (Act (when test held failed) args self sender depth) doing ≡ puts (acts failed args self sender depth) doing
    when_failed found = ap (λ truth. chosen truth held failed args self sender depth doing) found
