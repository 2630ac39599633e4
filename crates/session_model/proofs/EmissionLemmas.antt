-- The rules by which a signal is sent, a connection called and a slot run: one for each way that it goes.
use Rattle.std.proofs.Common.{◌≡◌, ◌<◌, ◌≤◌, ◌+◌, ◌==◌, ℕ, true, false, cond, List, [], ◌∷◌, Option, Some, None, is_some, nat_le, refl, ap, ◌∙◌, arith}
use Rattle.std.specs.Option.{option_map_or}
use Rattle.std.proofs.lemmas.Bool.{cond-false, cond-true}
use Rattle.std.proofs.lemmas.Bool.Decides.{nat_tests}
use Rattle.session_model.proofs.Common.{Code, Limit, Value, acts_of, Method, Connection, Row, is_there, row_of, Functor, Warning, acts, posts_of, BindingError}
use Rattle.session_model.proofs.Common.{Property, call_line, called, calls_of, emitted, functor_ran, ran, step, with_turn, Execution, posting}
use Rattle.session_model.proofs.Common.{single_shot_broken, line_told, turn_taken, used_up, Call, Emit, Run, RunFunctor, Warn, WarnOf, puts, functor_at}
use Rattle.session_model.proofs.Common.{method_at, Settings}
use Rattle.session_model.specs.declared.call.TheConstants.{NESTED_SIGNALS}
use Rattle.session_model.specs.declared.line.Line.TheVariants as line
use Rattle.session_model.specs.Agenda.{binding_line, callee_called, connection_of, is_held_back}

module _ (settings : Settings) (target signal : ℕ) (args : List Value) (depth : ℕ) (doing : Execution) where
  -- an object that has gone sends nothing
  pub emit_absent : is_there doing.state.forest.rows target ≡ false → step settings (Emit target signal args depth) doing ≡ puts [] doing
  emit_absent absent = by (row_of doing.state.forest.rows target) absent
    where
      by : (found : Option Row) → is_some found ≡ false → option_map_or (emitted settings doing target signal args depth) found (puts [] doing) ≡ puts [] doing
      by (Some row) out = absurd (cc)
      by None out = refl

  module _ (row : Row) (there : row_of doing.state.forest.rows target ≡ Some row) where
    is_emitted : step settings (Emit target signal args depth) doing ≡ emitted settings doing target signal args depth row
    is_emitted = ap (λ found. option_map_or (emitted settings doing target signal args depth) found (puts [] doing)) there

    -- a signal that is held back is not sent
    pub emit_held_back : is_held_back signal row ≡ true → step settings (Emit target signal args depth) doing ≡ puts [] doing
    emit_held_back held = is_emitted ∙ cond-true (is_held_back signal row) _ _ held

    module _ (sent : is_held_back signal row ≡ false) where
      is_sent : step settings (Emit target signal args depth) doing
          ≡ cond (nat_le NESTED_SIGNALS depth) (puts (Warn Limit (Some target) ∷ []) doing)
          (puts (calls_of doing target signal args depth) (posting doing (posts_of settings.classes doing.state target signal args)))
      is_sent = is_emitted ∙ cond-false (is_held_back signal row) _ _ sent

      -- a signal that is nested too deep is not sent, and its object is warned of
      pub emit_deep : NESTED_SIGNALS ≤ depth → step settings (Emit target signal args depth) doing ≡ puts (Warn Limit (Some target) ∷ []) doing
      emit_deep deep = let is : nat_le NESTED_SIGNALS depth ≡ true = grind (arith, nat_tests, deep) in is_sent ∙ cond-true (nat_le NESTED_SIGNALS depth) _ _ is

      -- a signal that is not nested too deep is posted, and calls what is connected to it
      pub emit_calls : depth < NESTED_SIGNALS → step settings (Emit target signal args depth) doing
          ≡ puts (calls_of doing target signal args depth) (posting doing (posts_of settings.classes doing.state target signal args))
      emit_calls shallow = let is : nat_le NESTED_SIGNALS depth ≡ false = grind (arith, nat_tests, shallow) in is_sent
          ∙ cond-false (nat_le NESTED_SIGNALS depth) _ _ is

module _ (settings : Settings) (number : ℕ) (args : List Value) (depth : ℕ) (doing : Execution) where
  -- a connection that is broken is not called
  pub call_broken : connection_of doing number ≡ None → step settings (Call number args depth) doing ≡ puts [] doing
  call_broken broken = ap (λ found. option_map_or (λ connection. with_turn doing (called settings connection args depth)) found (puts [] doing)) broken

  module _ (connection : Connection) (standing : connection_of doing number ≡ Some connection) where
    is_called : step settings (Call number args depth) doing ≡ with_turn doing (called settings connection args depth)
    is_called = ap (λ found. option_map_or (λ connection. with_turn doing (called settings connection args depth)) found (puts [] doing)) standing

    -- a connection that finds no turn left is not called
    pub call_spent : doing.turns ≡ 0 → step settings (Call number args depth) doing ≡ puts [] (used_up doing)
    call_spent none = let is : (doing.turns == 0) ≡ true = grind (arith, nat_tests, none) in is_called ∙ cond-true (doing.turns == 0) _ _ is

    -- what becomes of the session: a turn is taken, and a single-shot connection is broken
    abbrev pub after : Execution
    after = single_shot_broken (turn_taken doing) connection

    -- a connection that stands takes a turn where one is left
    pub call_taken : 0 < doing.turns → step settings (Call number args depth) doing ≡ callee_called settings connection args depth after connection.callee
    call_taken some = let is : (doing.turns == 0) ≡ false = grind (arith, nat_tests, some) in is_called
        ∙ cond-false (doing.turns == 0) _ (called settings connection args depth (turn_taken doing)) is

module _ (settings : Settings) (target index sender : ℕ) (args : List Value) (depth : ℕ) (doing : Execution) where
  -- a slot that is there is told of, and does what its body says, one level deeper
  pub run_slot : (method : Method) → method_at settings doing.state target index ≡ Some method → step settings (Run target index sender args depth) doing
      ≡ puts (acts (acts_of method.body.actions) args target sender (depth + 1)) (line_told doing (call_line method target sender args))
  run_slot method has = ap (λ found. option_map_or (ran doing target sender args depth) found (puts [] doing)) has

module _ (settings : Settings) (target index sender connection : ℕ) (args : List Value) (depth : ℕ) (doing : Execution) where
  -- a functor that is not there runs nothing
  pub run_functor_absent : functor_at settings index ≡ None → step settings (RunFunctor target index sender connection args depth) doing ≡ puts [] doing
  run_functor_absent absent = ap (λ found. option_map_or (functor_ran doing target sender connection args depth) found (puts [] doing)) absent

  -- a functor that is there is told of, steps its connection's state, and does what its body says
  pub run_functor : (functor : Functor) → functor_at settings index ≡ Some functor
      → step settings (RunFunctor target index sender connection args depth) doing ≡ functor_ran doing target sender connection args depth functor
  run_functor functor has = ap (λ found. option_map_or (functor_ran doing target sender connection args depth) found (puts [] doing)) has

module _ (settings : Settings) (doing : Execution) where
  -- a warning and a reply are told
  pub warn_told : (code : Code) (object : Option ℕ) → step settings (Warn code object) doing ≡ puts [] (line_told doing (line.Warning code object))
  warn_told code object = refl

  pub warn_of_told : (at : Property) (error : BindingError) → step settings (WarnOf at error) doing
      ≡ puts [] (line_told doing (binding_line settings doing.state at error))
  warn_of_told at error = refl
