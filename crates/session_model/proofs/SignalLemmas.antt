-- The rule of each command for signals and slots: why it is refused, what it does where it is not, and what it
-- keeps of a session.
use Rattle.class_table.specs.Lookup.{method_number}
use Rattle.plain_types.specs.declared.connection_type.ConnectionType.{ConnectionType}
use Rattle.event_queue.specs.declared.event.Priority.{Priority}
use Rattle.plain_types.specs.declared.code.Code.TheVariants.{UniqueFunctor}
use Rattle.signature_core.specs.Reading.{signature_of}
use Rattle.std.proofs.Common.{Bool, Err, List, None, Ok, Option, Some, [], ap, cond, false, is_some, refl, slice_get, subst, true, ℕ, ◌==◌, ◌∙◌, ◌∷◌, ◌≡◌}
use Rattle.std.proofs.lemmas.Bool.{cond_both}
use Rattle.std.specs.Option.{option_and_then, option_or}
use Rattle.std.specs.Result.{result_err, result_unwrap_or}
use Rattle.session_model.proofs.Common.{has_number, NewConnection, object_refusal, is_there, Row, NoSuchObject, Data, Signature, AreArguments, absence}
use Rattle.session_model.proofs.Common.{with_turn, kinds_of, Asked, found_refusal, Execution, begun, does_next, replies, IsCall, IsFittingOperation, Run, puts}
use Rattle.session_model.proofs.Common.{Found, is_signal_at, method_named, methods_of, signal_named, ◌>>=◌, does_found, State}
use Rattle.session_model.proofs.Common.{Operation, Answer, Value}
use Rattle.session_model.proofs.ConnectionLemmas.{or_none}
use Rattle.session_model.proofs.FittingArgumentLemmas.{read_arguments}
use Rattle.session_model.proofs.FittingFoundLemmas.{connection_fits, operation_fits, functor_connection_fits, functor_there, named_method_there}
use Rattle.session_model.proofs.FoundLemmas.{found_past}
use Rattle.session_model.proofs.FittingFoundLemmas.{named_signal_there, numbered_there, pattern_fits}
use Rattle.session_model.proofs.KeepingLemmas.{Keeps, done, found_keeps, leaves_beside, nothing_begins, one_begins, replied, stays}
use Rattle.session_model.proofs.StateLemmas.{whole_with_event, whole_without_connections}
use Rattle.session_model.specs.Asked.{Connect, ConnectFunctor, Disconnect, DisconnectOne, Invoke}
use Rattle.session_model.specs.Execution.{turn_taken, used_up}
use Rattle.session_model.specs.Functors.{functor_named}
use Rattle.session_model.specs.Methods.{signature_in}
use Rattle.session_model.specs.Posting.{is_queued}
use Rattle.session_model.specs.Refusing.{later_refusal, refusal, values_refusal}
use Rattle.session_model.specs.Signals.{asked_connect, asked_connect_functor, asked_connection, asked_disconnect, asked_functor_connection, asked_method}
use Rattle.session_model.specs.Signals.{asked_pattern, asked_values, disconnects_one, invoked, invoked_later, invokes}
use Rattle.session_model.specs.Thread.{Settings, performs}
use Rattle.session_model.specs.declared.line.Answer.TheVariants as a
use Rattle.plain_types.specs.declared.callee.Callee.TheVariants as callee
use Rattle.session_model.specs.declared.operation.Operation.TheVariants as d
use Rattle.event_queue.specs.declared.event.Event.TheVariants as event
use Rattle.session_model.specs.Items as to_do
use Rattle.session_model.proofs.FittingClassLemmas.{fits_own}
use Rattle.session_model.proofs.FittingChangeLemmas.{fits_event, fits_without}

module _ (settings : Settings) (self : List ℕ) (state : State) where
  module _ (sender : ℕ) (signal : List ℕ) (receiver : ℕ) (method : List ℕ) (mode : ConnectionType) (unique single : Bool) where
    pub refusal_connect : refusal settings self state (Connect sender signal receiver method mode unique single)
        ≡ found_refusal state (asked_connect settings state sender signal receiver method mode unique single)
    unfolding refusal
    refusal_connect = refl

    pub performs_connect : performs settings self state (Connect sender signal receiver method mode unique single)
        ≡ does_found state (asked_connect settings state sender signal receiver method mode unique single)
    unfolding performs
    performs_connect = refl

    pub refusal_connect_functor : refusal settings self state (ConnectFunctor sender signal receiver method mode unique single)
        ≡ found_refusal state (asked_connect_functor settings state sender signal receiver method mode unique single)
    unfolding refusal
    refusal_connect_functor = refl

    pub performs_connect_functor : performs settings self state (ConnectFunctor sender signal receiver method mode unique single)
        ≡ does_found state (asked_connect_functor settings state sender signal receiver method mode unique single)
    unfolding performs
    performs_connect_functor = refl

  pub refusal_disconnect_one : (connection : ℕ) → refusal settings self state (DisconnectOne connection) ≡ None
  unfolding refusal
  refusal_disconnect_one connection = refl

  pub performs_disconnect_one : (connection : ℕ) → performs settings self state (DisconnectOne connection) ≡ disconnects_one state connection
  unfolding performs
  performs_disconnect_one connection = refl

  module _ (sender : ℕ) (signal : Option (List ℕ)) (receiver : Option ℕ) (method : Option (List ℕ)) where
    pub refusal_disconnect : refusal settings self state (Disconnect sender signal receiver method)
        ≡ found_refusal state (asked_disconnect settings state sender signal receiver method)
    unfolding refusal
    refusal_disconnect = refl

    pub performs_disconnect : performs settings self state (Disconnect sender signal receiver method)
        ≡ does_found state (asked_disconnect settings state sender signal receiver method)
    unfolding performs
    performs_disconnect = refl

  module _ (target : ℕ) (method : List ℕ) (args : List Data) (mode : ConnectionType) (priority : Priority) where
    abbrev invoke : Asked
    invoke = Invoke target method args mode priority

    pub refusal_invoke : refusal settings self state invoke
        ≡ option_or (absence state target) (option_or (result_err (signature_in method))
        (option_or (values_refusal settings state target args (asked_method settings state target method))
        (later_refusal state mode (asked_method settings state target method))))
    unfolding refusal
    refusal_invoke = refl

    pub performs_invoke : performs settings self state invoke ≡ invokes settings state target args mode priority (asked_method settings state target method)
    unfolding performs
    performs_invoke = refl

    -- an object that has no such method is told of as false
    pub invoke_none : asked_method settings state target method ≡ None → performs settings self state invoke ≡ replies state (a.Truth false)
    invoke_none none = performs_invoke ∙ ap (invokes settings state target args mode priority) none

is_present : (state : State) (target : ℕ) → absence state target ≡ None → is_there state.forest.rows target ≡ true
is_present state target passed = by (is_there state.forest.rows target) passed
  where
    by : (there : Bool) → cond there None (Some NoSuchObject) ≡ None → there ≡ true
    by true e = refl
    by false e = absurd (cc)

-- a turn that is taken or wanted changes neither the session nor what it posts
turn_state : (doing : Execution) → (turn_taken doing).state ≡ doing.state
unfolding turn_taken
turn_state doing = refl

turn_posts : (doing : Execution) → (turn_taken doing).posts ≡ doing.posts
unfolding turn_taken
turn_posts doing = refl

used_up_state : (doing : Execution) → (used_up doing).state ≡ doing.state
unfolding used_up
used_up_state doing = cond_both doing.spent doing _ (λ (new : Execution). new.state ≡ doing.state) (λ spent. refl) (λ fresh. refl)

used_up_posts : (doing : Execution) → (used_up doing).posts ≡ doing.posts
unfolding used_up
used_up_posts doing = cond_both doing.spent doing _ (λ (new : Execution). new.posts ≡ doing.posts) (λ spent. refl) (λ fresh. refl)

module _ (settings : Settings) (state : State) where
  abbrev rows : List Row
  rows = state.forest.rows

  module _ (sender : ℕ) (signal : List ℕ) (receiver : ℕ) (method : List ℕ) (mode : ConnectionType) (unique single : Bool) where
    pub connect_keeps : found_refusal state (asked_connect settings state sender signal receiver method mode unique single) ≡ None
        → Keeps settings state (Connect sender signal receiver method mode unique single)
        (does_found state (asked_connect settings state sender signal receiver method mode unique single))
    connect_keeps passed = found_keeps _ passed (λ operation e may.
        operation_fits settings rows (asked_connection settings state sender signal receiver method mode single) unique
        (connection_fits settings state sender (signal_named (methods_of settings state sender) signal)
        (named_signal_there (methods_of settings state sender) signal)
        receiver (method_named (methods_of settings state receiver) method) (named_method_there (methods_of settings state receiver) method) mode single)
        operation (found_past (object_refusal rows receiver) _ operation (found_past (object_refusal rows sender) _ operation e)))

    pub connect_functor_keeps : found_refusal state (asked_connect_functor settings state sender signal receiver method mode unique single) ≡ None
        → Keeps settings state (ConnectFunctor sender signal receiver method mode unique single)
        (does_found state (asked_connect_functor settings state sender signal receiver method mode unique single))
    connect_functor_keeps passed = found_keeps _ passed (λ operation e may.
        by operation unique (asked_functor_connection settings state sender signal receiver method mode single)
        (functor_connection_fits settings state sender (signal_named (methods_of settings state sender) signal)
        (named_signal_there (methods_of settings state sender) signal)
        receiver (functor_named settings method) (functor_there settings method) mode single)
        (found_past (object_refusal rows receiver) _ operation (found_past (object_refusal rows sender) _ operation e)))
      where
        by : (operation : Operation) (unique : Bool) (found : Found NewConnection)
            → ((new : NewConnection) → found ≡ Ok new → IsFittingOperation settings rows (d.Connect new false))
            → (found >>= λ new. cond unique (Err UniqueFunctor) (Ok (d.Connect new false))) ≡ Ok operation → IsFittingOperation settings rows operation
        by operation unique (Err code) fits e = absurd (cc)
        by operation true (Ok new) fits e = absurd (cc)
        by operation false (Ok new) fits e = let same : d.Connect new false ≡ operation = cc in subst (IsFittingOperation settings rows) same (fits new refl)

  pub disconnect_one_keeps : (connection : ℕ) → Keeps settings state (DisconnectOne connection) (disconnects_one state connection)
  disconnect_one_keeps connection = replied
      (leaves_beside (λ sound. whole_without_connections (has_number connection) sound.whole)
      (λ fit. fits_without state (has_number connection) (fits_own fit)))

  pub disconnect_keeps : (sender : ℕ) (signal : Option (List ℕ)) (receiver : Option ℕ) (method : Option (List ℕ))
      → found_refusal state (asked_disconnect settings state sender signal receiver method) ≡ None
      → Keeps settings state (Disconnect sender signal receiver method) (does_found state (asked_disconnect settings state sender signal receiver method))
  disconnect_keeps sender signal receiver method passed =
      found_keeps _ passed
      (λ operation e may. pattern_fits settings rows _ _ (asked_pattern settings state sender signal receiver method) operation e)

  -- a method is called with the values that are given, at once or by an event
  module _ (target : ℕ) (method : List ℕ) (args : List Data) (mode : ConnectionType) (priority : Priority) where
    module _ (index : ℕ) (values : List Value) (call : IsCall settings rows target (callee.Method index) values) where
      at_once : (answer : Answer) → Keeps settings state (Invoke target method args mode priority)
          (does_next settings (invoked settings state target index values) answer)
      at_once answer =
          let asked = Invoke target method args mode priority in
          let doing = begun settings state in
          let signal = to_do.Emit target index values 0 in
          let slot = Run target index 0 values 0 in
          cond_both (is_signal_at (methods_of settings state target) index) (puts (signal ∷ []) doing) (with_turn doing (puts (slot ∷ [])))
          (λ next. Keeps settings state asked (does_next settings next answer))
          (λ is. done (puts (signal ∷ []) doing) answer
          (one_begins refl refl refl (λ fits there. record { signal_there = is; arguments = call.arguments }) tt))
          (λ is. cond_both (doing.turns == 0) (puts [] (used_up doing)) (puts (slot ∷ []) (turn_taken doing))
          (λ next. Keeps settings state asked (does_next settings next answer))
          (λ none. done (puts [] (used_up doing)) answer
          (nothing_begins (used_up_state doing) (used_up_posts doing)))
          (λ some. done (puts (slot ∷ []) (turn_taken doing)) answer
          (one_begins (turn_state doing) (turn_posts doing) refl (λ fits there. call) tt)))

      later : is_there rows target ≡ true → Keeps settings state (Invoke target method args mode priority) (invoked_later state target index values priority)
      later there =
          let it = event.Call (record { object = target; callee = callee.Method index; sender = 0; connection = 0; priority = priority; args = values }) in
          replied (leaves_beside (λ sound. whole_with_event it there sound.whole) (λ fit. fits_event state it call (fits_own fit)))

    pub invoke_keeps : option_or (absence state target)
        (option_or (result_err (signature_in method))
        (option_or (values_refusal settings state target args (asked_method settings state target method))
        (later_refusal state mode (asked_method settings state target method)))) ≡ None
        → Keeps settings state (Invoke target method args mode priority)
        (invokes settings state target args mode priority (asked_method settings state target method))
    invoke_keeps passed = by (asked_method settings state target method) refl valued
      where
        present : absence state target ≡ None
        present = (or_none (absence state target) _ passed).0

        valued : values_refusal settings state target args (asked_method settings state target method) ≡ None
        valued = (or_none (values_refusal settings state target args (asked_method settings state target method)) _
            (or_none (result_err (signature_in method)) _ (or_none (absence state target) _ passed).1).1).0

        by : (index : Option ℕ) → asked_method settings state target method ≡ index → values_refusal settings state target args index ≡ None
            → Keeps settings state (Invoke target method args mode priority) (invokes settings state target args mode priority index)
        by None is fit = replied stays
        by (Some index) is fit =
            let values = result_unwrap_or (asked_values settings state target index args) [] in
            cond_both (is_queued mode) (invoked_later state target index values priority)
            (does_next settings (invoked settings state target index values) (a.Truth true))
            (Keeps settings state (Invoke target method args mode priority))
            (λ queued. later index values call (is_present state target present))
            (λ now. at_once index values call (a.Truth true))
          where
            there : is_some (slice_get (methods_of settings state target) index) ≡ true
            there = numbered (signature_of method) is
              where
                numbered : (signature : Option Signature) → option_and_then (λ signature. method_number signature (methods_of settings state target)) signature
                    ≡ Some index → is_some (slice_get (methods_of settings state target) index) ≡ true
                numbered None e = absurd (cc)
                numbered (Some signature) e = numbered_there (methods_of settings state target) signature index e

            given : AreArguments (kinds_of settings.classes rows target index) (result_unwrap_or (asked_values settings state target index args) [])
            given = read (asked_values settings state target index args) refl fit
              where
                read : (found : Found (List Value)) → asked_values settings state target index args ≡ found → result_err found ≡ None
                    → AreArguments (kinds_of settings.classes rows target index) (result_unwrap_or found [])
                read (Ok values) so e = read_arguments (kinds_of settings.classes rows target index) args values so
                read (Err code) so e = absurd (cc)

            call : IsCall settings rows target (callee.Method index) (result_unwrap_or (asked_values settings state target index args) [])
            call = record { callee = there; arguments = given }
