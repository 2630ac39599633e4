-- The command that calls a slot or sends a signal.
use Rattle.std.proofs.Common.{◌≡◌, ◌<◌, ◌-◌, ◌==◌, ◌&&◌, ℕ, Bool, true, false, cond, List, [], ◌∷◌, Option, Some, None, Result, Ok, Err, IsErrAnd, slice_get}
use Rattle.std.proofs.Common.{sym, ap, refl, if◌then◌else◌, ◌∙◌, arith}
use Rattle.std.proofs.lemmas.Bool.{cond-true, cond-false, cond_both}
use Rattle.std.proofs.lemmas.Bool.Decides.{nat_tests}
use Rattle.std.proofs.lemmas.List.Quantifiers.{position-Some}
use Rattle.std.proofs.lemmas.Option.{slice_get-get_or}
use Rattle.std.specs.Option.{ok_or, option_and_then, option_map_or, option_or}
use Rattle.std.specs.Result.{result_err, result_unwrap_or}
use Rattle.session_engine.proofs.Common.{Code, Fault, Memory, Refused, Answers, Data, Kind, Line, Post, method_items, Asked, line_told, does_next, ended, Item}
use Rattle.session_engine.proofs.Common.{Next, puts, Found, ◌>>=◌, run, Settings, State, at_end, Tables, state_at, SessionContext, CommandOutput, Performs}
use Rattle.session_engine.proofs.Common.{its_effect, its_refusal, reply_after, settings_of, doing_at, fresh_output, IsPrefix, front_same}
use Rattle.plain_types.specs.declared.code.Code.TheVariants.{BadSignature}
use Rattle.signature_core.specs.declared.signature.Signature.{Signature}
use Rattle.signature_core.specs.Reading.{signature_of}
use Rattle.variant_value.specs.declared.value.Value.{Value}
use Rattle.class_table.specs.declared.class.Method.{Method}
use Rattle.class_table.specs.Lookup.{is_same, method_number, methods}
use Rattle.event_queue.specs.declared.event.Priority.{Priority}
use Rattle.session_model.specs.declared.line.Answer.TheVariants as a
use Rattle.session_model.specs.declared.line.Line.TheVariants as line
use Rattle.session_model.specs.Absence.{absence}
use Rattle.session_model.specs.Agenda.{with_turn}
use Rattle.session_model.specs.Asked.{Invoke}
use Rattle.session_model.specs.Execution.{Execution, turn_taken, used_up}
use Rattle.session_model.specs.Items.{Emit, Run}
use Rattle.session_model.specs.Methods.{is_signal_at, kinds_at, method_at, methods_of, signature_in}
use Rattle.plain_types.specs.declared.connection_type.ConnectionType.{ConnectionType}
use Rattle.session_model.specs.Posting.{is_queued, enqueue_refusal}
use Rattle.session_model.specs.Refusing.{later_refusal, values_refusal}
use Rattle.session_model.specs.Signals.{asked_method, asked_values, invoked, invoked_later, invokes, values_of}
use Rattle.session_model.proofs.ForCallers.{performs_invoke, refusal_invoke, replies_last}
use Rattle.session_tables.specs.Classes.{HasClass}
use Rattle.session_effects.specs.Methods.{number_named}
use Rattle.session_effects.proofs.ForCallers.{methods_by_class}
use Rattle.session_engine.proofs.CommandsLemmas.{at_first_reaches, or_second, replied_last, starved_last}
use Rattle.dispatch.specs.Agenda.{RunsNext}

-- what a text names among the methods of an object's class
pub record IsAsked (settings : Settings) (state : State) (target : ℕ) (text : List ℕ) (number : Option ℕ) : Type 0 where
  pub signature : Signature
  pub spelled : ok_or (signature_of text) BadSignature ≡ Ok signature
  pub found : method_number signature (methods_of settings state target) ≡ number
  pub asked : asked_method settings state target text ≡ number

pub named_in : (settings : Settings) (state : State) (target class : ℕ) (text : List ℕ) (number : Option ℕ) → HasClass state target class
    → number_named (methods settings.classes class) text ≡ Ok number → IsAsked settings state target text number
named_in settings state target class text number has named = by (signature_of text) refl (rw (methods_by_class settings state target class has) named)
  where
    by : (read : Option Signature) → signature_of text ≡ read
        → (ok_or read BadSignature >>= λ signature. Ok (method_number signature (methods_of settings state target))) ≡ Ok number
        → IsAsked settings state target text number
    by None e named = absurd (cc)
    by (Some signature) e named =
        let found : method_number signature (methods_of settings state target) ≡ number = cc in
        record {
          signature = signature;
          spelled = ap (λ read. ok_or read BadSignature) e;
          found = found;
          asked = ap (option_and_then (λ signature. method_number signature (methods_of settings state target))) e ∙ found;
        }

-- where the signature is at fault, so is what it names
pub unread : (methods : List Method) (text : List ℕ) (fault : Fault) → Answers {T = Option ℕ} (Err fault) (number_named methods text)
    → Answers {T = Signature} (Err fault) (signature_in text)
unread methods text Memory why = tt
unread methods text (Refused code) why = by (signature_of text) why
  where
    by : (read : Option Signature) → (ok_or read BadSignature >>= λ signature. Ok (method_number signature methods)) ≡ Err code
        → ok_or read BadSignature ≡ Err code
    by None e = cc
    by (Some signature) e = absurd (cc)

-- a method of the object's class is one of the object
pub method_is : (settings : Settings) (state : State) (target class index : ℕ) (method : Method) → HasClass state target class
    → Some method ≡ slice_get (methods settings.classes class) index → Some method ≡ method_at settings state target index
method_is settings state target class index method has found = found
    ∙ ap (λ methods. slice_get methods index) (sym (methods_by_class settings state target class has))

pub kinds_are : (settings : Settings) (state : State) (target index : ℕ) (method : Method) → Some method ≡ method_at settings state target index
    → method.signature.kinds ≡ kinds_at (methods_of settings state target) index
kinds_are settings state target index method has = ap (λ (found : Option Method). option_map_or (λ method. method.signature.kinds) found []) has

-- a method that the text of a call names, of an object that is there, and what the arguments of the call become
pub record IsInvoked (caller : SessionContext) (object : ℕ) (text : List ℕ) (args : List Data) (old : Tables) (index : ℕ) (values : List Value)
    (method : Method) : Type 0 where
  pub there : None ≡ absence (state_at old caller.place) object
  pub named : IsAsked (settings_of caller.setup.now) (state_at old caller.place) object text (Some index)
  pub has : Some method ≡ method_at (settings_of caller.setup.now) (state_at old caller.place) object index
  pub given : asked_values (settings_of caller.setup.now) (state_at old caller.place) object index args ≡ Ok values

pub is_invoked : (caller : SessionContext) (object : ℕ) (text : List ℕ) (args : List Data) (old : Tables) (class index : ℕ) (found : Option ℕ)
    (method : Method) (kinds : List Kind) (values : List Value)
    → None ≡ absence (state_at old caller.place) object → HasClass (state_at old caller.place) object class
    → number_named (methods (settings_of caller.setup.now).classes class) text ≡ Ok found → found ≡ Some index
    → Some method ≡ slice_get (methods (settings_of caller.setup.now).classes class) index → kinds ≡ method.signature.kinds
    → values_of kinds args ≡ Ok values → IsInvoked caller object text args old index values method
is_invoked caller object text args old class index found method kinds values there class_has names is row kinds_is converted =
    let settings = settings_of caller.setup.now in
    let state = state_at old caller.place in
    let has = method_is settings state object class index method class_has row in
    record {
      there = there;
      named = named_in settings state object class text (Some index) class_has (names ∙ ap Ok is);
      has = has;
      given = ap (λ kinds. values_of kinds args) (sym (kinds_is ∙ kinds_are settings state object index method has)) ∙ converted;
    }

-- a method that is called at once: a slot takes a turn for that
abbrev pub called_now : Bool → List Item → Execution → Next
called_now signal items doing = if signal then puts items doing else with_turn doing (puts items)

invoked_is : (settings : Settings) (place : ℕ) (tables : Tables) (output : CommandOutput) (object index : ℕ) (values : List Value) (method : Method)
    → output ≡ fresh_output settings.turns → Some method ≡ method_at settings (state_at tables place) object index
    → called_now method.is_signal (method_items object index 0 values 0 0 method) (doing_at place tables output [])
    ≡ invoked settings (state_at tables place) object index values
invoked_is settings place tables output object index values method fresh has =
    by method.is_signal (doing_at place tables output [])
    ∙ ap (λ (found : Option Method). now (option_map_or (λ method. method.is_signal) found false) (doing_at place tables output [])) has
    ∙ ap (λ (output : CommandOutput). now (is_signal_at (methods_of settings (state_at tables place) object) index) (doing_at place tables output [])) fresh
  where
    now : Bool → Execution → Next
    now signal doing = if signal then puts (Emit object index values 0 ∷ []) doing else with_turn doing (puts (Run object index 0 values 0 ∷ []))

    by : (signal : Bool) (doing : Execution) → called_now signal (if signal then Emit object index values 0 ∷ [] else Run object index 0 values 0 ∷ []) doing
        ≡ now signal doing
    by true doing = refl
    by false doing = refl

-- it goes by whether it is a signal, and by the turns that are left
module _ (settings : Settings) (items : List Item) (doing : Execution) where
  abbrev runs : Bool → Execution
  runs signal = let next = called_now signal items doing in run settings next.items next.doing

  used_front : IsPrefix doing.posts (used_up doing).posts
  unfolding used_up
  used_front = cond_both doing.spent doing _ (λ (new : Execution). IsPrefix doing.posts new.posts) (λ spent. front_same doing.posts)
      (λ fresh. front_same doing.posts)

  pub now_front : (signal : Bool) → IsPrefix doing.posts (called_now signal items doing).doing.posts
  unfolding turn_taken
  now_front true = front_same doing.posts
  now_front false = by (doing.turns == 0)
    where
      by : (none : Bool) → IsPrefix doing.posts (cond none (puts [] (used_up doing)) (puts items (turn_taken doing))).doing.posts
      by true = used_front
      by false = front_same doing.posts

  pub now_spent : (signal : Bool) → signal ≡ false → doing.turns ≡ 0 → runs signal ≡ used_up doing
  now_spent signal slot none =
      let is : (doing.turns == 0) ≡ true = grind (arith, nat_tests, none) in
      ap runs slot ∙ ap (λ (next : Next). run settings next.items next.doing) (cond-true (doing.turns == 0) _ _ is) ∙ at_end settings (used_up doing)

  pub now_run : (signal : Bool) → signal ≡ false → 0 < doing.turns → (done : Execution) → run settings items (record doing { turns = doing.turns - 1 }) ≡ done
      → runs signal ≡ done
  unfolding turn_taken
  now_run signal slot some done does =
      let is : (doing.turns == 0) ≡ false = grind (arith, nat_tests, some) in
      ap runs slot ∙ ap (λ (next : Next). run settings next.items next.doing) (cond-false (doing.turns == 0) _ _ is) ∙ does

  pub now_sent : (signal : Bool) → signal ≡ true → (done : Execution) → run settings items doing ≡ done → runs signal ≡ done
  now_sent signal sent done does = ap runs sent ∙ does

-- what a call of a method comes to
module _ (caller : SessionContext) (object : ℕ) (text : List ℕ) (args : List Data) (mode : ConnectionType) (priority : Priority) (old : Tables) where
  abbrev the_settings : Settings
  the_settings = settings_of caller.setup.now

  abbrev the_state : State
  the_state = state_at old caller.place

  abbrev the_call : Asked
  the_call = Invoke object text args mode priority

  abbrev the_refusal : Option Code
  the_refusal = its_refusal caller the_call old

  -- why it is refused goes by the method that is found
  pub refusal_found : (found : Option ℕ) → None ≡ absence the_state object → IsAsked the_settings the_state object text found
      → the_refusal ≡ option_or (values_refusal the_settings the_state object args found) (later_refusal the_state mode found)
  refusal_found found there named =
      refusal_invoke the_settings caller.name.now the_state object text args mode priority ∙ or_second _ _ there
      ∙ (λ i. option_or (result_err (named.spelled i))
      (option_or (values_refusal the_settings the_state object args (named.asked i)) (later_refusal the_state mode (named.asked i))))

  -- where there is none it is not refused
  pub refusal_absent : None ≡ absence the_state object → IsAsked the_settings the_state object text None → the_refusal ≡ None
  refusal_absent there named = refusal_found None there named ∙ by (is_queued mode)
    where
      by : (b : Bool) → cond (b && false) (enqueue_refusal the_state.queue) None ≡ None
      by true = refl
      by false = refl

  module _ {index : ℕ} {values : List Value} {method : Method} (it : IsInvoked caller object text args old index values method) where
    refusal_given : the_refusal ≡ later_refusal the_state mode (Some index)
    refusal_given = refusal_found (Some index) it.there it.named
        ∙ ap (λ (given : Found (List Value)). option_or (result_err given) (later_refusal the_state mode (Some index))) it.given

    -- one that is made at once is not refused any more
    refusal_now : is_queued mode ≡ false → the_refusal ≡ None
    refusal_now at_once = refusal_given ∙ ap (λ (b : Bool). cond (b && true) (enqueue_refusal the_state.queue) None) at_once

    -- and one that is made later where it cannot be posted
    pub refusal_later : is_queued mode ≡ true → the_refusal ≡ enqueue_refusal the_state.queue
    refusal_later later = refusal_given ∙ ap (λ (b : Bool). cond (b && true) (enqueue_refusal the_state.queue) None) later

    -- it is posted then, and replied at once
    pub posts_invoked : is_queued mode ≡ true → its_effect caller the_call old ≡ invoked_later the_state object index values priority
    posts_invoked later =
        performs_invoke the_settings caller.name.now the_state object text args mode priority
        ∙ ap (invokes the_settings the_state object args mode priority) it.named.asked
        ∙ cond-true (is_queued mode) _ _ later
        ∙ ap (λ (given : Found (List Value)). invoked_later the_state object index (result_unwrap_or given []) priority) it.given

    -- what is invoked at once tells its reply last
    module _ (new : Tables) (before after : CommandOutput) (fresh : before ≡ fresh_output caller.setup.now.turns) (at_once : is_queued mode ≡ false) where
      abbrev the_start : List Post → Next
      the_start earlier = called_now method.is_signal (method_items object index 0 values 0 0 method) (doing_at caller.place old before earlier)

      invoke_runs : its_effect caller the_call old
          ≡ ended (line_told (run the_settings (the_start []).items (the_start []).doing) (line.Reply (a.Truth true)))
      invoke_runs =
          performs_invoke the_settings caller.name.now the_state object text args mode priority
          ∙ ap (invokes the_settings the_state object args mode priority) it.named.asked
          ∙ cond-false (is_queued mode) _ _ at_once
          ∙ ap (λ (given : Found (List Value)). does_next the_settings (invoked the_settings the_state object index (result_unwrap_or given []))
          (a.Truth true)) it.given
          ∙ replies_last the_settings (invoked the_settings the_state object index values) (a.Truth true)
          ∙ ap (λ (next : Next). ended (line_told (run the_settings next.items next.doing) (line.Reply (a.Truth true))))
          (sym (invoked_is the_settings caller.place old before object index values method fresh it.has))

      -- so it is performed
      pub performs_invoked : {T E : Type 0} (value : T) → RunsNext {E = E} caller the_start old new before after (Ok value)
          → Performs caller the_call old new after.failing (reply_after after.lines) (Ok (a.Truth true))
      performs_invoked value does =
          replied_last after (refusal_now at_once)
          (invoke_runs ∙ ap (λ done. ended (line_told done (line.Reply (a.Truth true)))) (does.runs []))
          (at_first_reaches caller old new before after does.posts fresh does.reaches)

      -- also where memory was wanted
      pub starved_invoked : {T E U : Type 0} (error : E) (lines : U → List Line) (result : Result U Fault) → IsErrAnd result (λ fault. fault ≡ Memory)
          → RunsNext {T = T} caller the_start old new before after (Err error) → Performs caller the_call old new after.failing lines result
      starved_invoked error lines result wanted does =
          starved_last after does.posts _ _ result wanted (refusal_now at_once) invoke_runs (does.front [])
          (at_first_reaches caller old new before after does.posts fresh does.reaches)

-- a method that has a number is there
pub method_there : (settings : Settings) (state : State) (target class : ℕ) (signature : Signature) (index : ℕ) → HasClass state target class
    → method_number signature (methods_of settings state target) ≡ Some index → None ≡ slice_get (methods settings.classes class) index → ⊥
method_there settings state target class signature index has found none =
    by (methods settings.classes class) (ap (method_number signature) (sym (methods_by_class settings state target class has)) ∙ found) none
  where
    by : (methods : List Method) → method_number signature methods ≡ Some index → ◌≡◌ {A = Option Method} None (slice_get methods index) → ⊥
    by [] found none = absurd (cc)
    by (first ∷ rest) found none =
        let there = slice_get-get_or (first ∷ rest) index first
        (position-Some (λ (method : Method). is_same method.signature signature) (first ∷ rest) index first found).0 in
        absurd (cc)
