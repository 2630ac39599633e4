-- What an item may come to: the step of an item goes one of few ways, and what holds of each way holds of the step.
use Rattle.std.proofs.Common.{◌≡◌, ◌+◌, ◌==◌, ℕ, Bool, true, false, List, [], ◌∷◌, ◌++◌, Option, Some, None, Ok, Err, length, nat_le, refl, take}
use Rattle.std.proofs.Common.{if◌then◌else◌}
use Rattle.std.proofs.lemmas.Bool.{cond_both}
use Rattle.plain_types.specs.declared.callee.Callee.TheVariants as callee
use Rattle.event_queue.specs.declared.event.Event.TheVariants as event
use Rattle.session_model.specs.declared.call.TheConstants.{NESTED_SIGNALS}
use Rattle.session_model.specs.declared.line.Answer.TheVariants as a
use Rattle.session_model.specs.declared.line.Line.TheVariants as line
use Rattle.session_model.specs.Agenda.{binding_line, callee_called, connection_of, functor_called}
use Rattle.session_model.specs.Agenda.{is_held_back, lives_below, method_called, spun}
use Rattle.session_model.specs.Execution.{dying, first_taken, lost, enqueued, posting, single_shot_broken, stepped, line_told}
use Rattle.session_model.specs.Execution.{turn_taken, used_up, severed}
use Rattle.session_model.specs.Items.{Reply, ReplySpun}
use Rattle.session_model.specs.Posting.{is_queued, spin_of}
use Rattle.std.specs.Option.{option_map_or, option_or, unwrap_or}
use Rattle.std.specs.Result.{result_err}
use Rattle.session_model.proofs.Common.{Value, Acts, single_action, when, after, Method, Callee, Connection, Event, QueuedCall, has_room, Row, row_of, Functor}
use Rattle.session_model.proofs.Common.{DESTROYED, Operation, Line, Post, posts_of, call_line, called, calls_of, emitted, event_items, functor_line}
use Rattle.session_model.proofs.Common.{functor_ran, lives, queued, ran, step, with_turn, Execution, in_state, Act, Call, Detach, Delete, Emit, Remove, Item}
use Rattle.session_model.proofs.Common.{DeleteChild, Next, Run, RunFunctor, Spin, Warn, WarnOf, puts, functor_at, Settings, functor_state, without_object, Code}
use Rattle.session_model.proofs.Common.{Limit, NoSuchObject, TurnsUsedUp, Signature, SingleAction, Target, Term, object_refusal, absence, act_operation, acts}
use Rattle.session_model.proofs.Common.{branch, chosen, emission, warns_or, with_found, delete_children, method_items, found_refusal, operation_refusal}
use Rattle.session_model.proofs.Common.{with_operation, Found, method_at, ◌>>=◌, comes_to, evaluated, object_of, truth_evaluated, Writing, acted_writing}
use Rattle.session_model.proofs.Common.{with_writing, written, has_number, marked, State, with_event, with_functor_state, with_lost, without_connections}
use Rattle.session_model.proofs.Common.{without_first, Warning}
use Rattle.term_core.specs.declared.action.SingleAction.TheVariants as e
use Rattle.term_core.specs.Act as term
use Rattle.session_model.specs.Acts.{act_refusal, acted}
use Rattle.session_model.specs.Agenda.{queued_call}
use Rattle.session_model.specs.Operations.{operation_done}
use Rattle.session_model.specs.State.{without_ties}

-- an item that neither removes an object nor breaks what ties it to others
abbrev pub leaves_ties : Item → Bool
leaves_ties (Detach target depth) = false
leaves_ties (Remove target depth) = false
leaves_ties _ = true

-- a connection that exists is called, and a turn is left for it
pub record IsCalled (number : ℕ) (doing : Execution) (connection : Connection) : Type 0 where
  pub found : connection_of doing number ≡ Some connection
  pub turn : (doing.turns == 0) ≡ false

-- the session when its callee is called
abbrev pub in_call : Execution → Connection → Execution
in_call doing connection = single_shot_broken (turn_taken doing) connection

-- the call of a connection's method, and that of its functor: as an event, and as what is done at once
abbrev pub method_call : Connection → ℕ → Method → List Value → QueuedCall
method_call connection index method args = queued_call connection (callee.Method index) (take (length method.signature.kinds) args)

abbrev pub functor_call : Connection → ℕ → Functor → List Value → QueuedCall
functor_call connection index functor args = queued_call connection (callee.Functor index) (take (length functor.params) args)

abbrev pub method_now : Connection → ℕ → Method → List Value → ℕ → List Item
method_now connection index method args depth =
    method_items connection.receiver index connection.sender (take (length method.signature.kinds) args) (depth + 1) depth method

abbrev pub functor_now : Connection → ℕ → Functor → List Value → ℕ → List Item
functor_now connection index functor args depth =
    RunFunctor connection.receiver index connection.sender connection.number (take (length functor.params) args) depth ∷ []

-- what holds of each way that the step of an item may go holds of the step
pub record Cases (settings : Settings) (doing : Execution) (P : Item → Next → Type 0) : Type 0 where
  -- nothing is done, a line is told, or no turn is left
  pub rests : (item : Item) → leaves_ties item ≡ true → P item (puts [] doing)
  pub tells : (item : Item) (said : Line) → leaves_ties item ≡ true → P item (puts [] (line_told doing said))
  pub uses_up : (item : Item) → leaves_ties item ≡ true → P item (puts [] (used_up doing))
  -- a signal is nested too deep, or sent
  pub too_deep : (target signal : ℕ) (args : List Value) (depth : ℕ) → P (Emit target signal args depth) (puts (Warn Limit (Some target) ∷ []) doing)
  pub sends : (target signal : ℕ) (args : List Value) (depth : ℕ) (row : Row) → row_of doing.state.forest.rows target ≡ Some row
      → P (Emit target signal args depth)
      (puts (calls_of doing target signal args depth) (posting doing (posts_of settings.classes doing.state target signal args)))
  -- a connection is called whose callee is gone, or a method or functor, later or at once
  pub callee_gone : (number : ℕ) (args : List Value) (depth : ℕ) (connection : Connection) → IsCalled number doing connection
      → P (Call number args depth) (puts [] (in_call doing connection))
  pub calls_method : (number : ℕ) (args : List Value) (depth : ℕ) (connection : Connection) → IsCalled number doing connection
      → (index : ℕ) (method : Method) → connection.callee ≡ callee.Method index
      → method_at settings (in_call doing connection).state connection.receiver index ≡ Some method
      → P (Call number args depth) (puts [] (queued (in_call doing connection) (method_call connection index method args)))
      × P (Call number args depth) (puts (method_now connection index method args depth) (in_call doing connection))
  pub calls_functor : (number : ℕ) (args : List Value) (depth : ℕ) (connection : Connection) → IsCalled number doing connection
      → (index : ℕ) (functor : Functor) → connection.callee ≡ callee.Functor index → functor_at settings index ≡ Some functor
      → P (Call number args depth) (puts [] (queued (in_call doing connection) (functor_call connection index functor args)))
      × P (Call number args depth) (puts (functor_now connection index functor args depth) (in_call doing connection))
  -- a slot or a functor is run
  pub runs : (target index sender : ℕ) (args : List Value) (depth : ℕ) (method : Method)
      → method_at settings doing.state target index ≡ Some method
      → P (Run target index sender args depth) (ran doing target sender args depth method)
  pub runs_functor : (target index sender connection : ℕ) (args : List Value) (depth : ℕ) (functor : Functor)
      → functor_at settings index ≡ Some functor
      → P (RunFunctor target index sender connection args depth) (functor_ran doing target sender connection args depth functor)
  -- an action is refused, or sends a signal, deletes an object, writes a property, does an operation, or chooses a branch
  pub refused : (action : term.Act) (args : List Value) (self sender depth : ℕ) (code : Code)
      → P (Act action args self sender depth) (puts (Warn code (Some self) ∷ []) doing)
  pub emits : (of : Target) (signal : Signature) (sent : List Term) (args : List Value) (self sender depth : ℕ)
      (emitted : ℕ × List Value) → emission settings doing.state self sender args (object_of doing.state self sender of) signal sent ≡ Ok emitted
      → P (Act (single_action (e.Emit of signal sent)) args self sender depth)
      (puts (Emit (object_of doing.state self sender of) emitted.0 emitted.1 depth ∷ []) doing)
  pub deletes : (target : Target) (args : List Value) (self sender depth : ℕ)
      → P (Act (single_action (e.Delete target)) args self sender depth) (puts (Delete (object_of doing.state self sender target) depth ∷ []) doing)
  pub writes : (of : Target) (property : List ℕ) (value : Term) (args : List Value) (self sender depth : ℕ)
      (given : Value) (writing : Writing) → acted_writing doing.state (object_of doing.state self sender of) property given ≡ Ok writing
      → P (Act (single_action (e.Set of property value)) args self sender depth)
      (written settings doing (object_of doing.state self sender of) depth writing)
  pub does : (plain : SingleAction) (args : List Value) (self sender depth : ℕ) (operation : Operation)
      → act_operation settings doing.state self sender plain ≡ Some (Ok operation) → operation_refusal doing.state operation ≡ None
      → P (Act (single_action plain) args self sender depth) (puts [] (operation_done doing operation))
  pub chooses : (test : Term) (held failed : Acts) (args : List Value) (self sender depth : ℕ) (truth : Bool)
      → P (Act (when test held failed) args self sender depth) (puts (acts (branch truth held failed) args self sender depth) doing)
  -- an object begins to die, is cut off, has a child deleted, or is removed
  pub dies : (target depth : ℕ) → lives doing target ≡ true
      → P (Delete target depth) (puts (Emit target DESTROYED [] depth ∷ Detach target depth ∷ Remove target depth ∷ []) (dying doing target))
  pub detaches : (target depth : ℕ) → P (Detach target depth) (puts (delete_children doing target depth) (severed doing target))
  pub deletes_child : (parent child depth : ℕ) → P (DeleteChild parent child depth) (puts (Delete child depth ∷ []) doing)
  pub removes : (target depth : ℕ) → P (Remove target depth) (comes_to settings doing depth (without_object doing.state target) None)
  -- an event is taken
  pub takes : (first : Event) (later : List Event) → doing.state.queue.events ≡ first ∷ later → (doing.turns == 0) ≡ false
      → P Spin (puts (event_items settings (turn_taken doing).state first ++ Spin ∷ []) (first_taken (turn_taken doing)))

module _ (settings : Settings) (doing : Execution) (P : Item → Next → Type 0) (cases : Cases settings doing P) where
  emission_cases : (target signal : ℕ) (args : List Value) (depth : ℕ) (found : Option Row) → row_of doing.state.forest.rows target ≡ found
      → P (Emit target signal args depth) (option_map_or (emitted settings doing target signal args depth) found (puts [] doing))
  emission_cases target signal args depth None is = cases.rests (Emit target signal args depth) refl
  emission_cases target signal args depth (Some row) is =
      let deep = puts (Warn Limit (Some target) ∷ []) doing in
      let sent = puts (calls_of doing target signal args depth) (posting doing (posts_of settings.classes doing.state target signal args)) in
      cond_both (is_held_back signal row) (puts [] doing) (if nat_le NESTED_SIGNALS depth then deep else sent) (P (Emit target signal args depth))
      (λ held. cases.rests (Emit target signal args depth) refl)
      (λ free. cond_both (nat_le NESTED_SIGNALS depth) deep sent (P (Emit target signal args depth))
      (λ nested. cases.too_deep target signal args depth) (λ shallow. cases.sends target signal args depth row is))

  module _ (number : ℕ) (args : List Value) (depth : ℕ) where
    later_or_now : (connection : Connection) (later now : Next) → P (Call number args depth) later × P (Call number args depth) now
        → P (Call number args depth) (if is_queued connection.mode then later else now)
    later_or_now connection later now both =
        cond_both (is_queued connection.mode) later now (P (Call number args depth)) (λ queues. both.0) (λ direct. both.1)

    callee_cases : (connection : Connection) → IsCalled number doing connection → (to : Callee) → connection.callee ≡ to
        → P (Call number args depth) (callee_called settings connection args depth (in_call doing connection) to)
    callee_cases connection is (callee.Functor index) to = by (functor_at settings index) refl
      where
        by : (found : Option Functor) → functor_at settings index ≡ found → P (Call number args depth)
            (option_map_or (functor_called connection index args depth (in_call doing connection)) found (puts [] (in_call doing connection)))
        by None e = cases.callee_gone number args depth connection is
        by (Some functor) e = later_or_now connection _ _ (cases.calls_functor number args depth connection is index functor to e)
    callee_cases connection is (callee.Method index) to = by (method_at settings (in_call doing connection).state connection.receiver index) refl
      where
        by : (found : Option Method) → method_at settings (in_call doing connection).state connection.receiver index ≡ found → P (Call number args depth)
            (option_map_or (method_called connection index args depth (in_call doing connection)) found (puts [] (in_call doing connection)))
        by None e = cases.callee_gone number args depth connection is
        by (Some method) e = later_or_now connection _ _ (cases.calls_method number args depth connection is index method to e)

    call_cases : (found : Option Connection) → connection_of doing number ≡ found
        → P (Call number args depth) (option_map_or (λ connection. with_turn doing (called settings connection args depth)) found (puts [] doing))
    call_cases None is = cases.rests (Call number args depth) refl
    call_cases (Some connection) is =
        cond_both (doing.turns == 0) (puts [] (used_up doing)) (called settings connection args depth (turn_taken doing)) (P (Call number args depth))
        (λ none. cases.uses_up (Call number args depth) refl)
        (λ some. callee_cases connection (record { found = is; turn = some }) connection.callee refl)

  spin_cases : (events : List Event) → doing.state.queue.events ≡ events → P Spin (spun settings doing events)
  spin_cases [] is = cases.rests Spin refl
  spin_cases (first ∷ later) is = cond_both (doing.turns == 0) (puts [] (used_up doing))
      (puts (event_items settings (turn_taken doing).state first ++ Spin ∷ []) (first_taken (turn_taken doing))) (P Spin)
      (λ none. cases.uses_up Spin refl) (λ some. cases.takes first later is some)

  run_cases : (target index sender : ℕ) (args : List Value) (depth : ℕ) (found : Option Method)
      → method_at settings doing.state target index ≡ found
      → P (Run target index sender args depth) (option_map_or (ran doing target sender args depth) found (puts [] doing))
  run_cases target index sender args depth None is = cases.rests (Run target index sender args depth) refl
  run_cases target index sender args depth (Some method) is = cases.runs target index sender args depth method is

  functor_cases : (target index sender connection : ℕ) (args : List Value) (depth : ℕ) (found : Option Functor)
      → functor_at settings index ≡ found → P (RunFunctor target index sender connection args depth)
      (option_map_or (functor_ran doing target sender connection args depth) found (puts [] doing))
  functor_cases target index sender connection args depth None is = cases.rests (RunFunctor target index sender connection args depth) refl
  functor_cases target index sender connection args depth (Some functor) is =
      cases.runs_functor target index sender connection args depth functor is

  module _ (args : List Value) (self sender depth : ℕ) where
    abbrev Acted : SingleAction → Next → Type 0
    Acted plain next = P (Act (single_action plain) args self sender depth) next

    abbrev object : Target → ℕ
    object of = object_of doing.state self sender of

    warns : (plain : SingleAction) (code : Code) → Acted plain (puts (Warn code (Some self) ∷ []) doing)
    warns plain code = cases.refused (single_action plain) args self sender depth code

    writes_found : (of : Target) (property : List ℕ) (value : Term) (absent : Option Code) (given : Found Value) → Acted (e.Set of property value)
        (warns_or (option_or absent (result_err (given >>= acted_writing doing.state (object of) property))) self doing
        (with_found (given >>= acted_writing doing.state (object of) property) (λ writing. written settings doing (object of) depth writing) doing))
    writes_found of property value (Some code) given = warns (e.Set of property value) code
    writes_found of property value None (Err code) = warns (e.Set of property value) code
    writes_found of property value None (Ok given) = by (acted_writing doing.state (object of) property given) refl
      where
        by : (found : Found Writing) → acted_writing doing.state (object of) property given ≡ found → Acted (e.Set of property value)
            (warns_or (result_err found) self doing (with_found found (λ writing. written settings doing (object of) depth writing) doing))
        by (Ok writing) is = cases.writes of property value args self sender depth given writing is
        by (Err code) is = warns (e.Set of property value) code

    emits_found : (of : Target) (signal : Signature) (sent : List Term) (absent : Option Code) (found : Found (ℕ × List Value))
        → emission settings doing.state self sender args (object of) signal sent ≡ found → Acted (e.Emit of signal sent)
        (warns_or (option_or absent (result_err found)) self doing
        (with_found found (λ emitted. puts (Emit (object of) emitted.0 emitted.1 depth ∷ []) doing) doing))
    emits_found of signal sent (Some code) found is = warns (e.Emit of signal sent) code
    emits_found of signal sent None (Ok emitted) is = cases.emits of signal sent args self sender depth emitted is
    emits_found of signal sent None (Err code) is = warns (e.Emit of signal sent) code

    deletes_by : (target : Target) (refusal : Option Code)
        → Acted (e.Delete target) (warns_or refusal self doing (puts (Delete (object target) depth ∷ []) doing))
    deletes_by target (Some code) = warns (e.Delete target) code
    deletes_by target None = cases.deletes target args self sender depth

    does_found : (plain : SingleAction) (found : Found Operation) → act_operation settings doing.state self sender plain ≡ Some found → Acted plain
        (warns_or (found_refusal doing.state found) self doing (with_found found (λ operation. puts [] (operation_done doing operation)) doing))
    does_found plain (Err code) is = warns plain code
    does_found plain (Ok operation) is = by (operation_refusal doing.state operation) refl
      where
        by : (refusal : Option Code) → operation_refusal doing.state operation ≡ refusal
            → Acted plain (warns_or refusal self doing (puts [] (operation_done doing operation)))
        by (Some code) refused = warns plain code
        by None passed = cases.does plain args self sender depth operation is passed

    act_cases : (plain : SingleAction)
        → Acted plain (warns_or (act_refusal settings doing.state self sender args plain) self doing (acted settings doing self sender args depth plain))
    act_cases (e.Set of property value) =
        writes_found of property value (absence doing.state (object of)) (evaluated doing.state self sender args value)
    act_cases (e.Emit of signal sent) = emits_found of signal sent (absence doing.state (object of))
        (emission settings doing.state self sender args (object of) signal sent) refl
    act_cases (e.Delete target) = deletes_by target (object_refusal doing.state.forest.rows (object target))
    act_cases plain = does_found plain (unwrap_or (act_operation settings doing.state self sender plain) (Err NoSuchObject)) refl

    choice_cases : (test : Term) (held failed : Acts) (truth : Found Bool)
        → P (Act (when test held failed) args self sender depth) (chosen truth held failed args self sender depth doing)
    choice_cases test held failed (Ok truth) = cases.chooses test held failed args self sender depth truth
    choice_cases test held failed (Err code) = cases.refused (when test held failed) args self sender depth code

  pub step_cases : (item : Item) → P item (step settings item doing)
  step_cases (Emit target signal args depth) = emission_cases target signal args depth (row_of doing.state.forest.rows target) refl
  step_cases (Call number args depth) = call_cases number args depth (connection_of doing number) refl
  step_cases (Run target index sender args depth) =
      run_cases target index sender args depth (method_at settings doing.state target index) refl
  step_cases (RunFunctor target index sender connection args depth) =
      functor_cases target index sender connection args depth (functor_at settings index) refl
  step_cases (Act (single_action plain) args self sender depth) = act_cases args self sender depth plain
  step_cases (Act (when test held failed) args self sender depth) =
      choice_cases args self sender depth test held failed (truth_evaluated doing.state self sender args test)
  step_cases (Warn code object) = cases.tells (Warn code object) (line.Warning code object) refl
  step_cases (WarnOf at error) = cases.tells (WarnOf at error) (binding_line settings doing.state at error) refl
  step_cases (Delete target depth) =
      cond_both (lives doing target) (puts (Emit target DESTROYED [] depth ∷ Detach target depth ∷ Remove target depth ∷ []) (dying doing target))
      (puts [] doing) (P (Delete target depth))
      (λ living. cases.dies target depth living) (λ absent. cases.rests (Delete target depth) refl)
  step_cases (Detach target depth) = cases.detaches target depth
  step_cases (DeleteChild parent child depth) =
      cond_both (lives_below doing parent child) (puts (Delete child depth ∷ []) doing) (puts [] doing) (P (DeleteChild parent child depth))
      (λ living. cases.deletes_child parent child depth) (λ other. cases.rests (DeleteChild parent child depth) refl)
  step_cases (Remove target depth) = cases.removes target depth
  step_cases Spin = spin_cases doing.state.queue.events refl
  step_cases (Reply answer) = cases.tells (Reply answer) (line.Reply answer) refl
  step_cases ReplySpun = cases.tells ReplySpun (line.Reply (a.Spun (spin_of doing))) refl

-- what holds between a session before each change and after it, and of one change after another
pub record Holds (R : Execution → Execution → Type 0) : Type 0 where
  pub same : (doing : Execution) → R doing doing
  pub both : (one two three : Execution) → R one two → R two three → R one three
  pub tells : (doing : Execution) (said : Line) → R doing (line_told doing said)
  pub publishes : (doing : Execution) (more : List Post) → R doing (posting doing more)
  pub takes_turn : (doing : Execution) → R doing (turn_taken doing)
  pub uses_up : (doing : Execution) → R doing (used_up doing)
  pub shoots : (doing : Execution) (row : Connection) → R doing (single_shot_broken doing row)
  pub posts : (doing : Execution) (event : Event) → R doing (enqueued doing event)
  pub loses : (doing : Execution) → R doing (lost doing)
  pub takes : (doing : Execution) → R doing (first_taken doing)
  pub does : (doing : Execution) (operation : Operation) → R doing (operation_done doing operation)
  pub writes : (doing : Execution) (target : ℕ) (writing : Writing) → R doing (in_state doing (with_writing doing.state target writing))
  pub marks : (doing : Execution) (target : ℕ) → R doing (dying doing target)
  pub severs : (doing : Execution) (target : ℕ) → R doing (severed doing target)
  pub goes : (doing : Execution) (target : ℕ) → R doing (in_state doing (without_object doing.state target))
  pub steps : (doing : Execution) (number next : ℕ) → R doing (stepped doing number next)

module _ (settings : Settings) (R : Execution → Execution → Type 0) (holds : Holds R) (doing : Execution) where
  in_call_holds : (connection : Connection) → R doing (in_call doing connection)
  in_call_holds connection =
      holds.both doing (turn_taken doing) (in_call doing connection) (holds.takes_turn doing) (holds.shoots (turn_taken doing) connection)

  queued_holds : (connection : Connection) (call : QueuedCall) → R doing (queued (in_call doing connection) call)
  queued_holds connection call =
      let new = in_call doing connection in
      holds.both doing new (queued new call) (in_call_holds connection)
      (cond_both (has_room new.state.queue) (enqueued new (event.Call call)) (lost new) (R new) (λ room. holds.posts new (event.Call call))
      (λ full. holds.loses new))

  holds_cases : Cases settings doing (λ item next. R doing next.doing)
  holds_cases = record {
    rests = λ item plain. holds.same doing;
    tells = λ item said plain. holds.tells doing said;
    uses_up = λ item plain. holds.uses_up doing;
    too_deep = λ target signal args depth. holds.same doing;
    sends = λ target signal args depth row is. holds.publishes doing (posts_of settings.classes doing.state target signal args);
    callee_gone = λ number args depth connection is. in_call_holds connection;
    calls_method = λ number args depth connection is index method to found.
        (queued_holds connection (method_call connection index method args), in_call_holds connection);
    calls_functor = λ number args depth connection is index functor to found.
        (queued_holds connection (functor_call connection index functor args), in_call_holds connection);
    runs = λ target index sender args depth method is. holds.tells doing (call_line method target sender args);
    runs_functor = λ target index sender connection args depth functor is.
        let new = line_told doing (functor_line functor target sender args) in
        let next = after functor.next (functor_state doing.state connection) args in
        holds.both doing new (stepped new connection next) (holds.tells doing (functor_line functor target sender args)) (holds.steps new connection next);
    refused = λ action args self sender depth code. holds.same doing;
    emits = λ of signal sent args self sender depth emitted is. holds.same doing;
    deletes = λ target args self sender depth. holds.same doing;
    writes = λ of property value args self sender depth given writing is. holds.writes doing (object_of doing.state self sender of) writing;
    does = λ plain args self sender depth operation is passed. holds.does doing operation;
    chooses = λ test held failed args self sender depth truth. holds.same doing;
    dies = λ target depth living. holds.marks doing target;
    detaches = λ target depth. holds.severs doing target;
    deletes_child = λ parent child depth. holds.same doing;
    removes = λ target depth. holds.goes doing target;
    takes = λ first later is some. holds.both doing (turn_taken doing) (first_taken (turn_taken doing)) (holds.takes_turn doing)
        (holds.takes (turn_taken doing));
  }

pub step_holds : (settings : Settings) (R : Execution → Execution → Type 0) → Holds R → (item : Item) (doing : Execution)
    → R doing (step settings item doing).doing
step_holds settings R holds item doing = step_cases settings doing (λ item next. R doing next.doing) (holds_cases settings R holds doing) item

-- what holds between the states of a session before each change and after it
pub record HoldsOfStates (R : State → State → Type 0) : Type 0 where
  pub same : (state : State) → R state state
  pub both : (one two three : State) → R one two → R two three → R one three
  pub breaks : (state : State) (number : ℕ) → R state (without_connections state (has_number number))
  pub posts : (state : State) (event : Event) → R state (with_event state event)
  pub loses : (state : State) → R state (with_lost state)
  pub takes : (state : State) → R state (without_first state)
  pub does : (state : State) (operation : Operation) → R state (with_operation state operation)
  pub writes : (state : State) (target : ℕ) (writing : Writing) → R state (with_writing state target writing)
  pub marks : (state : State) (target : ℕ) → R state (record state { forest = marked state.forest target })
  pub severs : (state : State) (target : ℕ) → R state (without_ties state target)
  pub goes : (state : State) (target : ℕ) → R state (without_object state target)
  pub steps : (state : State) (number next : ℕ) → R state (with_functor_state state number next)

-- lines, posts and turns are no part of the state
pub of_states : (R : State → State → Type 0) → HoldsOfStates R → Holds (λ old new. R old.state new.state)
unfolding line_told posting turn_taken used_up single_shot_broken enqueued lost first_taken operation_done dying severed stepped
of_states R states = record {
  same = λ doing. states.same doing.state;
  both = λ one two three. states.both one.state two.state three.state;
  tells = λ doing said. states.same doing.state;
  publishes = λ doing more. states.same doing.state;
  takes_turn = λ doing. states.same doing.state;
  uses_up = λ doing. cond_both doing.spent doing (record doing { spent = true; lines = doing.lines ++ Warning TurnsUsedUp None ∷ [] })
      (λ (new : Execution). R doing.state new.state) (λ spent. states.same doing.state) (λ fresh. states.same doing.state);
  shoots = λ doing row. cond_both row.single (in_state doing (without_connections doing.state (has_number row.number))) doing
      (λ (new : Execution). R doing.state new.state) (λ single. states.breaks doing.state row.number) (λ lasting. states.same doing.state);
  posts = λ doing. states.posts doing.state;
  loses = λ doing. states.loses doing.state;
  takes = λ doing. states.takes doing.state;
  does = λ doing. states.does doing.state;
  writes = λ doing. states.writes doing.state;
  marks = λ doing. states.marks doing.state;
  severs = λ doing. states.severs doing.state;
  goes = λ doing. states.goes doing.state;
  steps = λ doing. states.steps doing.state;
}
