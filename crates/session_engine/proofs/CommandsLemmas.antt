-- What a command makes of the session at its place, by the ways that it goes.
use Rattle.std.proofs.Common.{◌≡◌, ◌∷◌, ℕ, Bool, true, false, true≢false, List, Option, Some, None, Result, Ok, Err, IfOk, not, IsErrAnd, OnErr, OnOk}
use Rattle.std.proofs.Common.{slice_get, refl, sym, ap, subst, ◌∙◌, ◌&&◌, inl, inr, ◌||◌, eqb, IsFalse, IsSome, OnSome, []}
use Rattle.std.specs.Option.{option_or}
use Rattle.isolation.specs.Machine.{Effect}
use Rattle.std.specs.Prelude.{if◌then◌else◌}
use Rattle.session_engine.proofs.Common.{Class, Code, SessionFailed, Fault, Refused, Memory, Answers, Line, Post, Asked, asked, found_refusal, ended, replies}
use Rattle.session_engine.proofs.Common.{unless, IsFittingAsked, Found, refusal, Settings, State, performs, Tables, Session, fresh, failed_session, ChangesOnly}
use Rattle.session_engine.proofs.Common.{IsPlaced, session_at, state_at, ReceivesPosts, Reaches, after_posts, changes_same, state_with, SessionContext}
use Rattle.session_engine.proofs.Common.{CommandOutput, Performs, its_effect, its_refusal, reply_after, IsPrefix, doing_at, fresh_output, front_same}
use Rattle.session_engine.proofs.Common.{EngineState, IsWhole, engine_state, place, seen_by_name, sessions, states, IsStep, is_reset, is_shut, session_after}
use Rattle.session_engine.proofs.Common.{session_does, session_refusal, settings_of}
use Rattle.plain_types.specs.Answers.{OnMemory, RefusedBy}
use Rattle.session_model.specs.declared.line.Answer.{Answer}
use Rattle.session_model.specs.declared.line.Answer.TheVariants.{Truth}
use Rattle.session_model.specs.declared.line.Line.TheVariants.{Reply}
use Rattle.session_model.specs.declared.command.Command.{Command}
use Rattle.session_model.specs.declared.command.Command.TheVariants as c
use Rattle.session_model.specs.declared.query.Query.{Query}
use Rattle.session_model.specs.Asked.{Ask, Reset}
use Rattle.session_model.specs.declared.operation.Operation.{Operation}
use Rattle.session_model.specs.Operations.{operation_answer, operation_refusal, with_operation}
use Rattle.session_model.specs.Signals.{does_found}
use Rattle.session_model.specs.Execution as doing
use Rattle.session_model.specs.Queries.{query_answer}
use Rattle.session_model.specs.State.{empty}
use Rattle.session_model.proofs.ForCallers.{performs_reset, query_passed, query_refused, query_replies, refusal_reset}
use Rattle.session_model.specs.Thread as thread
use Rattle.session_tables.specs.Refused.{OnRefused}
use Rattle.session_tables.specs.Tables.{failed_at, with_session, with_state}
use Rattle.session_tables.proofs.ForCallers.{changes_twice, changes_with, session_there, changes_session, after_posts-none}
use Rattle.session_tables.proofs.ForCallers.{placed_shaped, session_unchanged, shaped_changed, shaped_twice}
use Rattle.session_engine.specs.Commands.{Obeys, OthersHear, reply_lines}
use Rattle.session_queries.specs.Reads.{Reads}
use Rattle.dispatch.proofs.ForCallers.{front_none}
use Rattle.session_engine.specs.Returning.{IsAnswered, Returns, answer_lines, wants_memory}
use Rattle.session_engine.proofs.EngineLemmas.{named_at, sessions-place}
use Rattle.session_engine.proofs.SessionLemmas.{does_fine, not_shut, refused_after}
use Rattle.session_engine.proofs.StepLemmas.{Ended, GaveUp, Loud, Marks, Own, Quiet, Told, some_none_of, step_of, whole_after}

-- what changes one session alone is not heard by the others
pub others_changed : {classes : List Class} {from : List ℕ} {old new : Tables} {place : ℕ} → ChangesOnly place old new
    → OthersHear classes from place [] old new false
others_changed {classes} {from} {old} {new} {place} changes =
    let unchanged : (at : ℕ) → IsFalse (eqb at place) → IsPlaced old at → session_at new at ≡ after_posts classes from [] (session_at old at) =
    λ at apart placed. session_unchanged old new place at changes apart ∙ sym (after_posts-none classes from (session_at old at)) in
    record {
      shape = shaped_changed old new place changes;
      hear = λ at apart placed. inl (unchanged at apart placed);
      all = λ none. unchanged;
      one = λ some. absurd (true≢false (sym some));
    }

-- what they have heard of nested calls
others_reached : {classes : List Class} {from : List ℕ} {old new : Tables} {place : ℕ} {posts : List Post} {failing : Bool}
    → Reaches classes from place posts old new false failing → OthersHear classes from place posts old new failing
others_reached reaches =
    record { shape = reaches.shape; hear = reaches.others; all = λ none. (reaches.all none).1; one = λ some. reaches.one refl some }

-- also where the session fails then
others_then : (classes : List Class) (from : List ℕ) (old middle new : Tables) (place : ℕ) (posts : List Post) (failing : Bool)
    → OthersHear classes from place posts old middle failing → ChangesOnly place middle new → OthersHear classes from place posts old new failing
others_then classes from old middle new place posts failing others changes = record {
  shape = shaped_twice old middle new others.shape (shaped_changed middle new place changes);
  hear = λ at apart placed. subst (ReceivesPosts classes from posts (session_at old at)) (sym (session_unchanged middle new place at changes apart))
      (others.hear at apart placed);
  all = λ none at apart placed. session_unchanged middle new place at changes apart ∙ others.all none at apart placed;
  one = λ some. let it = others.one some in
      (it.0, it.1, it.2, it.3, ap (λ (session : Session). session.failed) (session_unchanged middle new place it.0 changes it.1) ∙ it.4);
}

-- the first of two refusals, or the second where there is no first
pub or_first : (a b : Option Code) (code : Code) → Some code ≡ a → option_or a b ≡ Some code
or_first a b code e = sym (ap (λ a. option_or a b) e)

pub or_second : (a b : Option Code) → None ≡ a → option_or a b ≡ b
or_second a b e = sym (ap (λ a. option_or a b) e)

-- a command that is not refused does what it performs
passed_does : (caller : SessionContext) (asked : Asked) (old : Tables) → its_refusal caller asked old ≡ None
    → thread.does (settings_of caller.setup.now) caller.name.now (state_at old caller.place) asked ≡ its_effect caller asked old
unfolding thread.does
passed_does caller asked old passed = ap (λ refusal. unless refusal (state_at old caller.place) (its_effect caller asked old)) passed

-- the session is left so, and its mark stays
left_as : (caller : SessionContext) (asked : Asked) (old new : Tables) (state : State) → (its_effect caller asked old).state ≡ state
    → state_at new caller.place ≡ state → failed_at new caller.place ≡ failed_at old caller.place
    → session_at new caller.place ≡ record { state = (its_effect caller asked old).state; failed = failed_at old caller.place }
left_as caller asked old new state effect is mark =
    let same : state_at new caller.place ≡ (its_effect caller asked old).state = is ∙ sym effect in
    λ i. record { state = same i; failed = mark i }

module _ {caller : SessionContext} {asked : Asked} {old new : Tables} where
  -- a command that is refused has changed nothing
  pub stopped : {T : Type 0} {lines : T → List Line} (code : Code) (result : Result T Fault) → IsErrAnd result (λ fault. fault ≡ Refused code)
      → its_refusal caller asked old ≡ Some code → new ≡ old → Performs caller asked old new false lines result
  stopped code (Ok value) h refused same = absurd h
  stopped {lines = lines} code (Err fault) h refused same =
      subst (λ fault. Performs caller asked old new false lines (Err fault)) (sym h)
      (record {
        returns = refused;
        posts = [];
        front = tt;
        posted = tt;
        done = tt;
        refused = same;
        others = others_changed (changes_same old new caller.place same);
      })

  -- where memory was wanted only its own session may have changed
  pub starved : {T : Type 0} {lines : T → List Line} (result : Result T Fault) → IsErrAnd result (λ fault. fault ≡ Memory) → ChangesOnly caller.place old new
      → Performs caller asked old new false lines result
  starved (Ok value) h only = absurd h
  starved {lines = lines} (Err fault) h only =
      subst (λ fault. Performs caller asked old new false lines (Err fault)) (sym h)
      (record {
        returns = tt;
        posts = [];
        front = front_none _;
        posted = tt;
        done = tt;
        refused = tt;
        others = others_changed only;
      })

  -- where memory was wanted in what it sets off, other sessions have heard the first of its posts
  pub starved_last : {T : Type 0} (output : CommandOutput) (posts : List Post) (done : doing.Execution) (last : Line) {lines : T → List Line}
      (result : Result T Fault) → IsErrAnd result (λ fault. fault ≡ Memory) → its_refusal caller asked old ≡ None
      → its_effect caller asked old ≡ ended (doing.line_told done last) → IsPrefix posts done.posts
      → Reaches caller.setup.now.classes caller.name.now caller.place posts old new false output.failing
      → Performs caller asked old new output.failing lines result
  unfolding doing.line_told
  starved_last output posts done last (Ok value) h passed effect front reaches = absurd h
  starved_last output posts done last {lines} (Err fault) h passed effect front reaches =
      subst (λ fault. Performs caller asked old new output.failing lines (Err fault)) (sym h)
      (record {
        returns = tt;
        posts = posts;
        front = subst (λ (effect : Effect State Line Post). IsPrefix posts effect.posts) (sym (passed_does caller asked old passed ∙ effect)) front;
        posted = tt;
        done = tt;
        refused = tt;
        others = others_reached reaches;
      })

  -- a fault of a call that is refused by the rest of its refusal
  pub made_fault : {T : Type 0} {lines : T → List Line} {rest : Option Code} (fault : Fault) {result : Result T Fault}
      → IsErrAnd result (λ other. other ≡ fault) → its_refusal caller asked old ≡ rest
      → RefusedBy {T = ℕ} rest (Err fault) → OnRefused {T = ℕ} (Err fault) (new ≡ old) → ChangesOnly caller.place old new
      → Performs caller asked old new false lines result
  made_fault (Refused code) {result} h is refused same only = stopped code result h (is ∙ refused) same
  made_fault Memory {result} h is refused same only = starved result h only

  -- and else it replies
  pub replied : {state : State} {answer : Answer} → IsPlaced old caller.place → its_refusal caller asked old ≡ None
      → its_effect caller asked old ≡ replies state answer → new ≡ with_state old caller.place state
      → Performs caller asked old new false reply_lines (Ok answer)
  replied {state} placed passed effect e = record {
    returns = (passed, ap (λ effect. effect.lines) effect);
    posts = [];
    front = tt;
    posted = sym (ap (λ effect. effect.posts) effect);
    done = left_as caller asked old new state (ap (λ effect. effect.state) effect) (state_with old new caller.place state placed e)
        (ap (λ tables. failed_at tables caller.place) e);
    refused = tt;
    others = others_changed (changes_with old new caller.place state placed e);
  }

  -- so it does behind what was told by what it set off
  pub replied_last : (output : CommandOutput) {answer : Answer} {posts : List Post} → its_refusal caller asked old ≡ None
      → its_effect caller asked old ≡ ended (doing.line_told (doing_at caller.place new output posts) (Reply answer))
      → Reaches caller.setup.now.classes caller.name.now caller.place posts old new false output.failing
      → Performs caller asked old new output.failing (reply_after output.lines) (Ok answer)
  unfolding doing.line_told
  replied_last output {posts = posts} passed effect reaches = record {
    returns = (passed, ap (λ effect. effect.lines) effect);
    posts = posts;
    front = tt;
    posted = sym (ap (λ effect. effect.posts) effect);
    done = left_as caller asked old new (state_at new caller.place) (ap (λ effect. effect.state) effect) refl reaches.own;
    refused = tt;
    others = others_reached reaches;
  }

-- where a command begins no session has failed by its posts
pub at_first_reaches : (caller : SessionContext) (old new : Tables) (before after : CommandOutput) (posts : List Post)
    → before ≡ fresh_output caller.setup.now.turns → Reaches caller.setup.now.classes caller.name.now caller.place posts old new before.failing after.failing
    → Reaches caller.setup.now.classes caller.name.now caller.place posts old new false after.failing
at_first_reaches caller old new before after posts fresh reaches =
    subst (λ (output : CommandOutput). Reaches caller.setup.now.classes caller.name.now caller.place posts old new output.failing after.failing) fresh reaches

-- where what is looked for is not found
pub found_fault : {T A : Type 0} {caller : SessionContext} {asked : Asked} {tables : Tables} {lines : T → List Line} (rest : Found A → Option Code)
    (found : Found A) (fault : Fault) {result : Result T Fault} → IsErrAnd result (λ other. other ≡ fault)
    → its_refusal caller asked tables ≡ rest found → ((code : Code) → rest (Err code) ≡ Some code) → Answers {T = A} (Err fault) found
    → Performs caller asked tables tables false lines result
found_fault rest found (Refused code) {result} h is law why = stopped code result h (is ∙ ap rest why ∙ law code) refl
found_fault {caller = caller} {tables = tables} rest found Memory {result} h is law why = starved result h (changes_same tables tables caller.place refl)

-- a fact of every fault holds of a refusal
pub on_refused : {P : Type 0} (fault : Fault) → P → OnRefused {T = ℕ} (Err fault) P
on_refused (Refused code) h = h
on_refused Memory h = tt

-- a command does the operation that was found
pub operation_performed : {caller : SessionContext} {asked : Asked} {found : Found Operation} {operation : Operation} {old new : Tables}
    (result : Result Answer Fault) → IsPlaced old caller.place
    → its_refusal caller asked old ≡ found_refusal (state_at old caller.place) found
    → its_effect caller asked old ≡ does_found (state_at old caller.place) found → found ≡ Ok operation
    → RefusedBy (operation_refusal (state_at old caller.place) operation) result
    → IfOk result (λ answer. answer ≡ operation_answer (state_at old caller.place) operation)
    → OnOk result (new ≡ with_state old caller.place (with_operation (state_at old caller.place) operation)) → OnErr result (new ≡ old)
    → Performs caller asked old new false reply_lines result
operation_performed {caller} {operation = operation} {old = old} (Ok answer) placed refusal effect is passed answers done same =
    replied placed
    (refusal ∙ ap (found_refusal (state_at old caller.place)) is ∙ passed)
    (effect ∙ ap (does_found (state_at old caller.place)) is ∙ ap (replies (with_operation (state_at old caller.place) operation)) (sym answers)) done
operation_performed {caller} {old = old} (Err (Refused code)) placed refusal effect is refused answers done same =
    stopped code (Err (Refused code)) refl (refusal ∙ ap (found_refusal (state_at old caller.place)) is ∙ refused) same
operation_performed {caller} {old = old} {new} (Err Memory) placed refusal effect is passed answers done same =
    starved (Err Memory) refl (changes_same old new caller.place same)

-- a command that tells nothing before its reply
pub silently : (caller : SessionContext) (asked : Asked) (old new : Tables) (output : CommandOutput) (result : Result Answer Fault)
    → output ≡ fresh_output caller.setup.now.turns
    → Performs caller asked old new false reply_lines result → Performs caller asked old new output.failing (reply_after output.lines) result
silently caller asked old new output result fresh performed =
    subst (λ (output : CommandOutput). Performs caller asked old new output.failing (reply_after output.lines) result) (sym fresh) performed

-- nor does a command that leaves its session as it is, and replies
pub replies_alone : (caller : SessionContext) (asked : Asked) (tables : Tables) (output : CommandOutput) (result : Result Answer Fault)
    → output ≡ fresh_output caller.setup.now.turns
    → Returns (its_refusal caller asked tables) (λ answer. its_effect caller asked tables ≡ replies (state_at tables caller.place) answer) result
    → Performs caller asked tables tables output.failing (reply_after output.lines) result
replies_alone caller asked tables output result fresh returns = silently caller asked tables tables output result fresh (by result returns)
  where
    by : (result : Result Answer Fault) → Returns (its_refusal caller asked tables)
        (λ answer. its_effect caller asked tables ≡ replies (state_at tables caller.place) answer) result
        → Performs caller asked tables tables false reply_lines result
    by (Ok answer) (passed, effect) = record {
      returns = (passed, ap (λ effect. effect.lines) effect);
      posts = [];
      front = tt;
      posted = sym (ap (λ effect. effect.posts) effect);
      done = left_as caller asked tables tables (state_at tables caller.place) (ap (λ effect. effect.state) effect) refl refl;
      refused = tt;
      others = others_changed (changes_same tables tables caller.place refl);
    }
    by (Err (Refused code)) refused = stopped code (Err (Refused code)) refl refused refl
    by (Err Memory) none = starved (Err Memory) refl (changes_same tables tables caller.place refl)

-- so does a query
pub reads : (caller : SessionContext) (query : Query) (tables : Tables) (output : CommandOutput) (result : Result Answer Fault)
    → output ≡ fresh_output caller.setup.now.turns → Reads caller query tables result
    → Performs caller (Ask query) tables tables output.failing (reply_after output.lines) result
reads caller query tables output result fresh read = replies_alone caller (Ask query) tables output result fresh (by result read.returns)
  where
    settings : Settings
    settings = settings_of caller.setup.now

    state : State
    state = state_at tables caller.place

    by : (result : Result Answer Fault) → Answers result (query_answer settings state query)
        → Returns (its_refusal caller (Ask query) tables) (λ answer. its_effect caller (Ask query) tables ≡ replies state answer) result
    by (Ok answer) read = (query_passed settings caller.name.now state query answer read, query_replies settings caller.name.now state query answer read)
    by (Err (Refused code)) read = query_refused settings caller.name.now state query code read
    by (Err Memory) read = tt

-- one that is refused before it posts anything
pub quietly : {caller : SessionContext} {asked : Asked} {old new : Tables} {output : CommandOutput} {lines : Answer → List Line} {result : Result Answer Fault}
    → output ≡ fresh_output caller.setup.now.turns
    → Performs caller asked old new false lines result → Performs caller asked old new output.failing lines result
quietly {caller} {asked} {old} {new} {lines = lines} {result = result} fresh performed =
    subst (λ (output : CommandOutput). Performs caller asked old new output.failing lines result) (sym fresh) performed

-- every other command is no beginning anew
pub not_reset : (command : Command) → (command ≡ c.Reset → ⊥) → is_reset (asked command) ≡ false
not_reset (c.New class parent) other = refl
not_reset (c.Delete target) other = refl
not_reset (c.Set target property value) other = refl
not_reset (c.Connect sender signal receiver method mode unique single) other = refl
not_reset (c.ConnectFunctor sender signal context functor mode unique single) other = refl
not_reset (c.DisconnectOne connection) other = refl
not_reset (c.Disconnect sender signal receiver method) other = refl
not_reset (c.Invoke target method args mode priority) other = refl
not_reset c.Spin other = refl
not_reset (c.SetParent target parent) other = refl
not_reset (c.DeleteLater target) other = refl
not_reset (c.Block target on) other = refl
not_reset (c.Publish target signal name) other = refl
not_reset (c.Unpublish name) other = refl
not_reset (c.Join from name types target method) other = refl
not_reset (c.Leave from name target method) other = refl
not_reset (c.Bind target property to) other = refl
not_reset (c.Unbind target property) other = refl
not_reset c.Begin other = refl
not_reset c.End other = refl
not_reset (c.Ask query) other = refl
not_reset c.Reset other = absurd (other refl)

-- a session that begins anew, whether it has failed or not
module _ (caller : SessionContext) (old : Tables) (placed : IsPlaced old caller.place) where
  open_to_reset : is_shut (session_at old caller.place) Reset ≡ false
  open_to_reset = by (failed_at old caller.place)
    where
      by : (failed : Bool) → (failed && not true) ≡ false
      by true = refl
      by false = refl

  anew_passed : session_refusal (settings_of caller.setup.now) caller.name.now (session_at old caller.place) Reset ≡ None
  anew_passed =
      ap (λ b. if b then Some SessionFailed else refusal (settings_of caller.setup.now) caller.name.now (state_at old caller.place) Reset) open_to_reset
      ∙ refusal_reset (settings_of caller.setup.now) caller.name.now (state_at old caller.place)

  anew_does : session_does (settings_of caller.setup.now) caller.name.now (session_at old caller.place) Reset ≡ replies empty (Truth true)
  anew_does =
      ap (λ refusal. unless refusal (state_at old caller.place) (performs (settings_of caller.setup.now) caller.name.now (state_at old caller.place) Reset))
      anew_passed
      ∙ performs_reset (settings_of caller.setup.now) caller.name.now (state_at old caller.place)

  pub obeys_anew : (new : Tables) (was : Bool) (lines : List Line) → new ≡ with_session old caller.place fresh → lines ≡ Reply (Truth true) ∷ []
      → Obeys caller Reset old new was was (Ok lines)
  obeys_anew new was lines e told = record {
    returns = (
      anew_passed,
      told ∙ sym (ap (λ effect. effect.lines)
          (performs_reset (settings_of caller.setup.now) caller.name.now (state_at old caller.place))),
    );
    posts = [];
    front = tt;
    done = (
      ap (λ tables. session_at tables caller.place) e ∙ session_there old caller.place fresh placed
          ∙ sym (ap (λ effect. record { state = effect.state; failed = is_shut (session_at old caller.place) Reset }) anew_does
          ∙ ap (λ failed. record { state = empty; failed = failed }) open_to_reset),
      sym (ap (λ effect. effect.posts) anew_does),
    );
    refused = tt;
    fails = tt;
    failing = false;
    others = others_changed (changes_session old new caller.place fresh placed e);
    mark = refl;
  }

  -- it fails where its reply finds no memory
  pub obeys_anew_wanting : (middle new : Tables) (was : Bool) → middle ≡ with_session old caller.place fresh
      → new ≡ with_session middle caller.place failed_session → Obeys caller Reset old new was true (Err Memory)
  obeys_anew_wanting middle new was e f =
      let first = changes_session old middle caller.place fresh placed e in
      let still = placed_shaped old middle caller.place (shaped_changed old middle caller.place first) placed in
      record {
        returns = tt;
        posts = [];
        front = front_none _;
        done = tt;
        refused = tt;
        fails = (ap (λ tables. session_at tables caller.place) f ∙ session_there middle caller.place failed_session still, open_to_reset);
        failing = false;
        others = others_changed (changes_twice old middle new caller.place first (changes_session middle new caller.place failed_session still f));
        mark = refl;
      }

-- the mark that memory was refused, by what was noted
marks_of : (was now failing : Bool) (result : Result (List Line) Fault) → now ≡ (wants_memory result || failing || was)
    → Marks was now failing (answer_lines result)
marks_of was now true (Ok lines) mark = Loud (inr refl) mark
marks_of was now false (Ok lines) mark = Quiet refl refl mark
marks_of was now true (Err (Refused code)) mark = Loud (inr refl) mark
marks_of was now false (Err (Refused code)) mark = Quiet refl refl mark
marks_of was now failing (Err Memory) mark = Loud (inl refl) mark

module _ (caller : SessionContext) (asked : Asked) (old new : Tables) where
  -- what the session does with it
  abbrev session : Session
  session = session_at old caller.place

  abbrev own_refusal : Option Code
  own_refusal = session_refusal (settings_of caller.setup.now) caller.name.now session asked

  abbrev its_end : Session
  its_end = session_after (settings_of caller.setup.now) caller.name.now session asked

  abbrev own_effect : Effect State Line Post
  own_effect = session_does (settings_of caller.setup.now) caller.name.now session asked

  unposted : (code : Code) → own_refusal ≡ Some code → own_effect.posts ≡ []
  unposted code refused = ap (λ refusal. (unless refusal (state_at old caller.place) (its_effect caller asked old)).posts) refused

  stays : (code : Code) → own_refusal ≡ Some code → new ≡ old → session_at new caller.place ≡ its_end
  stays code refused same = ap (λ tables. session_at tables caller.place) same
      ∙ sym (refused_after (settings_of caller.setup.now) caller.name.now session asked code refused)

  obeys_refused : (was : Bool) (code : Code) → own_refusal ≡ Some code → new ≡ old → Obeys caller asked old new was was (Err (Refused code))
  obeys_refused was code refused same = record {
    returns = refused;
    posts = [];
    front = tt;
    done = (stays code refused same, sym (unposted code refused));
    refused = same;
    fails = tt;
    failing = false;
    others = others_changed (changes_same old new caller.place same);
    mark = refl;
  }

  -- a session that has failed refuses, unless it begins anew
  pub obeys_failed : (was : Bool) → failed_at old caller.place ≡ true → is_reset asked ≡ false → new ≡ old
      → Obeys caller asked old new was was (Err (Refused SessionFailed))
  obeys_failed was failed other same =
      let refused : own_refusal ≡ Some SessionFailed = ap (λ b. if b then Some SessionFailed else its_refusal caller asked old)
      (ap (λ failed. failed && not (is_reset asked)) failed ∙ ap not other) in
      obeys_refused was SessionFailed refused same

  module _ {T : Type 0} (fine : failed_at old caller.place ≡ false) (failing was : Bool) (lines : T → List Line) where
    unshut : is_shut session asked ≡ false
    unshut = not_shut (settings_of caller.setup.now) caller.name.now session asked fine

    by_command : own_refusal ≡ its_refusal caller asked old
    by_command = ap (λ b. if b then Some SessionFailed else its_refusal caller asked old) unshut

    does_passed : own_refusal ≡ None → own_effect ≡ its_effect caller asked old
    does_passed passed = ap (λ refusal. unless refusal (state_at old caller.place) (its_effect caller asked old)) passed

    -- another one is told what the command tells,
    pub obeys_replied : (value : T) (told : List Line) → Performs caller asked old new failing lines (Ok value) → told ≡ lines value
        → Obeys caller asked old new was (failing || was) (Ok told)
    obeys_replied value told performed is =
        let passed : own_refusal ≡ None = by_command ∙ performed.returns.0 in
        let does = does_passed passed in
        record {
          returns = (passed, is ∙ sym performed.returns.1);
          posts = performed.posts;
          front = tt;
          done = (
            performed.done ∙ ap (λ effect. record { state = effect.state; failed = failed_at old caller.place }) (sym does)
                ∙ ap (λ failed. record { state = own_effect.state; failed = failed }) (fine ∙ sym unshut),
            performed.posted ∙ ap (λ effect. effect.posts) (sym does),
          );
          refused = tt;
          fails = tt;
          failing = failing;
          others = performed.others;
          mark = refl;
        }

    -- or why it is refused,
    pub obeys_refusing : (code : Code) → Performs caller asked old new failing lines (Err (Refused code))
        → Obeys caller asked old new was was (Err (Refused code))
    obeys_refusing code performed = obeys_refused was code (by_command ∙ performed.returns) performed.refused

    -- and where memory was wanted, for the command or for its reply, it has failed
    pub obeys_wanting : (result : Result T Fault) (end : Tables) → IsPlaced old caller.place → Performs caller asked old new failing lines result
        → OnRefused result ⊥ → end ≡ with_session new caller.place failed_session → Obeys caller asked old end was true (Err Memory)
    obeys_wanting result end placed performed unrefused e =
        let still = placed_shaped old new caller.place performed.others.shape placed in
        record {
          returns = tt;
          posts = performed.posts;
          front = posted result performed unrefused;
          done = tt;
          refused = tt;
          fails = (ap (λ tables. session_at tables caller.place) e ∙ session_there new caller.place failed_session still, unshut);
          failing = failing;
          others = others_then caller.setup.now.classes caller.name.now old new end caller.place performed.posts failing performed.others
              (changes_session new end caller.place failed_session still e);
          mark = refl;
        }
      where
        posted : (result : Result T Fault) → (performed : Performs caller asked old new failing lines result) → OnRefused result ⊥
            → IsPrefix performed.posts own_effect.posts
        posted (Ok value) performed unrefused = subst (IsPrefix performed.posts)
            (performed.posted ∙ sym (ap (λ effect. effect.posts) (does_passed (by_command ∙ performed.returns.0)))) (front_same performed.posts)
        posted (Err (Refused code)) performed refused = absurd refused
        posted (Err Memory) performed unrefused = subst (λ (effect : Effect State Line Post). IsPrefix performed.posts effect.posts)
            (sym (does_fine (settings_of caller.setup.now) caller.name.now session asked fine)) performed.front

  -- so it ends as a command does
  module _ (names : List (List ℕ)) (was now : Bool) where
    pub ends : (result : Result (List Line) Fault) → (obeyed : Obeys caller asked old new was now result)
        → Ended (engine_state caller.setup.now names old was) (engine_state caller.setup.now names new now) caller.place caller.name.now asked
        (answer_lines result) obeyed.failing
    ends result obeyed = record {
      settings = refl;
      names = refl;
      posts = obeyed.posts;
      others = obeyed.others;
      mark = marks_of was now obeyed.failing result obeyed.mark;
      own = own result obeyed;
      stays = stay result obeyed;
    }
      where
        own : (result : Result (List Line) Fault) → (obeyed : Obeys caller asked old new was now result)
            → Own (settings_of caller.setup.now) caller.name.now asked (answer_lines result) obeyed.posts session (session_at new caller.place)
        own (Ok lines) obeyed =
            Told (ap Some (obeyed.returns.1 ∙ sym (ap
            (λ refusal. (unless refusal session.state (performs (settings_of caller.setup.now) caller.name.now session.state asked)).lines)
            obeyed.returns.0))) obeyed.done.0 obeyed.done.1
        own (Err (Refused code)) obeyed = Told (ap
            (λ refusal. Some (unless refusal session.state (performs (settings_of caller.setup.now) caller.name.now session.state asked)).lines)
            (sym obeyed.returns)) obeyed.done.0 obeyed.done.1
        own (Err Memory) obeyed = GaveUp refl obeyed.fails.0 obeyed.front

        stay : (result : Result (List Line) Fault) → Obeys caller asked old new was now result → IsSome own_refusal → OnSome (answer_lines result) (new ≡ old)
        stay (Ok lines) obeyed refused = some_none_of own_refusal obeyed.returns.0 refused
        stay (Err (Refused code)) obeyed refused = obeyed.refused
        stay (Err Memory) obeyed refused = tt

-- an engine whose session at a place did a command
module _ (caller : SessionContext) (asked : Asked) (old new : Tables) (was now : Bool) (result : Result (List Line) Fault)
    (obeyed : Obeys caller asked old new was now result)
    (names : List (List ℕ)) (engine : EngineState) (whole : IsWhole (engine_state caller.setup.now names old was))
    (fits : (state : State) → IsFittingAsked (settings_of caller.setup.now) state asked) (is : engine_state caller.setup.now names old was ≡ engine)
    (given : Some caller.name.now ≡ slice_get names caller.place) where
  abbrev before : EngineState
  before = engine_state caller.setup.now names old was

  abbrev after : EngineState
  after = engine_state caller.setup.now names new now

  module _ (name : List ℕ) (there : place engine name ≡ Some caller.place) where
    same : name ≡ caller.name.now
    same = named_at before name caller.place caller.name.now (ap (λ engine. place engine name) is ∙ there) given

    here : place before caller.name.now ≡ Some caller.place
    here = subst (λ name. place before name ≡ Some caller.place) same (ap (λ engine. place engine name) is ∙ there)

    its_ending : Ended before after caller.place caller.name.now asked (answer_lines result) obeyed.failing
    its_ending = ends caller asked old new names was now result obeyed

    pub done_whole : IsWhole after
    done_whole = whole_after _ _ caller.place caller.name.now asked (answer_lines result) obeyed.failing whole fits here its_ending

    pub done_step : IsStep (seen_by_name engine) (seen_by_name after) name asked (answer_lines result)
    done_step = subst (λ (engine : EngineState). IsStep (seen_by_name engine) (seen_by_name after) name asked (answer_lines result)) is
        (subst (λ name. IsStep (seen_by_name before) (seen_by_name after) name asked (answer_lines result)) (sym same)
        (step_of _ _ caller.place caller.name.now asked (answer_lines result) obeyed.failing whole fits here its_ending))

    now_there : place after name ≡ Some caller.place
    now_there = ap (λ engine. place engine name) is ∙ there

    own : session_at old caller.place ≡ sessions engine name
    own = sym (sessions-place before name caller.place now_there) ∙ ap (λ engine. sessions engine name) is

    -- what the call returns, by the name of its session
    ReturnsIn : EngineState → List ℕ → Session → Type 0
    ReturnsIn engine name session = Returns (session_refusal engine.settings name session asked)
        (λ lines. lines ≡ (performs engine.settings name session.state asked).lines) result

    returns_named : Returns (session_refusal engine.settings name (sessions engine name) asked)
        (λ lines. lines ≡ (performs engine.settings name (states engine name) asked).lines) result
    unfolding ReturnsIn
    returns_named =
        subst (ReturnsIn engine name) own
        (subst (λ (engine : EngineState). ReturnsIn engine name (session_at old caller.place)) is
        (subst (λ name. ReturnsIn before name (session_at old caller.place)) (sym same) obeyed.returns))

    pub done_answered : IsAnswered engine after name asked result
    done_answered = record {
      returns = returns_named;
      refused = stays result obeyed.refused;
      fails = (ends_so result obeyed.fails).0;
      fine = (ends_so result obeyed.fails).1;
    }
      where
        stays : (result : Result (List Line) Fault) → OnRefused result (new ≡ old) → OnRefused result (sessions after ≡ sessions engine)
        stays (Ok lines) kept = tt
        stays (Err (Refused code)) kept = ap (λ tables. sessions (engine_state caller.setup.now names tables now)) kept ∙ ap sessions is
        stays (Err Memory) kept = tt

        ends_so : (result : Result (List Line) Fault)
            → OnMemory result ((session_at new caller.place ≡ failed_session) × IsFalse (is_shut (session_at old caller.place) asked))
            → OnMemory result (sessions after name ≡ failed_session) × OnMemory result (IsFalse (is_shut (sessions engine name) asked))
        ends_so (Ok lines) fails = (tt, tt)
        ends_so (Err (Refused code)) fails = (tt, tt)
        ends_so (Err Memory) fails = (
          sessions-place after name caller.place now_there ∙ fails.0,
          subst (λ (session : Session). IsFalse (is_shut session asked)) own fails.1,
        )
