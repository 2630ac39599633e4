-- Each item keeps a session under way.
use Rattle.std.proofs.Common.{◌≡◌, ◌+◌, ◌||◌, ℕ, Bool, true, false, List, [], ◌∷◌, ◌++◌, Option, Some, None, filter, map, refl, ap, ◌∙◌}
use Rattle.std.specs.List.{list_any}
use Rattle.std.specs.Option.{option_map_or}
use Rattle.std.proofs.lemmas.Bool.{cond_both}
use Rattle.std.proofs.lemmas.List.Folds.{list_any-append}
use Rattle.session_model.proofs.Common.{Limit, Value, Acts, acts_of, single_action, more, nothing, when, Method, Callee, Connection, calls, has_number, Event}
use Rattle.session_model.proofs.Common.{QueuedCall, Property, children, after, with_state, DESTROYED, acts, branch, posts_of, call_items, call_line}
use Rattle.session_model.proofs.Common.{event_items, functor_line, method_items, queued, step, Execution, in_state}
use Rattle.session_model.proofs.Common.{posting, line_told, severed, Act, Call, Detach, Delete, Emit, Item, DeleteChild, Next, Run, RunFunctor}
use Rattle.session_model.proofs.Common.{Spin, Warn, puts, method_at, Settings, changes, comes_to, IsTied, State, without_connections, without_object}
use Rattle.session_model.proofs.Common.{functor_state, with_writing, written, written_property, IsUnderWay, is_gone, object_of}
use Rattle.plain_types.specs.declared.callee.Callee.TheVariants as callee
use Rattle.event_queue.specs.declared.event.Event.TheVariants as event
use Rattle.session_model.specs.Agenda.{calls_of, delete_children}
use Rattle.session_model.specs.Execution.{single_shot_broken, turn_taken}
use Rattle.session_model.specs.UnderWay.{IsBrokenInTime}
use Rattle.session_model.proofs.FilterLemmas.{of_found}
use Rattle.session_model.proofs.UnderWayLemmas.{behind, detach_under, operation_under, dying_under, first_taken_under, gone_under, in_front, queued_under}
use Rattle.session_model.proofs.UnderWayLemmas.{shot_under, told_under, turn_under, used_up_under, writing_under, posting_under, stepped_under}
use Rattle.session_model.proofs.ShowingLemmas.{tells_stay}
use Rattle.session_model.proofs.FitLemmas.{acted_fit}
use Rattle.session_model.proofs.StepLemmas.{Cases, IsCalled, functor_call, functor_now, in_call, leaves_ties, method_call, method_now, step_cases}
use Rattle.term_core.specs.declared.action.SingleAction.TheVariants as e

-- actions, calls, children and what is called let nothing go
acts_stay : (body : Acts) (args : List Value) (self sender depth : ℕ) → list_any is_gone (acts body args self sender depth) ≡ false
acts_stay nothing args self sender depth = refl
acts_stay (more action rest) args self sender depth = acts_stay rest args self sender depth

branch_stays : (truth : Bool) (held failed : Acts) (args : List Value) (self sender depth : ℕ)
    → list_any is_gone (acts (branch truth held failed) args self sender depth) ≡ false
branch_stays true held failed args self sender depth = acts_stay held args self sender depth
branch_stays false held failed args self sender depth = acts_stay failed args self sender depth

each_stays : {A : Type 0} (made : A → Item) → ((x : A) → is_gone (made x) ≡ false) → (xs : List A) → list_any is_gone (map made xs) ≡ false
each_stays made stays [] = refl
each_stays made stays (x ∷ xs) = ap (λ b. b || list_any is_gone (map made xs)) (stays x) ∙ each_stays made stays xs

methods_stay : (target index sender : ℕ) (args : List Value) (sent_at run_at : ℕ) (method : Method)
    → list_any is_gone (method_items target index sender args sent_at run_at method) ≡ false
methods_stay target index sender args sent_at run_at method =
    cond_both method.is_signal (Emit target index args sent_at ∷ []) (Run target index sender args run_at ∷ []) (λ items. list_any is_gone items ≡ false)
    (λ signal. refl) (λ slot. refl)

-- and what an event comes to neither
event_stays : (settings : Settings) (state : State) (first : Event) → list_any is_gone (event_items settings state first ++ Spin ∷ []) ≡ false
event_stays settings state first = list_any-append is_gone (event_items settings state first) (Spin ∷ []) ∙ ap (λ b. b || false) (by first)
  where
    called : (call : QueuedCall) (to : Callee) → list_any is_gone (call_items settings state call to) ≡ false
    called call (callee.Functor index) = refl
    called call (callee.Method index) = found (method_at settings state call.object index)
      where
        found : (method : Option Method) → list_any is_gone (option_map_or (method_items call.object index call.sender call.args 0 0) method []) ≡ false
        found None = refl
        found (Some method) = methods_stay call.object index call.sender call.args 0 0 method

    by : (first : Event) → list_any is_gone (event_items settings state first) ≡ false
    by (event.Call call) = called call call.callee
    by (event.Deletion target) = refl

-- the ends of a connection stand still when a turn is taken, and when a single-shot connection is broken
turn_tied : (doing : Execution) (row : Connection) → IsTied doing.state row → IsTied (turn_taken doing).state row
unfolding turn_taken
turn_tied doing row tied = record { sender = tied.sender; receiver = tied.receiver }

shot_tied : (doing : Execution) (row : Connection) → IsTied doing.state row → IsTied (single_shot_broken doing row).state row
unfolding single_shot_broken
shot_tied doing row tied =
    cond_both row.single (in_state doing (without_connections doing.state (has_number row.number))) doing (λ (new : Execution). IsTied new.state row)
    (λ single. record { sender = tied.sender; receiver = tied.receiver }) (λ lasting. tied)

-- what an item comes to keeps the session under way
module _ (settings : Settings) (doing : Execution) where
  abbrev KeepsUnderWay : Item → Next → Type 0
  KeepsUnderWay item next = (agenda : List Item) → IsUnderWay (item ∷ agenda) doing.state → IsUnderWay (next.items ++ agenda) next.doing.state

  -- where only items are put in front that let nothing go
  in_place_of : (item : Item) (items : List Item) → leaves_ties item ≡ true → list_any is_gone items ≡ false → KeepsUnderWay item (puts items doing)
  in_place_of item items leaves stay agenda under = in_front items stay (behind item leaves under)

  -- where another state is told of
  telling_kept : (depth : ℕ) (after : State) (written : Option Property) (agenda : List Item) → IsUnderWay agenda after
      → IsUnderWay ((comes_to settings doing depth after written).items ++ agenda) after
  telling_kept depth after written agenda = in_front _ (tells_stay settings after depth (changes doing.state after written))

  sends_kept : (target signal : ℕ) (args : List Value) (depth : ℕ) → KeepsUnderWay (Emit target signal args depth)
      (puts (calls_of doing target signal args depth) (posting doing (posts_of settings.classes doing.state target signal args)))
  unfolding calls_of
  sends_kept target signal args depth agenda under = in_front (calls_of doing target signal args depth)
      (each_stays (λ (row : Connection). Call row.number args depth) (λ row. refl) (filter (calls target signal) doing.state.connections.rows))
      (posting_under agenda doing (behind (Emit target signal args depth) refl under)
      (posts_of settings.classes doing.state target signal args))

  detaches_kept : (target depth : ℕ) → KeepsUnderWay (Detach target depth) (puts (delete_children doing target depth) (severed doing target))
  unfolding delete_children
  detaches_kept target depth agenda under = in_front (delete_children doing target depth)
      (each_stays (λ child. DeleteChild target child depth) (λ child. refl) (children doing.state.forest.rows (Some target)))
      (detach_under target depth doing under)

  -- a connection that is called stands, so it is tied, and broken in time
  module _ (number : ℕ) (args : List Value) (depth : ℕ) (connection : Connection) (is : IsCalled number doing connection) (agenda : List Item)
      (under : IsUnderWay (Call number args depth ∷ agenda) doing.state) where
    rest : IsUnderWay agenda doing.state
    rest = behind (Call number args depth) refl under

    in_call_under : IsUnderWay agenda (in_call doing connection).state
    in_call_under = shot_under agenda (turn_taken doing) (turn_under agenda doing rest) connection

    later_under : (call : QueuedCall) → call.object ≡ connection.receiver → IsUnderWay agenda (queued (in_call doing connection) call).state
    later_under call same = queued_under agenda (in_call doing connection) in_call_under connection call
        (shot_tied (turn_taken doing) connection (turn_tied doing connection
        (of_found (IsTied doing.state) (has_number number) doing.state.connections.rows connection is.found rest.whole.ends)))
        (of_found (IsBrokenInTime agenda) (has_number number) doing.state.connections.rows connection is.found rest.in_time) same

    now_under : (items : List Item) → list_any is_gone items ≡ false → IsUnderWay (items ++ agenda) (in_call doing connection).state
    now_under items stay = in_front items stay in_call_under

  kept : Cases settings doing KeepsUnderWay
  kept = record {
    rests = λ item leaves agenda under. behind item leaves under;
    tells = λ item said leaves agenda under. told_under agenda doing (behind item leaves under) said;
    uses_up = λ item leaves agenda under. used_up_under agenda doing (behind item leaves under);
    too_deep = λ target signal args depth. in_place_of (Emit target signal args depth) (Warn Limit (Some target) ∷ []) refl refl;
    sends = λ target signal args depth row is. sends_kept target signal args depth;
    callee_gone = in_call_under;
    calls_method = λ number args depth connection is index method to found. (
      λ agenda under. later_under number args depth connection is agenda under (method_call connection index method args) refl,
      λ agenda under. now_under number args depth connection is agenda under (method_now connection index method args depth) (methods_stay _ _ _ _ _ _ method),
    );
    calls_functor = λ number args depth connection is index functor to found. (
      λ agenda under. later_under number args depth connection is agenda under (functor_call connection index functor args) refl,
      λ agenda under. now_under number args depth connection is agenda under (functor_now connection index functor args depth) refl,
    );
    runs = λ target index sender args depth method is agenda under.
        in_front _
        (acts_stay (acts_of method.body.actions) args target sender (depth + 1))
        (told_under agenda doing (behind (Run target index sender args depth) refl under) (call_line method target sender args));
    runs_functor = λ target index sender connection args depth functor is agenda under.
        let new = line_told doing (functor_line functor target sender args) in
        let its = functor_state doing.state connection in
        let next = after functor.next its args in
        in_front _ (acts_stay (acts_of (with_state its functor.body).actions) args target sender (depth + 1))
        (stepped_under agenda new (told_under agenda doing (behind (RunFunctor target index sender connection args depth) refl under)
        (functor_line functor target sender args)) connection next);
    refused = λ action args self sender depth code. in_place_of (Act action args self sender depth) (Warn code (Some self) ∷ []) refl refl;
    emits = λ of signal sent args self sender depth emitted is. in_place_of (Act (single_action (e.Emit of signal sent)) args self sender depth)
        (Emit (object_of doing.state self sender of) emitted.0 emitted.1 depth ∷ []) refl refl;
    deletes = λ target args self sender depth. in_place_of (Act (single_action (e.Delete target)) args self sender depth)
        (Delete (object_of doing.state self sender target) depth ∷ []) refl refl;
    writes = λ of property value args self sender depth given writing is agenda under.
        let target = object_of doing.state self sender of in
        telling_kept depth (with_writing doing.state target writing) (written_property target writing) agenda
        (writing_under agenda doing (behind (Act (single_action (e.Set of property value)) args self sender depth) refl under) target writing
        (acted_fit doing.state target property given writing is));
    does = λ plain args self sender depth operation is passed agenda under.
        operation_under agenda doing (behind (Act (single_action plain) args self sender depth) refl under) operation passed;
    chooses = λ test held failed args self sender depth truth. in_place_of (Act (when test held failed) args self sender depth) _ refl
        (branch_stays truth held failed args self sender depth);
    dies = λ target depth living agenda under.
        in_front (Emit target DESTROYED [] depth ∷ []) refl
        (dying_under agenda doing (behind (Delete target depth) refl under) target depth);
    detaches = detaches_kept;
    deletes_child = λ parent child depth. in_place_of (DeleteChild parent child depth) (Delete child depth ∷ []) refl refl;
    removes = λ target depth agenda under. telling_kept depth (without_object doing.state target) None agenda (gone_under target depth doing under);
    takes = λ first later is some agenda under.
        in_front _ (event_stays settings (turn_taken doing).state first)
        (first_taken_under agenda (turn_taken doing) (turn_under agenda doing (behind Spin refl under)));
  }

pub item_under_way : (settings : Settings) (item : Item) (agenda : List Item) (doing : Execution) → IsUnderWay (item ∷ agenda) doing.state
    → IsUnderWay ((step settings item doing).items ++ agenda) (step settings item doing).doing.state
item_under_way settings item agenda doing = step_cases settings doing (KeepsUnderWay settings doing) (kept settings doing) item agenda
