-- With each item that is done a measure falls.
use Rattle.std.proofs.Common.{◌≡◌, ◌<◌, ◌≤◌, ◌+◌, ◌*◌, ◌==◌, ℕ, Bool, true, false, List, [], ◌∷◌, ◌++◌, filter, Option, Some, None, arith}
use Rattle.std.specs.Option.{option_map_or}
use Rattle.std.proofs.Math.Nat.{add-mul, mul-le-mul_right}
use Rattle.std.proofs.lemmas.Bool.{cond_both}
use Rattle.session_model.proofs.Common.{Value, Acts, acts_of, counts, when, Method, Callee, Connection, calls, Event, QueuedCall}
use Rattle.session_model.proofs.Common.{Property, children, after, with_state, acts, branch, posts_of, call_items, call_line}
use Rattle.session_model.proofs.Common.{event_items, functor_line, method_items, queued, step, Execution, first_taken, in_state}
use Rattle.session_model.proofs.Common.{line_told, turn_taken, posting, severed, stepped, Act, Call, Detach, Emit, Item}
use Rattle.session_model.proofs.Common.{Next, Run, Spin, puts, method_at, Most, change_weight, weights, Settings, State, without_object}
use Rattle.session_model.proofs.Common.{functor_state, comes_to, with_writing, written, written_property, object_of, Term}
use Rattle.plain_types.specs.declared.callee.Callee.TheVariants as callee
use Rattle.event_queue.specs.declared.event.Event.TheVariants as event
use Rattle.term_evaluation.proofs.ForCallers.{state_counts}
use Rattle.session_model.specs.Agenda.{calls_of, delete_children}
use Rattle.session_model.specs.Run.{action_weight, deletion_weight, most, turn_weight, weight}
use Rattle.session_model.proofs.ShowingLemmas.{told-weight}
use Rattle.session_model.proofs.LivingLemmas.{few_children, filter-fewer, living_rows}
use Rattle.session_model.proofs.WeightLemmas.{act-some, acts-weight, body-size, calls-weight, choice-weight, functor-size, delete_children-weight}
use Rattle.session_model.proofs.WeightLemmas.{weight-some, weights-append}
use Rattle.session_model.proofs.ShrinkLemmas.{Shrinks, both, operation_shrinks, dying_less, dying_shrinks, first_taken-turns, gone_shrinks, queued_shrinks}
use Rattle.session_model.proofs.ShrinkLemmas.{same, shot_shrinks, taken_shrinks, told_shrinks, turn_shrinks, turn_taken-less, used_up_shrinks}
use Rattle.session_model.proofs.ShrinkLemmas.{written_shrinks, posting_shrinks, severed_shrinks, stepped_shrinks}
use Rattle.session_model.proofs.StepLemmas.{Cases, IsCalled, functor_call, in_call, method_call, step_cases}

abbrev pub total : Most → Execution → ℕ → ℕ
total n doing items = doing.turns * turn_weight n + living_rows doing.state.forest.rows * deletion_weight n + items

-- what an item comes to is lower
pub record FallsTo (settings : Settings) (doing : Execution) (item : Item) (next : Next) : Type 0 where
  pub shrinks : Shrinks doing next.doing
  pub lower : total (most settings doing) next.doing (weights (most settings doing) next.items) < total (most settings doing) doing
      (weight (most settings doing) item)

-- a method that is called comes to less than a turn may
method_weight : (n : Most) (target index sender : ℕ) (args : List Value) (sent_at run_at : ℕ) (method : Method)
    → weights n (method_items target index sender args sent_at run_at method) < turn_weight n
method_weight n target index sender args sent_at run_at method =
    cond_both method.is_signal (Emit target index args sent_at ∷ []) (Run target index sender args run_at ∷ []) (λ items. weights n items < turn_weight n)
    (λ signal. omega arith)
    (λ slot. omega arith)

-- and so does an event
call_weight : (settings : Settings) (n : Most) (state : State) (call : QueuedCall) (called : Callee)
    → weights n (call_items settings state call called) < turn_weight n
call_weight settings n state call (callee.Functor index) = omega arith
call_weight settings n state call (callee.Method index) = by (method_at settings state call.object index)
  where
    by : (found : Option Method) → weights n (option_map_or (method_items call.object index call.sender call.args 0 0) found []) < turn_weight n
    by None = omega arith
    by (Some method) = method_weight n call.object index call.sender call.args 0 0 method

event_weight : (settings : Settings) (n : Most) (state : State) (event : Event) → weights n (event_items settings state event) < turn_weight n
event_weight settings n state (event.Call call) = call_weight settings n state call call.callee
event_weight settings n state (event.Deletion target) = omega arith

module _ (settings : Settings) (doing : Execution) where
  abbrev n : Most
  n = most settings doing

  abbrev Falls : Item → Next → Type 0
  Falls item next = FallsTo settings doing item next

  -- an item falls to lighter ones
  lighter : {item : Item} {next : Next} → Shrinks doing next.doing → weights n next.items < weight n item → Falls item next
  lighter shrinks less =
      let turns = mul-le-mul_right (turn_weight n) shrinks.turns in
      let deletions = mul-le-mul_right (deletion_weight n) shrinks.living in
      record { shrinks = shrinks; lower = omega (arith, turns, deletions, less) }

  -- or to what a turn may come to, where one is taken
  by_turn : {item : Item} {next : Next} → Shrinks doing next.doing → next.doing.turns + 1 ≤ doing.turns
      → weights n next.items < weight n item + turn_weight n → Falls item next
  by_turn {next} shrinks taken less =
      let turns = mul-le-mul_right (turn_weight n) taken in
      let one = add-mul next.doing.turns 1 (turn_weight n) in
      let deletions = mul-le-mul_right (deletion_weight n) shrinks.living in
      record { shrinks = shrinks; lower = omega (arith, turns, one, deletions, less) }

  -- or to what a deletion may come to, where one more object is dying
  by_deletion : {item : Item} {next : Next} → Shrinks doing next.doing
      → living_rows next.doing.state.forest.rows + 1 ≤ living_rows doing.state.forest.rows
      → weights n next.items < weight n item + deletion_weight n → Falls item next
  by_deletion {next} shrinks fewer less =
      let deletions = mul-le-mul_right (deletion_weight n) fewer in
      let one = add-mul (living_rows next.doing.state.forest.rows) 1 (deletion_weight n) in
      let turns = mul-le-mul_right (turn_weight n) shrinks.turns in
      record { shrinks = shrinks; lower = omega (arith, turns, one, deletions, less) }

  -- nothing is put in front, and nothing grows
  idle : {item : Item} {new : Execution} → Shrinks doing new → Falls item (puts [] new)
  idle {item} shrinks = let some = weight-some n item in lighter shrinks (omega (arith, some))

  -- other items are put in front, and nothing changes
  in_place_of : {item : Item} {items : List Item} → weights n items < weight n item → Falls item (puts items doing)
  in_place_of = lighter (same doing)

  -- another state falls to what tells of it
  telling_falls : {item : Item} (depth : ℕ) (after : State) (written : Option Property) → Shrinks doing (in_state doing after)
      → change_weight n < weight n item → Falls item (comes_to settings doing depth after written)
  telling_falls depth after written shrinks more =
      let few = told-weight settings doing depth after written n shrinks.properties in lighter shrinks (omega (arith, few, more))

  sends_fall : (target signal : ℕ) (args : List Value) (depth : ℕ) → Falls (Emit target signal args depth)
      (puts (calls_of doing target signal args depth) (posting doing (posts_of settings.classes doing.state target signal args)))
  unfolding calls_of
  sends_fall target signal args depth =
      let rows = doing.state.connections.rows in
      let one = calls-weight n args depth (filter (calls target signal) rows) in
      let few = filter-fewer (calls target signal) rows in
      lighter (posting_shrinks doing (posts_of settings.classes doing.state target signal args)) (omega (arith, one, few))

  detaches_fall : (target depth : ℕ) → Falls (Detach target depth) (puts (delete_children doing target depth) (severed doing target))
  unfolding delete_children
  detaches_fall target depth =
      let rows = doing.state.forest.rows in
      let two = delete_children-weight n target depth (children rows (Some target)) in
      let few = few_children rows (Some target) in
      lighter (severed_shrinks doing target) (omega (arith, two, few))

  -- a body of at most as many actions as the longest falls to them
  body_falls : {item : Item} {new : Execution} (body : Acts) (args : List Value) (self sender depth : ℕ) → Shrinks doing new → counts body ≤ n.actions
      → n.actions * action_weight n < weight n item → Falls item (puts (acts body args self sender depth) new)
  body_falls body args self sender depth shrinks within less =
      let its = acts-weight n body args self sender depth in
      let short = mul-le-mul_right (action_weight n) within in
      lighter shrinks (omega (arith, its, short, less))

  chooses_falls : (test : Term) (held failed : Acts) (args : List Value) (self sender depth : ℕ) (truth : Bool)
      → Falls (Act (when test held failed) args self sender depth) (puts (acts (branch truth held failed) args self sender depth) doing)
  chooses_falls test held failed args self sender depth true =
      let its = acts-weight n held args self sender depth in
      in_place_of (omega (arith, its, (choice-weight n held failed).0))
  chooses_falls test held failed args self sender depth false =
      let its = acts-weight n failed args self sender depth in
      in_place_of (omega (arith, its, (choice-weight n held failed).1))

  module _ {number : ℕ} {connection : Connection} (is : IsCalled number doing connection) where
    abbrev new : Execution
    new = in_call doing connection

    in_call_shrinks : Shrinks doing new
    in_call_shrinks = both doing (turn_taken doing) new (turn_shrinks doing) (shot_shrinks (turn_taken doing) connection)

    in_call-less : new.turns + 1 ≤ doing.turns
    in_call-less = let less = turn_taken-less doing is.turn in let shot = shot_shrinks (turn_taken doing) connection in omega (arith, less, shot.turns)

    -- a connection's call falls to what its turn may come to, also where it is posted or lost
    later_falls : {args : List Value} {depth : ℕ} (call : QueuedCall) → Falls (Call number args depth) (puts [] (queued new call))
    later_falls call =
        let later = queued_shrinks new call in
        by_turn (both doing new (queued new call) in_call_shrinks later)
        (omega (arith, in_call-less, later.turns)) (omega arith)

    now_falls : {args : List Value} {depth : ℕ} {items : List Item} → weights n items < turn_weight n → Falls (Call number args depth) (puts items new)
    now_falls few = by_turn in_call_shrinks in_call-less (omega (arith, few))

  takes_falls : (first : Event) → (doing.turns == 0) ≡ false
      → Falls Spin (puts (event_items settings (turn_taken doing).state first ++ Spin ∷ []) (first_taken (turn_taken doing)))
  takes_falls first some =
      let taken = turn_taken doing in
      let items = event_items settings taken.state first in
      let turns = first_taken-turns taken in
      let few = event_weight settings n taken.state first in
      let parts = weights-append n items (Spin ∷ []) in
      let less = turn_taken-less doing some in
      by_turn (taken_shrinks doing some) (omega (arith, less, turns)) (omega (arith, few, parts))

  fall_cases : Cases settings doing Falls
  fall_cases = record {
    rests = λ item leaves. idle (same doing);
    tells = λ item said leaves. idle (told_shrinks doing said);
    uses_up = λ item leaves. idle (used_up_shrinks doing);
    too_deep = λ target signal args depth. in_place_of (omega arith);
    sends = λ target signal args depth row is. sends_fall target signal args depth;
    callee_gone = λ number args depth connection is. idle (in_call_shrinks is);
    calls_method = λ number args depth connection is index method to found. (
      later_falls is (method_call connection index method args),
      now_falls is (method_weight n _ _ _ _ _ _ method),
    );
    calls_functor = λ number args depth connection is index functor to found. (
      later_falls is (functor_call connection index functor args),
      now_falls is (omega arith),
    );
    runs = λ target index sender args depth method is.
        let size = body-size settings doing.state target index method is in
        body_falls (acts_of method.body.actions) args target sender (depth + 1) (told_shrinks doing (call_line method target sender args))
        (omega (arith, size)) (omega arith);
    runs_functor = λ target index sender connection args depth functor is.
        let size = functor-size settings index functor is in
        let state = functor_state doing.state connection in
        let said = functor_line functor target sender args in
        let new = line_told doing said in
        let next = after functor.next state args in
        body_falls (acts_of (with_state state functor.body).actions) args target sender (depth + 1)
        (both doing new (stepped new connection next) (told_shrinks doing said) (stepped_shrinks new connection next))
        (omega (arith, size, state_counts functor.body state)) (omega arith);
    refused = λ action args self sender depth code.
        let some = act-some n action in in_place_of (omega (arith, some));
    emits = λ of signal sent args self sender depth emitted is. in_place_of (omega arith);
    deletes = λ target args self sender depth. in_place_of (omega arith);
    writes = λ of property value args self sender depth given writing is.
        let target = object_of doing.state self sender of in
        telling_falls depth (with_writing doing.state target writing)
        (written_property target writing) (written_shrinks doing target writing) (omega arith);
    does = λ plain args self sender depth operation is passed. idle (operation_shrinks doing operation passed);
    chooses = chooses_falls;
    dies = λ target depth living. by_deletion (dying_shrinks doing target living) (dying_less doing target living) (omega arith);
    detaches = detaches_fall;
    deletes_child = λ parent child depth. in_place_of (omega arith);
    removes = λ target depth. telling_falls depth (without_object doing.state target) None (gone_shrinks doing target) (omega arith);
    takes = λ first later is some. takes_falls first some;
  }

-- what an item comes to is lower
pub falls : (settings : Settings) (item : Item) (doing : Execution) → FallsTo settings doing item (step settings item doing)
falls settings item doing = step_cases settings doing (FallsTo settings doing) (fall_cases settings doing) item
