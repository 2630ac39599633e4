-- What a session holds stays called by names, and what is still to be done sets only what has a name.
use Rattle.class_table.specs.declared.class.Property.{Property}
use Rattle.connection_list.specs.Rows.{has_number as has_connection_number}
use Rattle.plain_types.specs.Names.{is_name}
use Rattle.property_store.specs.Store.{dynamic_number, fresh, with_name}
use Rattle.property_store.specs.declared.dynamic.Named.{Named}
use Rattle.property_store.specs.declared.property.Property.{Property as At}
use Rattle.std.proofs.Common.{Bool, IsTrue, List, None, Ok, Option, Some, [], bytes_eq, cond, false, filter, nat_lt, not}
use Rattle.std.proofs.Common.{refl, set, slice_get, subst, sym, true, ℕ, ◌++◌, ◌+◌, ◌==◌, ◌∷◌, ◌≡◌}
use Rattle.std.proofs.lemmas.Bool.{and_parts, cond_both}
use Rattle.std.proofs.lemmas.List.Elements.{All-append, All-cons, All-filter, All-head, All-map, All-nil, All-push, All-set, All-tail, All-weaker}
use Rattle.std.specs.List.{All, cons_option}
use Rattle.std.specs.Option.{option_and_then, option_map, option_map_or}
use Rattle.session_model.proofs.Common.{is_bound, value_in, Change, ChangeKind, methods, Class, Method, calls, matches, Connection, Callee, has_room, Event}
use Rattle.session_model.proofs.Common.{QueuedCall, children, row_of, Row, Properties, fitting, with_dynamic, with_value, without_dynamic, Desk, Join}
use Rattle.session_model.proofs.Common.{Publication, Limit, Data, Acts, acts_of, nothing, after, with_state, acts, branch, call_items, call_line}
use Rattle.session_model.proofs.Common.{event_items, functor_line, method_items, queued, ran, step, posts_of, with_operation, Execution}
use Rattle.session_model.proofs.Common.{in_state, AreSettings, Act, Call, Detach, Emit, Remove, Item, DeleteChild, Next, Run, RunFunctor, Warn, WarnOf, puts}
use Rattle.session_model.proofs.Common.{method_at, AreNamed, IsNamedItem, run, Settings, changes, comes_to, told_as, told_value, State, empty, fields_of}
use Rattle.session_model.proofs.Common.{functor_state, with_binding_taken, with_event, with_functor_state, with_lost, with_object, with_properties}
use Rattle.session_model.proofs.Common.{without_connections, without_first, without_object, object_of, Declared, Dynamic, Nothing, Removed, Writing}
use Rattle.session_model.proofs.Common.{acted_writing, asked_writing, with_writing, written, written_property, DESTROYED, Operation, Line, Post, Value}
use Rattle.term_core.specs.Act.{are_named}
use Rattle.session_model.proofs.FittingTableLemmas.{functor_named, method_named}
use Rattle.session_model.proofs.RunLemmas.{run_keeps}
use Rattle.session_model.proofs.ShowingLemmas.{tells}
use Rattle.session_model.proofs.StepLemmas.{Cases, functor_call, in_call, method_call, step_cases}
use Rattle.session_model.specs.Agenda.{calls_of, delete_children}
use Rattle.session_model.specs.Operations.{operation_done}
use Rattle.session_model.specs.Execution.{dying, first_taken, line_told, lost, enqueued, posting, severed, single_shot_broken}
use Rattle.session_model.specs.Execution.{stepped, turn_taken, used_up}
use Rattle.session_model.specs.Named.{HasNames, IsNamedJoin, IsNamedPublication}
use Rattle.session_model.specs.Showing.{property_at}
use Rattle.session_model.specs.State.{with_blocking, with_connection}
use Rattle.session_model.specs.State.{with_parent}
use Rattle.session_model.specs.Thread.{arrives}
use Rattle.term_core.specs.Act as act
use Rattle.plain_types.specs.declared.callee.Callee.TheVariants as callee
use Rattle.session_model.specs.declared.operation.Operation.TheVariants as d
use Rattle.event_queue.specs.declared.event.Event.TheVariants as event
use Rattle.binding_values.specs.declared.change.ChangeKind.TheVariants as message
use Rattle.property_store.specs.Store as stored
use Rattle.session_model.specs.Items as to_do
use Rattle.session_model.proofs.FitLemmas.{acted_by, asked_by}

-- what is written where a name is given

abbrev HasName : Named → Type 0
HasName named = IsTrue (is_name named.name)

abbrev pub IsNamedWriting : Writing → Type 0
IsNamedWriting (Dynamic name value) = IsTrue (is_name name)
IsNamedWriting _ = Unit {0}

module _ (state : State) (object : ℕ) (name : List ℕ) (is : IsTrue (is_name name)) where
  pub asked_named : (given : Data) (writing : Writing) → asked_writing state object name given ≡ Ok writing → IsNamedWriting writing
  asked_named = asked_by state object name IsNamedWriting tt (λ place value there kind. tt) (λ value short free. is) tt

  acted_named : (value : Value) (writing : Writing) → acted_writing state object name value ≡ Ok writing → IsNamedWriting writing
  acted_named = acted_by state object name IsNamedWriting tt (λ place value there kind. tt) (λ value short free. is) tt

-- what a change leaves of a session

with_name_named : (name : List ℕ) (value : Value) (dynamic : List Named) → IsTrue (is_name name) → All HasName dynamic
    → All HasName (with_name name value dynamic)
with_name_named name value dynamic is all = by (dynamic_number name dynamic)
  where
    new : Named
    new = record { name = name; value = value }

    by : (number : Option ℕ) → All HasName (option_map_or (λ number. set dynamic number new) number (dynamic ++ new ∷ []))
    by None = All-push HasName dynamic new all is
    by (Some number) = All-set HasName dynamic number new is all

module _ (state : State) (named : AreNamed state) where
  -- a session with the same properties and the same desk
  pub named_beside : (new : State) → new.store ≡ state.store → new.desk ≡ state.desk → AreNamed new
  named_beside new store desk = record {
    store = subst (All HasNames) (sym store) named.store;
    publications = subst (λ (desk : Desk). All IsNamedPublication desk.publications) (sym desk) named.publications;
    joins = subst (λ (desk : Desk). All IsNamedJoin desk.joins) (sym desk) named.joins;
  }

  -- with other properties
  named_with_store : (new : State) → All HasNames new.store → new.desk ≡ state.desk → AreNamed new
  named_with_store new store desk = record {
    store = store;
    publications = subst (λ (desk : Desk). All IsNamedPublication desk.publications) (sym desk) named.publications;
    joins = subst (λ (desk : Desk). All IsNamedJoin desk.joins) (sym desk) named.joins;
  }

  named_with_properties : (number : ℕ) (change : Properties → Properties) → ((of : Properties) → HasNames of → HasNames (change of))
      → AreNamed (with_properties state number change)
  named_with_properties number change keeps = named_with_store (with_properties state number change)
      (All-map HasNames (λ (of : Properties). cond (of.object == number) (change of) of) state.store
      (All-weaker HasNames (λ (of : Properties). HasNames (cond (of.object == number) (change of) of))
      (λ of has. cond_both (of.object == number) (change of) of HasNames (λ same. keeps of has) (λ other. has)) state.store named.store))
      refl

  pub named_with_writing : (object : ℕ) (writing : Writing) → IsNamedWriting writing → AreNamed (with_writing state object writing)
  named_with_writing object (Declared number value) is = named_with_store (with_writing state object (Declared number value))
      (named_with_properties object (with_value number value) (λ of has. has)).store refl
  named_with_writing object (Dynamic name value) is = named_with_properties object (with_dynamic name value)
      (λ of has. with_name_named name value of.dynamic is has)
  named_with_writing object (Removed name) is = named_with_properties object (without_dynamic name)
      (λ of has. All-filter (λ (named : Named). not (bytes_eq named.name name)) HasName of.dynamic has)
  named_with_writing object Nothing is = named

  -- what a bound property shows is stored
  pub named_with_binding_taken : (at : At) → AreNamed (with_binding_taken state at)
  named_with_binding_taken at = named_with_store (with_binding_taken state at)
      (cond_both (is_bound state.graph.bindings at) (stored.written state.store at.object at.number shows) state.store (All HasNames)
      (λ bound. by (fitting state.store at.object at.number shows))
      (λ free. named.store))
      refl
    where
      shows : Value
      shows = (value_in state.store state.graph at).0

      by : (fit : Option Value) → All HasNames (option_map_or (λ fit. stored.changed (with_value at.number fit) at.object state.store) fit state.store)
      by None = named.store
      by (Some fit) = (named_with_properties at.object (with_value at.number fit) (λ of has. has)).store

  -- a new object has no dynamic properties
  pub named_with_object : (classes : List Class) (parent : Option ℕ) (class : ℕ) → AreNamed (with_object classes state parent class)
  named_with_object classes parent class = named_with_store (with_object classes state parent class)
      (All-append HasNames (filter (λ (of : Properties). nat_lt of.object number) state.store)
      (fresh number (fields_of classes class) ∷ filter (λ (of : Properties). nat_lt number of.object) state.store)
      (All-filter (λ (of : Properties). nat_lt of.object number) HasNames state.store named.store)
      (All-cons HasNames (fresh number (fields_of classes class)) (filter (λ (of : Properties). nat_lt number of.object) state.store) (All-nil HasName)
      (All-filter (λ (of : Properties). nat_lt number of.object) HasNames state.store named.store)))
      refl
    where
      number : ℕ
      number = state.forest.last_number + 1

  named_without_object : (target : ℕ) → AreNamed (without_object state target)
  named_without_object target = named_with_store (without_object state target)
      (All-filter (λ (of : Properties). not (of.object == target)) HasNames state.store named.store) refl

module _ (doing : Execution) (named : AreNamed doing.state) where
  beside : (new : State) → new.store ≡ doing.state.store → new.desk ≡ doing.state.desk → AreNamed new
  beside = named_beside doing.state named

  told_named : (said : Line) → AreNamed (line_told doing said).state
  unfolding line_told
  told_named said = named

  posting_named : (more : List Post) → AreNamed (posting doing more).state
  unfolding posting
  posting_named more = named

  turn_named : AreNamed (turn_taken doing).state
  unfolding turn_taken
  turn_named = named

  used_up_named : AreNamed (used_up doing).state
  unfolding used_up
  used_up_named = cond_both doing.spent doing _ (λ (new : Execution). AreNamed new.state) (λ spent. named) (λ fresh. named)

  shot_named : (row : Connection) → AreNamed (single_shot_broken doing row).state
  unfolding single_shot_broken
  shot_named row = cond_both row.single (in_state doing (without_connections doing.state (has_connection_number row.number))) doing
      (λ (new : Execution). AreNamed new.state)
      (λ single. beside (without_connections doing.state (has_connection_number row.number)) refl refl) (λ lasting. named)

  severed_named : (target : ℕ) → AreNamed (severed doing target).state
  unfolding severed
  severed_named target = record {
    store = named.store;
    publications = All-filter (λ (row : Publication). not (row.object == target)) IsNamedPublication doing.state.desk.publications named.publications;
    joins = All-filter (λ (join : Join). not (join.object == target)) IsNamedJoin doing.state.desk.joins named.joins;
  }

  queued_named : (call : QueuedCall) → AreNamed (queued doing call).state
  unfolding enqueued lost
  queued_named call = cond_both (has_room doing.state.queue) (enqueued doing (event.Call call)) (lost doing) (λ (new : Execution). AreNamed new.state)
      (λ room. beside (with_event doing.state (event.Call call)) refl refl) (λ full. beside (with_lost doing.state) refl refl)

  first_named : AreNamed (first_taken doing).state
  unfolding first_taken
  first_named = beside (without_first doing.state) refl refl

  stepped_named : (number next : ℕ) → AreNamed (stepped doing number next).state
  unfolding stepped
  stepped_named number next = beside (with_functor_state doing.state number next) refl refl

  dying_named : (target : ℕ) → AreNamed (dying doing target).state
  unfolding dying
  dying_named target = beside (dying doing target).state refl refl

  pub operation_named : (operation : Operation) → AreNamed (with_operation doing.state operation)
  operation_named (d.Connect new unique) = beside (with_connection doing.state new) refl refl
  operation_named (d.Disconnect pattern) = beside (without_connections doing.state (matches pattern)) refl refl
  operation_named (d.SetParent target parent) = beside (with_parent doing.state target parent) refl refl
  operation_named (d.DeleteLater target) = beside (with_event doing.state (event.Deletion target)) refl refl
  operation_named (d.Block target on) = beside (with_blocking doing.state target on) refl refl

  operation_done_named : (operation : Operation) → AreNamed (operation_done doing operation).state
  unfolding operation_done
  operation_done_named operation = operation_named operation

-- what an item comes to

-- what a list of actions has to do
acts_named : (actions : Acts) (args : List Value) (self sender depth : ℕ) → are_named actions ≡ true → All IsNamedItem (acts actions args self sender depth)
acts_named nothing args self sender depth is = All-nil IsNamedItem
acts_named (act.more action rest) args self sender depth is =
    All-cons IsNamedItem (Act action args self sender depth) (acts rest args self sender depth) (and_parts _ _ is).0
    (acts_named rest args self sender depth (and_parts _ _ is).1)

-- what is told of changes
pub tells_named : (settings : Settings) (after : State) (depth : ℕ) (changes : List Change) → All IsNamedItem (tells settings after depth changes)
tells_named settings after depth [] = All-nil IsNamedItem
tells_named settings after depth (change ∷ rest) = by change.told (tells_named settings after depth rest)
  where
    sent : (signal : Option ℕ) (value : Value) → All IsNamedItem (tells settings after depth rest)
        → All IsNamedItem (cons_option (option_map (λ signal. Emit change.at.object signal (told_value settings after change.at.object value signal) depth)
        signal) (tells settings after depth rest))
    sent None value later = later
    sent (Some signal) value later = All-cons IsNamedItem (Emit change.at.object signal (told_value settings after change.at.object value signal) depth)
        (tells settings after depth rest) tt later

    by : (what : ChangeKind) → All IsNamedItem (tells settings after depth rest)
        → All IsNamedItem (cons_option (told_as settings after depth change.at what) (tells settings after depth rest))
    by (message.Error error) later = All-cons IsNamedItem (WarnOf change.at error) (tells settings after depth rest) tt later
    by (message.Value value) later = sent (option_and_then (λ (property : Property). property.notify)
        (property_at settings after change.at.object change.at.number)) value later

-- what is to be done first sets only what has a name, and what the session holds is called by names
abbrev pub LeavesNamed : Next → Type 0
LeavesNamed next = All IsNamedItem next.items × AreNamed next.doing.state

comes_to_named : (settings : Settings) (doing : Execution) (depth : ℕ) {after : State} (written : Option At) → AreNamed after
    → LeavesNamed (comes_to settings doing depth after written)
comes_to_named settings doing depth {after} written named = (tells_named settings after depth (changes doing.state after written), named)

-- a session that has had no command
pub empty_named : AreNamed empty
empty_named = record { store = All-nil HasNames; publications = All-nil IsNamedPublication; joins = All-nil IsNamedJoin }

-- what each item comes to
module _ (settings : Settings) (are : AreSettings settings) where
  module _ (doing : Execution) (named : AreNamed doing.state) where
    abbrev StaysNamed : Item → Next → Type 0
    StaysNamed item next = IsNamedItem item → LeavesNamed next

    one : (item : Item) → IsNamedItem item → LeavesNamed (puts (item ∷ []) doing)
    one item is = (All-cons IsNamedItem item [] is (All-nil IsNamedItem), named)

    none : (new : Execution) → AreNamed new.state → LeavesNamed (puts [] new)
    none new is = (All-nil IsNamedItem, is)

    sends_named : (target signal : ℕ) (args : List Value) (depth : ℕ)
        → LeavesNamed (puts (calls_of doing target signal args depth) (posting doing (posts_of settings.classes doing.state target signal args)))
    unfolding calls_of
    sends_named target signal args depth = (
      All-map IsNamedItem (λ (row : Connection). Call row.number args depth) (filter (calls target signal) doing.state.connections.rows)
          (λ index default within. tt),
      posting_named doing named _,
    )

    detaches_named : (target depth : ℕ) → LeavesNamed (puts (delete_children doing target depth) (severed doing target))
    unfolding delete_children
    detaches_named target depth = (
      All-map IsNamedItem (λ child. DeleteChild target child depth) (children doing.state.forest.rows (Some target))
          (λ index default within. tt),
      severed_named doing named target,
    )

    method_items_named : (target index sender : ℕ) (args : List Value) (sent_at run_at : ℕ) (method : Method)
        → All IsNamedItem (method_items target index sender args sent_at run_at method)
    method_items_named target index sender args sent_at run_at method =
        cond_both method.is_signal (Emit target index args sent_at ∷ []) (Run target index sender args run_at ∷ []) (All IsNamedItem)
        (λ signal. (one (Emit target index args sent_at) tt).0) (λ slot. (one (Run target index sender args run_at) tt).0)

    event_items_named : (state : State) (first : Event) → All IsNamedItem (event_items settings state first)
    event_items_named state (event.Deletion target) = (one (to_do.Delete target 0) tt).0
    event_items_named state (event.Call call) = by call.callee
      where
        found : (index : ℕ) (method : Option Method) → All IsNamedItem (option_map_or (method_items call.object index call.sender call.args 0 0) method [])
        found index None = All-nil IsNamedItem
        found index (Some method) = method_items_named call.object index call.sender call.args 0 0 method

        by : (to : Callee) → All IsNamedItem (call_items settings state call to)
        by (callee.Method index) = found index (method_at settings state call.object index)
        by (callee.Functor index) = (one (RunFunctor call.object index call.sender call.connection call.args 0) tt).0

    runs_named : (target index sender : ℕ) (args : List Value) (depth : ℕ) (method : Method) → method_at settings doing.state target index ≡ Some method
        → LeavesNamed (ran doing target sender args depth method)
    runs_named target index sender args depth method is = (
      acts_named (acts_of method.body.actions) args target sender (depth + 1) (by (row_of doing.state.forest.rows target) is),
      told_named doing named (call_line method target sender args),
    )
      where
        by : (row : Option Row) → slice_get (option_map_or (λ (row : Row). methods settings.classes row.class) row []) index ≡ Some method
            → are_named (acts_of method.body.actions) ≡ true
        by None e = absurd (cc)
        by (Some row) e = method_named settings are row.class index method e

    chooses_named : (held failed : Acts) (args : List Value) (self sender depth : ℕ) (truth : Bool) → are_named held ≡ true → are_named failed ≡ true
        → LeavesNamed (puts (acts (branch truth held failed) args self sender depth) doing)
    chooses_named held failed args self sender depth true is other = (acts_named held args self sender depth is, named)
    chooses_named held failed args self sender depth false is other = (acts_named failed args self sender depth other, named)

    in_call_named : (connection : Connection) → AreNamed (in_call doing connection).state
    in_call_named = shot_named (turn_taken doing) (turn_named doing named)

    later_named : (connection : Connection) (call : QueuedCall) → LeavesNamed (puts [] (queued (in_call doing connection) call))
    later_named connection call = none (queued (in_call doing connection) call) (queued_named (in_call doing connection) (in_call_named connection) call)

    name_cases : Cases settings doing StaysNamed
    name_cases = record {
      rests = λ item leaves is. none doing named;
      tells = λ item said leaves is. none (line_told doing said) (told_named doing named said);
      uses_up = λ item leaves is. none (used_up doing) (used_up_named doing named);
      too_deep = λ target signal args depth is. one (Warn Limit (Some target)) tt;
      sends = λ target signal args depth row found is. sends_named target signal args depth;
      callee_gone = λ number args depth connection called is. none (in_call doing connection) (in_call_named connection);
      calls_method = λ number args depth connection called index method to found. (
        λ is. later_named connection (method_call connection index method args),
        λ is. (method_items_named _ _ _ _ _ _ method, in_call_named connection),
      );
      calls_functor = λ number args depth connection called index functor to found. (
        λ is. later_named connection (functor_call connection index functor args),
        λ is. (All-cons IsNamedItem _ [] tt (All-nil IsNamedItem), in_call_named connection),
      );
      runs = λ target index sender args depth method found is. runs_named target index sender args depth method found;
      runs_functor = λ target index sender connection args depth functor found is.
          let state = functor_state doing.state connection in
          let new = line_told doing (functor_line functor target sender args) in (
            acts_named (acts_of (with_state state functor.body).actions) args target sender (depth + 1) (functor_named settings are index state functor found),
            stepped_named new (told_named doing named (functor_line functor target sender args)) connection (after functor.next state args),
          );
      refused = λ action args self sender depth code is. one (Warn code (Some self)) tt;
      emits = λ of signal sent args self sender depth emitted found is.
          one (Emit (object_of doing.state self sender of) emitted.0 emitted.1 depth) tt;
      deletes = λ target args self sender depth is. one (to_do.Delete (object_of doing.state self sender target) depth) tt;
      writes = λ of property value args self sender depth given writing found is.
          let target = object_of doing.state self sender of in
          comes_to_named settings doing depth (written_property target writing)
          (named_with_writing doing.state named target writing (acted_named doing.state target property is given writing found));
      does = λ plain args self sender depth operation found passed is.
          none (operation_done doing operation) (operation_done_named doing named operation);
      chooses = λ test held failed args self sender depth truth is.
          chooses_named held failed args self sender depth truth (and_parts _ _ is).0 (and_parts _ _ is).1;
      dies = λ target depth living is. (
        All-cons IsNamedItem (Emit target DESTROYED [] depth) (Detach target depth ∷ Remove target depth ∷ []) tt
            (All-cons IsNamedItem (Detach target depth) (Remove target depth ∷ []) tt (All-cons IsNamedItem (Remove target depth) [] tt (All-nil IsNamedItem))),
        dying_named doing named target,
      );
      detaches = λ target depth is. detaches_named target depth;
      deletes_child = λ parent child depth is. one (to_do.Delete child depth) tt;
      removes = λ target depth is.
          comes_to_named settings doing depth None (named_without_object doing.state named target);
      takes = λ first later events some is. (
        All-append IsNamedItem (event_items settings (turn_taken doing).state first) (to_do.Spin ∷ [])
            (event_items_named (turn_taken doing).state first) (one to_do.Spin tt).0,
        first_named (turn_taken doing) (turn_named doing named),
      );
    }

  pub by_item : (item : Item) (agenda : List Item) (doing : Execution) → All IsNamedItem (item ∷ agenda) → AreNamed doing.state
      → All IsNamedItem ((step settings item doing).items ++ agenda) × AreNamed (step settings item doing).doing.state
  by_item item agenda doing items named =
      let next = step_cases settings doing (StaysNamed doing named) (name_cases doing named) item (All-head IsNamedItem item agenda items) in
      (All-append IsNamedItem (step settings item doing).items agenda next.0 (All-tail IsNamedItem item agenda items), next.1)

  -- after an agenda is done
  pub run_named : (agenda : List Item) (doing : Execution) → LeavesNamed (puts agenda doing) → AreNamed (run settings agenda doing).state
  run_named agenda doing kept = (run_keeps settings (λ agenda doing. LeavesNamed (puts agenda doing))
      (λ item agenda doing its. by_item item agenda doing its.0 its.1) agenda doing kept).1

-- nor does a post bring another name
pub post_named : (classes : List Class) (state : State) (from : List ℕ) (post : Post) → AreNamed state → AreNamed (arrives classes state from post)
unfolding arrives
post_named classes state from post named = named_beside state named (arrives classes state from post) refl refl
