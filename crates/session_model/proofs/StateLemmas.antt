-- What each change leaves of a session's state.
use Rattle.std.proofs.Common.{◌≡◌, ◌+◌, ◌<◌, ◌≤◌, ◌==◌, ℕ, suc, Bool, true, false, not, cond, List, [], ◌∷◌, ◌++◌, Option, Some, None, filter, refl, sym, ap}
use Rattle.std.proofs.Common.{◌∙◌, subst, arith}
use Rattle.std.specs.List.{All, AllByRecursion}
use Rattle.std.proofs.lemmas.List.Elements.{All-filter, All-map, All-push, All-weaker, recursion_from_All}
use Rattle.std.specs.Option.{option_map_or}
use Rattle.std.proofs.lemmas.Bool.{cond_both, lt-ltb}
use Rattle.session_model.proofs.Common.{Class, Row, Forest, is_there, numbers, marked, Connection, NewConnection, numbered, all_stepped, Event, Queue, Desk}
use Rattle.session_model.proofs.Common.{AreSound, Properties, changed, fitting, properties_of, with_value, Value, is_within_limits, Term, Graph, begin_refusal}
use Rattle.session_model.proofs.Common.{bind_refusal, is_bound, is_open, unbound, value_in, IsMeant, IsTied, IsWhole, OfDesk, State, empty, fields_of}
use Rattle.session_model.proofs.Common.{with_binding_taken, with_event, with_functor_state, with_lost, with_object, with_properties, without_connections}
use Rattle.session_model.proofs.Common.{without_first, without_group, without_object, Declared, Dynamic, Nothing, Removed, Writing, with_writing}
use Rattle.object_tree.specs.Forest as tree
use Rattle.object_tree.specs.Refusing.{add_refusal, set_parent_refusal}
use Rattle.object_tree.proofs.ForCallers.{keeps_numbers, keeps_sound}
use Rattle.connection_list.specs.Rows as list
use Rattle.connection_list.proofs.ForCallers.{sound_stepped, IsSound-without}
use Rattle.event_queue.specs.Queue.{IsSound, object_of}
use Rattle.publish_board.specs.Desk as board
use Rattle.publish_board.specs.Desk.{without_object as withdrawn}
use Rattle.property_store.specs.Store.{written}
use Rattle.property_store.specs.declared.property.Property.{Property as At}
use Rattle.binding_values.specs.Graph as graph
use Rattle.binding_values.specs.Graph.{begun, bound, ended}
use Rattle.binding_values.proofs.ForCallers.{value_short}
use Rattle.property_store.proofs.ForCallers.{objects, objects_added, objects_changed, objects_without, sound_added, sound_changed, sound_empty, sound_without}
use Rattle.session_model.specs.State.{closed, with_binding, with_blocking}
use Rattle.session_model.specs.State.{with_connection, with_desk, with_group, with_parent}
use Rattle.session_model.specs.State.{without_binding, without_events}
use Rattle.session_model.specs.State.{without_rows_of}
use Rattle.session_model.proofs.BindingLemmas.{AreBindable, IsBindable, bindable_added, bindable_bound, bindable_changed, bindable_unbound, bindable_without}
use Rattle.session_model.proofs.BindingLemmas.{fit_sound, graph_sound_begun, graph_sound_bound, graph_sound_ended, graph_sound_none, graph_sound_unbound}
use Rattle.session_model.proofs.BindingLemmas.{graph_sound_without}
use Rattle.session_model.proofs.ConnectionLemmas.{Ends, IsAllowed, sound_connected, sound_empty as none_connected, tied_more, tied_same, tied_without}
use Rattle.session_model.proofs.QueueLemmas.{each_dropped, each_posted, each_taken, meant_more, meant_same, meant_without, sound_dropped, sound_lost}
use Rattle.session_model.proofs.QueueLemmas.{sound_none, sound_posted, sound_taken}
use Rattle.session_model.proofs.DeskLemmas.{desk_more, desk_same, desk_without, of_withdrawn, sound_bare, sound_withdrawn}
use Rattle.session_model.proofs.FitLemmas.{IsFit}

pub whole_empty : IsWhole empty
whole_empty = record {
  forest = keeps_sound.at_first;
  objects = refl;
  properties = sound_empty;
  graph = graph_sound_none;
  bound = λ index default within. absurd (omega arith);
  closed = λ closed. refl;
  connections = none_connected;
  ends = λ index default within. absurd (omega arith);
  queue = sound_none;
  meant = λ index default within. absurd (omega arith);
  desk = sound_bare;
  named = record { publications = λ index default within. absurd (omega arith); joins = λ index default within. absurd (omega arith) };
}

pub whole_with_object : (classes : List Class) {state : State} (parent : Option ℕ) (class : ℕ) → add_refusal state.forest parent ≡ None → IsWhole state
    → IsWhole (with_object classes state parent class)
whole_with_object classes {state} parent class allowed whole = record {
  forest = keeps_sound.by_added state.forest parent class allowed whole.forest;
  objects = objects_added state.store (state.forest.last_number + 1) (fields_of classes class) below
      ∙ ap (λ numbers. numbers ++ (state.forest.last_number + 1) ∷ []) whole.objects ∙ sym (keeps_numbers.by_added state.forest parent class);
  properties = sound_added state.store (state.forest.last_number + 1) (fields_of classes class) whole.properties;
  graph = whole.graph;
  bound = bindable_added (state.forest.last_number + 1) (fields_of classes class) state.store state.graph.bindings below whole.bound;
  closed = whole.closed;
  connections = whole.connections;
  ends = tied_more state (with_object classes state parent class) (state.forest.last_number + 1)
      (keeps_numbers.by_added state.forest parent class) state.connections.rows whole.ends;
  queue = whole.queue;
  meant = meant_more state (with_object classes state parent class) (state.forest.last_number + 1)
      (keeps_numbers.by_added state.forest parent class) state.queue.events whole.meant;
  desk = whole.desk;
  named = desk_more state (with_object classes state parent class) (state.forest.last_number + 1)
      (keeps_numbers.by_added state.forest parent class) whole.named;
}
  where
    below : AllByRecursion (λ number. number < state.forest.last_number + 1) (objects state.store)
    below = subst (AllByRecursion (λ number. number < state.forest.last_number + 1)) (sym whole.objects)
        (recursion_from_All (λ number. number < state.forest.last_number + 1) (numbers state.forest.rows)
        (All-map (λ number. number < state.forest.last_number + 1) (λ (row : Row). row.number) state.forest.rows
        (All-weaker (λ (row : Row). row.number ≤ state.forest.last_number) (λ (row : Row). row.number < state.forest.last_number + 1)
        (λ row h. omega arith) state.forest.rows whole.forest.numbers_given)))

-- another forest of the same objects
whole_with_forest : {state : State} {forest : Forest} → tree.IsSound forest → numbers forest.rows ≡ numbers state.forest.rows → IsWhole state
    → IsWhole (record state { forest = forest })
whole_with_forest {state} {forest} sound same whole = record {
  forest = sound;
  objects = whole.objects ∙ sym same;
  properties = whole.properties;
  graph = whole.graph;
  bound = whole.bound;
  closed = whole.closed;
  connections = whole.connections;
  ends = tied_same state (record state { forest = forest }) same state.connections.rows whole.ends;
  queue = whole.queue;
  meant = meant_same state (record state { forest = forest }) same state.queue.events whole.meant;
  desk = whole.desk;
  named = desk_same state (record state { forest = forest }) same whole.named;
}

pub whole_with_parent : {state : State} (number : ℕ) (parent : Option ℕ) → set_parent_refusal state.forest number parent ≡ None → IsWhole state
    → IsWhole (with_parent state number parent)
whole_with_parent {state} number parent allowed whole = whole_with_forest (keeps_sound.by_reparented state.forest number parent allowed whole.forest)
    (keeps_numbers.by_reparented state.forest number parent) whole

pub whole_with_properties : {state : State} (number : ℕ) (change : Properties → Properties) → ((of : Properties) → (change of).object ≡ of.object)
    → ((of : Properties) → (change of).fields ≡ of.fields)
    → ((of : Properties) → properties_of state.store number ≡ Some of → AreSound of → AreSound (change of)) → IsWhole state
    → IsWhole (with_properties state number change)
whole_with_properties {state} number change same fields keeps whole = record {
  forest = whole.forest;
  objects = objects_changed change number same state.store ∙ whole.objects;
  properties = sound_changed change number same state.store keeps whole.properties;
  graph = whole.graph;
  bound = bindable_changed change number same fields state.store state.graph.bindings whole.bound;
  closed = whole.closed;
  connections = whole.connections;
  ends = tied_same state (with_properties state number change) refl state.connections.rows whole.ends;
  queue = whole.queue;
  meant = whole.meant;
  desk = whole.desk;
  named = whole.named;
}

-- other bindings and groups: what is bound is there and may be bound, and outside of groups nothing is kept
abbrev with_graph : State → Graph → State
with_graph state new = record state { graph = new }

pub whole_with_graph : {state : State} {new : Graph} → graph.IsSound new → AreBindable state.store new.bindings → (is_open new ≡ false → new.last ≡ [])
    → IsWhole state → IsWhole (with_graph state new)
whole_with_graph {state} {new} sound bound closed whole = record {
  forest = whole.forest;
  objects = whole.objects;
  properties = whole.properties;
  graph = sound;
  bound = bound;
  closed = closed;
  connections = whole.connections;
  ends = tied_same state (with_graph state new) refl state.connections.rows whole.ends;
  queue = whole.queue;
  meant = whole.meant;
  desk = whole.desk;
  named = whole.named;
}

pub whole_without_binding : {state : State} (at : At) → IsWhole state → IsWhole (without_binding state at)
whole_without_binding {state} at whole = whole_with_graph (graph_sound_unbound at whole.graph)
    (bindable_unbound state.store state.graph at whole.bound) whole.closed whole

pub whole_with_binding : {state : State} (at : At) (term : Term) → IsBindable state.store at → is_within_limits term ≡ true → bind_refusal state.graph at ≡ None
    → IsWhole state → IsWhole (with_binding state at term)
whole_with_binding {state} at term is short passed whole =
    whole_with_graph (graph_sound_bound at term passed short whole.graph)
    (bindable_bound state.store (record { at = at; expr = term }) state.graph.bindings is whole.bound) whole.closed whole

pub whole_with_group : {state : State} → begin_refusal state.graph ≡ None → IsWhole state → IsWhole (with_group state)
whole_with_group {state} passed whole = whole_with_graph
    (graph_sound_begun whole.properties passed whole.graph) whole.bound
    (λ closed. absurd (let never : true ≡ false = sym (lt-ltb 0 (suc state.graph.depth) (omega arith)) ∙ closed in cc)) whole

pub whole_without_group : {state : State} → IsWhole state → IsWhole (without_group state)
whole_without_group {state} whole = whole_with_graph (graph_sound_ended whole.graph)
    (bound (is_open (ended state.graph))) (none (is_open (ended state.graph)) refl) whole
  where
    bound : (deep : Bool) → AreBindable state.store (cond deep (ended state.graph) (record (ended state.graph) { last = [] })).bindings
    bound true = whole.bound
    bound false = whole.bound

    none : (deep : Bool) → is_open (ended state.graph) ≡ deep → is_open (cond deep (ended state.graph) (record (ended state.graph) { last = [] })) ≡ false
        → (cond deep (ended state.graph) (record (ended state.graph) { last = [] })).last ≡ []
    none true is e = absurd (let never : true ≡ false = sym is ∙ e in cc)
    none false is e = refl

-- what a property shows is stored, and it is bound no longer
pub whole_with_binding_taken : {state : State} (at : At) → IsWhole state → IsWhole (with_binding_taken state at)
whole_with_binding_taken {state} at whole =
    cond_both (is_bound state.graph.bindings at) (written state.store at.object at.number shows) state.store
    (λ store. IsWhole (record state { store = store; graph = unbound state.graph at }))
    (λ bound. by (fitting state.store at.object at.number shows) refl)
    (λ free. whole_without_binding at whole)
  where
    shows : Value
    shows = (value_in state.store state.graph at).0

    by : (fit : Option Value) → fitting state.store at.object at.number shows ≡ fit
        → IsWhole (record state {
          store = option_map_or (λ fit. changed (with_value at.number fit) at.object state.store) fit state.store;
          graph = unbound state.graph at;
        })
    by None is = whole_without_binding at whole
    by (Some fit) is =
        whole_without_binding at
        (whole_with_properties at.object (with_value at.number fit) (λ of. refl) (λ of. refl)
        (fit_sound state.store at.object at.number shows fit (value_short state.store whole.properties state.graph whole.graph at) is) whole)

-- what is written fits its object
pub whole_with_writing : {state : State} (object : ℕ) (writing : Writing) → IsFit state object writing → IsWhole state
    → IsWhole (with_writing state object writing)
whole_with_writing {state} object (Declared number value) fit whole =
    whole_without_binding (record { object = object; number = number })
    (whole_with_properties object _ (λ of. refl) (λ of. refl) fit whole)
whole_with_writing object (Dynamic name value) fit whole = whole_with_properties object _ (λ of. refl) (λ of. refl) fit whole
whole_with_writing object (Removed name) fit whole = whole_with_properties object _ (λ of. refl) (λ of. refl) fit whole
whole_with_writing object Nothing fit whole = whole

pub whole_with_dying : {state : State} (number : ℕ) → IsWhole state → IsWhole (record state { forest = marked state.forest number })
whole_with_dying {state} number whole = whole_with_forest (keeps_sound.by_marked state.forest number whole.forest)
    (keeps_numbers.by_marked state.forest number) whole

pub whole_with_blocking : {state : State} (number : ℕ) (on : Bool) → IsWhole state → IsWhole (with_blocking state number on)
whole_with_blocking {state} number on whole = whole_with_forest (keeps_sound.by_blocked state.forest number on whole.forest)
    (keeps_numbers.by_blocked state.forest number on) whole

-- an object may go that no connection has as an end, no event names, and no publication and no join
pub whole_without_object : {state : State} (number : ℕ) → Ends (λ end. (end == number) ≡ false) state.connections.rows
    → All (λ event. (object_of event == number) ≡ false) state.queue.events
    → OfDesk (λ other. (other == number) ≡ false) state.desk → IsWhole state → IsWhole (without_object state number)
whole_without_object {state} number loose unnamed bare whole = record {
  forest = keeps_sound.by_removed state.forest number whole.forest;
  objects = objects_without state.store number ∙ ap (filter (λ key. not (key == number))) whole.objects ∙ sym (keeps_numbers.by_removed state.forest number);
  properties = sound_without state.store number whole.properties;
  graph = graph_sound_without number whole.graph;
  bound = bindable_without number state.store state.graph whole.bound;
  closed = whole.closed;
  connections = whole.connections;
  ends = tied_without state (without_object state number) number (keeps_numbers.by_removed state.forest number) state.connections.rows loose whole.ends;
  queue = whole.queue;
  meant = meant_without state (without_object state number) number (keeps_numbers.by_removed state.forest number) state.queue.events unnamed whole.meant;
  desk = whole.desk;
  named = desk_without state (without_object state number) number (keeps_numbers.by_removed state.forest number) bare whole.named;
}

-- other ties between objects: each end of a connection stands, and what an event or the desk names
whole_with_ties : {state : State} {connections : list.Rows} {queue : Queue} {desk : Desk} → list.IsSound connections → All (IsTied state) connections.rows
    → IsSound queue → All (IsMeant state) queue.events → board.IsSound desk → OfDesk (λ number. is_there state.forest.rows number ≡ true) desk → IsWhole state
    → IsWhole (record state { connections = connections; queue = queue; desk = desk })
whole_with_ties {state} {connections} {queue} {desk} rising tied few meant sound named whole =
    let new : State = record state { connections = connections; queue = queue; desk = desk } in
    record {
      forest = whole.forest;
      objects = whole.objects;
      properties = whole.properties;
      graph = whole.graph;
      bound = whole.bound;
      closed = whole.closed;
      connections = rising;
      ends = tied_same state new refl connections.rows tied;
      queue = few;
      meant = meant;
      desk = sound;
      named = named;
    }

whole_with_rows : {state : State} {connections : list.Rows} → list.IsSound connections → All (IsTied state) connections.rows → IsWhole state
    → IsWhole (record state { connections = connections })
whole_with_rows rising tied whole = whole_with_ties rising tied whole.queue whole.meant whole.desk
    whole.named whole

pub whole_with_connection : {state : State} (new : NewConnection) → IsAllowed state.connections → is_there state.forest.rows new.sender ≡ true
    → is_there state.forest.rows new.receiver ≡ true → IsWhole state → IsWhole (with_connection state new)
whole_with_connection {state} new allowed sender receiver whole =
    whole_with_rows (sound_connected new allowed whole.connections)
    (All-push (IsTied state) state.connections.rows (numbered (state.connections.last_number + 1) new) whole.ends
    (record { sender = sender; receiver = receiver })) whole

pub whole_without_connections : {state : State} (test : Connection → Bool) → IsWhole state → IsWhole (without_connections state test)
whole_without_connections {state} test whole = whole_with_rows (IsSound-without test state.connections whole.connections)
    (All-filter (λ row. not (test row)) (IsTied state) state.connections.rows whole.ends) whole

pub whole_with_functor_state : {state : State} (number next : ℕ) → IsWhole state → IsWhole (with_functor_state state number next)
whole_with_functor_state {state} number next whole = whole_with_rows (sound_stepped number next state.connections whole.connections)
    (all_stepped number next (IsTied state) (λ row tied. record { sender = tied.sender; receiver = tied.receiver }) state.connections.rows whole.ends) whole

-- other events: each names an object that stands
abbrev with_queue : State → Queue → State
with_queue state queue = record state { queue = queue }

pub whole_with_queue : {state : State} {queue : Queue} → IsSound queue → All (IsMeant state) queue.events → IsWhole state → IsWhole (with_queue state queue)
whole_with_queue sound meant whole = whole_with_ties whole.connections whole.ends sound meant whole.desk
    whole.named whole

pub whole_with_event : {state : State} (event : Event) → IsMeant state event → IsWhole state → IsWhole (with_event state event)
whole_with_event {state} event there whole =
    whole_with_queue (sound_posted event whole.queue)
    (each_posted (IsMeant state) state.queue event there whole.meant) whole

pub whole_without_events : {state : State} (number : ℕ) → IsWhole state → IsWhole (without_events state number)
whole_without_events {state} number whole =
    whole_with_queue (sound_dropped number whole.queue)
    (each_dropped (IsMeant state) number state.queue whole.meant) whole

pub whole_without_first : {state : State} → IsWhole state → IsWhole (without_first state)
whole_without_first {state} whole =
    whole_with_queue (sound_taken whole.queue) (each_taken (IsMeant state) state.queue whole.meant) whole

pub whole_with_lost : {state : State} → IsWhole state → IsWhole (with_lost state)
whole_with_lost {state} whole = whole_with_queue (sound_lost whole.queue) whole.meant whole

-- another desk: each object that it names stands
pub whole_with_desk : {state : State} {desk : Desk} → board.IsSound desk → OfDesk (λ number. is_there state.forest.rows number ≡ true) desk → IsWhole state
    → IsWhole (with_desk state desk)
whole_with_desk sound named whole = whole_with_ties whole.connections whole.ends whole.queue whole.meant
    sound named whole

pub whole_without_rows_of : {state : State} (number : ℕ) → IsWhole state → IsWhole (without_rows_of state number)
whole_without_rows_of {state} number whole =
    whole_with_desk (sound_withdrawn number whole.desk)
    (of_withdrawn (λ number. is_there state.forest.rows number ≡ true) state.desk whole.named number) whole
