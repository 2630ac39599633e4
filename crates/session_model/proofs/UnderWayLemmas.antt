-- What each item leaves of a session under way.
use Rattle.std.proofs.Common.{◌≡◌, ◌==◌, ◌||◌, ◌&&◌, ◌+◌, ℕ, Bool, true, false, not, List, [], ◌∷◌, ◌++◌, None, refl, sym, ap, ◌∙◌}
use Rattle.std.specs.Cmp.{nat_eq_equiv}
use Rattle.std.specs.List.{All, list_any}
use Rattle.std.proofs.lemmas.Bool.{cond_both, or_left, or_right}
use Rattle.std.proofs.lemmas.List.Elements.{All-filter, All-push, All-weaker}
use Rattle.std.proofs.lemmas.List.Folds.{list_any-append}
use Rattle.session_model.proofs.Common.{TurnsUsedUp, Connection, matches, touches, has_number, numbered, all_stepped, Event, QueuedCall, Queue, has_room}
use Rattle.session_model.proofs.Common.{object_refusal, is_there, Line, Warning, Post, queued, Operation, operation_refusal, Execution, in_state, Detach}
use Rattle.session_model.proofs.Common.{Remove, Item, IsTied, IsWhole, State, without_connections, without_object, Nothing, Writing, with_writing, IsUnderWay}
use Rattle.session_model.proofs.Common.{is_gone}
use Rattle.event_queue.specs.declared.event.Event.TheVariants as event
use Rattle.event_queue.specs.Queue.{object_of}
use Rattle.session_model.specs.declared.operation.Operation.TheVariants as d
use Rattle.session_model.specs.Operations.{operation_done}
use Rattle.session_model.specs.Execution.{dying, first_taken, lost, enqueued, single_shot_broken, stepped, line_told, turn_taken}
use Rattle.session_model.specs.Execution.{used_up, posting, severed}
use Rattle.session_model.specs.State.{without_events}
use Rattle.session_model.specs.UnderWay.{IsBrokenInTime, IsForgottenInTime, is_untied_first, lets_go, unties}
use Rattle.session_model.proofs.ConnectionLemmas.{OfEnds, allowed, or_none}
use Rattle.session_model.proofs.ForestLemmas.{Stands, each_blocked, each_marked, each_removed, each_reparented, of_row, stands_living}
use Rattle.session_model.proofs.QueueLemmas.{each_posted, each_taken}
use Rattle.session_model.proofs.DeskLemmas.{each_of, of_others}
use Rattle.session_model.proofs.FitLemmas.{IsFit}
use Rattle.session_model.proofs.StateLemmas.{whole_with_blocking, whole_with_connection, whole_with_dying, whole_with_event, whole_with_functor_state}
use Rattle.session_model.proofs.StateLemmas.{whole_with_lost, whole_with_parent, whole_with_writing, whole_without_connections, whole_without_events}
use Rattle.session_model.proofs.StateLemmas.{whole_without_first, whole_without_object, whole_without_rows_of}
use Rattle.session_model.proofs.StepLemmas.{leaves_ties}
use Rattle.session_model.proofs.FilterLemmas.{all_left}

-- an object is dying exactly where an agenda is to let it go
abbrev pub IsGoing : List Item → ℕ → ℕ → Bool → Type 0
IsGoing agenda number class dying = list_any (lets_go number) agenda ≡ dying

-- an item that lets no object go does not let this one go
goes_gone : (number : ℕ) (item : Item) → is_gone item ≡ false → lets_go number item ≡ false
goes_gone number (Remove target depth) e = absurd (cc)
goes_gone number _ e = refl

-- where none of two tests passes
none_first : (a b : Bool) → (a || b) ≡ false → a ≡ false
none_first true b e = e
none_first false b e = refl

none_second : (a b : Bool) → (a || b) ≡ false → b ≡ false
none_second true b e = absurd (cc)
none_second false b e = e

-- an agenda that lets no object go does not let this one go
pub none_goes : (number : ℕ) (agenda : List Item) → list_any is_gone agenda ≡ false → list_any (lets_go number) agenda ≡ false
none_goes number [] e = refl
none_goes number (item ∷ agenda) e =
    ap (λ b. b || list_any (lets_go number) agenda) (goes_gone number item (none_first (is_gone item) _ e))
    ∙ none_goes number agenda (none_second (is_gone item) _ e)

-- what is not let go need not be untied first
pub untied_staying : (number : ℕ) (agenda : List Item) → list_any (lets_go number) agenda ≡ false → is_untied_first agenda number ≡ true
untied_staying number [] e = refl
untied_staying number (item ∷ agenda) e =
    or_right (unties number item) _
    (ap (λ b. not b && is_untied_first agenda number) (none_first (lets_go number item) _ e)
    ∙ untied_staying number agenda (none_second (lets_go number item) _ e))

-- what is put in front lets nothing go
untied_behind : (number : ℕ) (items agenda : List Item) → list_any is_gone items ≡ false → is_untied_first agenda number ≡ true
    → is_untied_first (items ++ agenda) number ≡ true
untied_behind number [] agenda e untied = untied
untied_behind number (item ∷ items) agenda e untied =
    or_right (unties number item) _
    (ap (λ b. not b && is_untied_first (items ++ agenda) number) (goes_gone number item (none_first (is_gone item) _ e))
    ∙ untied_behind number items agenda (none_second (is_gone item) _ e) untied)

-- a connection that is broken in time in one agenda is so in another
in_time : (one other : List Item) → ((number : ℕ) → is_untied_first one number ≡ true → is_untied_first other number ≡ true) → (rows : List Connection)
    → All (IsBrokenInTime one) rows → All (IsBrokenInTime other) rows
in_time one other so rows all index default within =
    let was : IsBrokenInTime one _ = all index default within in
    record { sender = so _ was.sender; receiver = so _ was.receiver }

-- and so is an event that is forgotten in time
still_forgotten : (one other : List Item) → ((number : ℕ) → is_untied_first one number ≡ true → is_untied_first other number ≡ true) → (events : List Event)
    → All (IsForgottenInTime one) events → All (IsForgottenInTime other) events
still_forgotten one other so events = All-weaker (IsForgottenInTime one) (IsForgottenInTime other) (λ event. so (object_of event)) events

pub in_front : (items : List Item) {agenda : List Item} {state : State} → list_any is_gone items ≡ false → IsUnderWay agenda state
    → IsUnderWay (items ++ agenda) state
in_front items {agenda} {state} none under = record {
  whole = under.whole;
  going = All-weaker (λ row. IsGoing agenda row.number row.class row.dying) (λ row. IsGoing (items ++ agenda) row.number row.class row.dying)
      (λ row is. list_any-append (lets_go row.number) items agenda ∙ ap (λ b. b || list_any (lets_go row.number) agenda) (none_goes row.number items none) ∙ is)
      state.forest.rows under.going;
  in_time = in_time agenda (items ++ agenda) (λ number. untied_behind number items agenda none) state.connections.rows under.in_time;
  forgotten = still_forgotten agenda (items ++ agenda) (λ number. untied_behind number items agenda none) state.queue.events under.forgotten;
  withdrawn = each_of _ _ (λ number. untied_behind number items agenda none) under.withdrawn;
}

-- an item may be done that neither lets an object go nor breaks its connections
goes_and_unties : (number : ℕ) (item : Item) → leaves_ties item ≡ true → (lets_go number item ≡ false) × (unties number item ≡ false)
goes_and_unties number (Detach target depth) e = absurd (cc)
goes_and_unties number (Remove target depth) e = absurd (cc)
goes_and_unties number _ e = (refl, refl)

pub behind : (item : Item) {agenda : List Item} {state : State} → leaves_ties item ≡ true → IsUnderWay (item ∷ agenda) state → IsUnderWay agenda state
behind item {agenda} {state} leaves under = record {
  whole = under.whole;
  going = All-weaker (λ row. IsGoing (item ∷ agenda) row.number row.class row.dying) (λ row. IsGoing agenda row.number row.class row.dying)
      (λ row is. ap (λ b. b || list_any (lets_go row.number) agenda) (sym (goes_and_unties row.number item leaves).0) ∙ is) state.forest.rows under.going;
  in_time = in_time (item ∷ agenda) agenda rest state.connections.rows under.in_time;
  forgotten = still_forgotten (item ∷ agenda) agenda rest state.queue.events under.forgotten;
  withdrawn = each_of _ _ rest under.withdrawn;
}
  where
    rest : (number : ℕ) → is_untied_first (item ∷ agenda) number ≡ true → is_untied_first agenda number ≡ true
    rest number untied = let its = goes_and_unties number item leaves in ap (λ b. b || is_untied_first agenda number) (sym its.1)
        ∙ ap (λ b. unties number item || (not b && is_untied_first agenda number)) (sym its.0) ∙ untied

module _ (agenda : List Item) (doing : Execution) (under : IsUnderWay agenda doing.state) where
  pub told_under : (said : Line) → IsUnderWay agenda (line_told doing said).state
  unfolding line_told
  told_under said = under

  pub posting_under : (more : List Post) → IsUnderWay agenda (posting doing more).state
  unfolding posting
  posting_under more = under

  pub turn_under : IsUnderWay agenda (turn_taken doing).state
  unfolding turn_taken
  turn_under = under

  pub used_up_under : IsUnderWay agenda (used_up doing).state
  unfolding used_up
  used_up_under = cond_both doing.spent doing (record doing { spent = true; lines = doing.lines ++ Warning TurnsUsedUp None ∷ [] })
      (λ (new : Execution). IsUnderWay agenda new.state) (λ spent. under) (λ fresh. under)

  -- connections may be broken
  without_under : (test : Connection → Bool) → IsUnderWay agenda (without_connections doing.state test)
  without_under test = record {
    whole = whole_without_connections test under.whole;
    going = under.going;
    in_time = All-filter (λ row. not (test row)) (IsBrokenInTime agenda) doing.state.connections.rows under.in_time;
    forgotten = under.forgotten;
    withdrawn = under.withdrawn;
  }

  -- and the functor of one may get another state
  pub stepped_under : (number next : ℕ) → IsUnderWay agenda (stepped doing number next).state
  unfolding stepped
  stepped_under number next = record {
    whole = whole_with_functor_state number next under.whole;
    going = under.going;
    in_time = all_stepped number next (IsBrokenInTime agenda)
        (λ row h. record { sender = h.sender; receiver = h.receiver }) doing.state.connections.rows under.in_time;
    forgotten = under.forgotten;
    withdrawn = under.withdrawn;
  }

  pub shot_under : (row : Connection) → IsUnderWay agenda (single_shot_broken doing row).state
  unfolding single_shot_broken
  shot_under row = cond_both row.single (in_state doing (without_connections doing.state (has_number row.number))) doing
      (λ (new : Execution). IsUnderWay agenda new.state) (λ single. without_under (has_number row.number)) (λ lasting. under)

  -- an end of a new connection lives, and so is not to be let go
  staying : (number : ℕ) → Stands doing.state.forest.rows number → is_untied_first agenda number ≡ true
  staying number stands = untied_staying number agenda
      (of_row (IsGoing agenda) doing.state.forest.rows number stands.row stands.found under.going ∙ stands.living)

  -- the queue may change if each event in it is still forgotten before its object goes
  queue_under : (queue : Queue) → IsWhole (record doing.state { queue = queue }) → All (IsForgottenInTime agenda) queue.events
      → IsUnderWay agenda (record doing.state { queue = queue })
  queue_under queue whole forgotten =
      record { whole = whole; going = under.going; in_time = under.in_time; forgotten = forgotten; withdrawn = under.withdrawn }

  -- an event may be posted for an object that is not let go before the event is forgotten
  posted_under : (event : Event) → is_there doing.state.forest.rows (object_of event) ≡ true → is_untied_first agenda (object_of event) ≡ true
      → IsUnderWay agenda (enqueued doing event).state
  unfolding enqueued
  posted_under event there untied = queue_under _ (whole_with_event event there under.whole)
      (each_posted (IsForgottenInTime agenda) doing.state.queue event untied under.forgotten)

  -- as for one that lives
  pub meant_under : (event : Event) → object_refusal doing.state.forest.rows (object_of event) ≡ None → IsUnderWay agenda (enqueued doing event).state
  meant_under event passed =
      let stands = stands_living doing.state.forest.rows (object_of event) passed in
      posted_under event stands.there (staying (object_of event) stands)

  pub lost_under : IsUnderWay agenda (lost doing).state
  unfolding lost
  lost_under = queue_under _ (whole_with_lost under.whole) under.forgotten

  -- a connection that stands has a receiver for which a call may be posted, also when the connection is
  -- broken before
  pub queued_under : (connection : Connection) (call : QueuedCall) → IsTied doing.state connection → IsBrokenInTime agenda connection
      → call.object ≡ connection.receiver → IsUnderWay agenda (queued doing call).state
  queued_under connection call tied broken same =
      cond_both (has_room doing.state.queue) (enqueued doing (event.Call call)) (lost doing) (λ (new : Execution). IsUnderWay agenda new.state)
      (λ room. posted_under (event.Call call) (ap (is_there doing.state.forest.rows) same ∙ tied.receiver) (ap (is_untied_first agenda) same ∙ broken.receiver))
      (λ full. lost_under)

  pub first_taken_under : IsUnderWay agenda (first_taken doing).state
  unfolding first_taken
  first_taken_under = queue_under _ (whole_without_first under.whole) (each_taken (IsForgottenInTime agenda) doing.state.queue under.forgotten)

  -- properties may be written, which leaves all else
  pub writing_under : (target : ℕ) (writing : Writing) → IsFit doing.state target writing → IsUnderWay agenda (with_writing doing.state target writing)
  writing_under target writing fit = by writing (whole_with_writing target writing fit under.whole)
    where
      by : (writing : Writing) → IsWhole (with_writing doing.state target writing) → IsUnderWay agenda (with_writing doing.state target writing)
      by Nothing whole = under
      by _ whole = record { whole = whole; going = under.going; in_time = under.in_time; forgotten = under.forgotten; withdrawn = under.withdrawn }

  pub operation_under : (operation : Operation) → operation_refusal doing.state operation ≡ None → IsUnderWay agenda (operation_done doing operation).state
  unfolding operation_done enqueued
  operation_under (d.Connect new unique) passed =
      let both = or_none (object_refusal doing.state.forest.rows new.sender) _ passed in
      let rest = or_none (object_refusal doing.state.forest.rows new.receiver) _ both.1 in
      let one = stands_living doing.state.forest.rows new.sender both.0 in
      let other = stands_living doing.state.forest.rows new.receiver rest.0 in
      record {
        whole = whole_with_connection new (allowed new unique rest.1) one.there other.there under.whole;
        going = under.going;
        in_time = All-push (IsBrokenInTime agenda) doing.state.connections.rows (numbered (doing.state.connections.last_number + 1) new) under.in_time
            (record { sender = staying new.sender one; receiver = staying new.receiver other });
        forgotten = under.forgotten;
        withdrawn = under.withdrawn;
      }
  operation_under (d.Disconnect pattern) passed = without_under (matches pattern)
  operation_under (d.SetParent target parent) passed = record {
    whole = whole_with_parent target parent passed under.whole;
    going = each_reparented (IsGoing agenda) doing.state.forest target parent under.going;
    in_time = under.in_time;
    forgotten = under.forgotten;
    withdrawn = under.withdrawn;
  }
  operation_under (d.DeleteLater target) passed = meant_under (event.Deletion target) (or_none (object_refusal doing.state.forest.rows target) _ passed).0
  operation_under (d.Block target on) passed = record {
    whole = whole_with_blocking target on under.whole;
    going = each_blocked (IsGoing agenda) doing.state.forest target on under.going;
    in_time = under.in_time;
    forgotten = under.forgotten;
    withdrawn = under.withdrawn;
  }

  -- an object that begins to die has its Detach and then its Remove put in front
  pub dying_under : (target depth : ℕ) → IsUnderWay (Detach target depth ∷ Remove target depth ∷ agenda) (dying doing target).state
  unfolding dying
  dying_under target depth = record {
    whole = whole_with_dying target under.whole;
    going = each_marked (IsGoing agenda) (IsGoing (Detach target depth ∷ Remove target depth ∷ agenda)) doing.state.forest target
        (λ class dying is. or_left (target == target) _ (nat_eq_equiv.refl target))
        (λ number class dying other is. ap (λ b. b || list_any (lets_go number) agenda) (nat_eq_equiv.symm target number ∙ other) ∙ is) under.going;
    in_time = in_time agenda (Detach target depth ∷ Remove target depth ∷ agenda) first doing.state.connections.rows under.in_time;
    forgotten = still_forgotten agenda (Detach target depth ∷ Remove target depth ∷ agenda) first doing.state.queue.events under.forgotten;
    withdrawn = each_of _ _ first under.withdrawn;
  }
    where
      first : (number : ℕ) → is_untied_first agenda number ≡ true → ((target == number) || (not (target == number) && is_untied_first agenda number)) ≡ true
      first number untied = by (target == number)
        where
          by : (same : Bool) → (same || (not same && is_untied_first agenda number)) ≡ true
          by true = refl
          by false = untied

-- what is left when nothing ties an object to others needs its Detach no more
pub detach_under : (target depth : ℕ) {agenda : List Item} (doing : Execution) → IsUnderWay (Detach target depth ∷ agenda) doing.state
    → IsUnderWay agenda (severed doing target).state
unfolding severed
detach_under target depth {agenda} doing under =
    let loose = without_connections doing.state (touches target) in
    let unnamed = without_events loose target in
    record {
      whole = whole_without_rows_of target (whole_without_events target (whole_without_connections (touches target) under.whole));
      going = under.going;
      in_time = All-weaker (λ row. IsBrokenInTime (Detach target depth ∷ agenda) row × (touches target row ≡ false)) (IsBrokenInTime agenda) one _
          (all_left (IsBrokenInTime (Detach target depth ∷ agenda)) (touches target) doing.state.connections.rows under.in_time);
      forgotten = All-weaker (λ event. IsForgottenInTime (Detach target depth ∷ agenda) event × ((object_of event == target) ≡ false))
          (IsForgottenInTime agenda) (λ event held. other (object_of event) held.1 held.0) _
          (all_left (IsForgottenInTime (Detach target depth ∷ agenda)) (λ event. object_of event == target) doing.state.queue.events under.forgotten);
      withdrawn = each_of _ _ (λ number held. other number held.1 held.0)
          (of_others (λ number. is_untied_first (Detach target depth ∷ agenda) number ≡ true) target under.withdrawn);
    }
  where
    other : (number : ℕ) → (number == target) ≡ false → is_untied_first (Detach target depth ∷ agenda) number ≡ true → is_untied_first agenda number ≡ true
    other number apart untied = ap (λ b. b || is_untied_first agenda number) (sym (nat_eq_equiv.symm target number ∙ apart)) ∙ untied

    one : (row : Connection) → IsBrokenInTime (Detach target depth ∷ agenda) row × (touches target row ≡ false) → IsBrokenInTime agenda row
    one row held = record {
      sender = other row.sender (none_first (row.sender == target) (row.receiver == target) held.1) held.0.sender;
      receiver = other row.receiver (none_second (row.sender == target) (row.receiver == target) held.1) held.0.receiver;
    }

-- what stays when an object goes needs its Remove no more
pub gone_under : (target depth : ℕ) {agenda : List Item} (doing : Execution) → IsUnderWay (Remove target depth ∷ agenda) doing.state
    → IsUnderWay agenda (without_object doing.state target)
gone_under target depth {agenda} doing under = record {
  whole = whole_without_object target
      (All-weaker (IsBrokenInTime (Remove target depth ∷ agenda)) (OfEnds (λ end. (end == target) ≡ false))
      (λ row broken. record { sender = (parts row.sender broken.sender).0; receiver = (parts row.receiver broken.receiver).0 }) doing.state.connections.rows
      under.in_time)
      (All-weaker (IsForgottenInTime (Remove target depth ∷ agenda)) (λ event. (object_of event == target) ≡ false)
      (λ event untied. (parts (object_of event) untied).0) doing.state.queue.events under.forgotten)
      (each_of _ _ (λ number untied. (parts number untied).0) under.withdrawn)
      under.whole;
  going = each_removed (IsGoing (Remove target depth ∷ agenda)) (IsGoing agenda) doing.state.forest target
      (λ number class dying apart is. ap (λ b. b || list_any (lets_go number) agenda) (sym (nat_eq_equiv.symm target number ∙ apart)) ∙ is) under.going;
  in_time = in_time (Remove target depth ∷ agenda) agenda (λ number untied. (parts number untied).1) doing.state.connections.rows under.in_time;
  forgotten = still_forgotten (Remove target depth ∷ agenda) agenda (λ number untied. (parts number untied).1) doing.state.queue.events under.forgotten;
  withdrawn = each_of _ _ (λ number untied. (parts number untied).1) under.withdrawn;
}
  where
    parts : (number : ℕ) → (not (target == number) && is_untied_first agenda number) ≡ true
        → ((number == target) ≡ false) × (is_untied_first agenda number ≡ true)
    parts number untied = by (target == number) refl untied
      where
        by : (same : Bool) → (target == number) ≡ same → (not same && is_untied_first agenda number) ≡ true
            → ((number == target) ≡ false) × (is_untied_first agenda number ≡ true)
        by true is e = absurd (cc)
        by false is e = (nat_eq_equiv.symm number target ∙ is, e)
