-- What is called by a signal, by a connection and by an event fits.
use Rattle.std.proofs.Common.{◌≡◌, ◌+◌, ◌<◌, ◌≤◌, ℕ, true, false, List, [], ◌∷◌, ◌++◌, Option, Some, None, filter, get_or, is_some, length, map}
use Rattle.std.proofs.Common.{slice_get, take, refl, sym, ap, subst, ◌∙◌, arith}
use Rattle.std.specs.List.{All}
use Rattle.std.specs.Option.{option_map_or}
use Rattle.std.proofs.lemmas.Bool.{and_parts, cond_both, eqb-true}
use Rattle.std.proofs.lemmas.List.Elements.{All-append, All-cons, All-filter, All-head, All-map, All-nil, All-weaker, filter_passes}
use Rattle.session_model.proofs.Common.{fits, Value, Method, Callee, Connection, calls, IsRising, has_number, rising_head, rising_tail, Event, Row, Functor}
use Rattle.session_model.proofs.Common.{AreArguments, call_items, event_items, method_items, queued, kinds_of, posts_of, Execution, first_taken, turn_taken}
use Rattle.session_model.proofs.Common.{IsCall, IsConnected, IsFittingEvent, IsFittingItem, IsRightPost, MayBeConnected, functor_at, Call, Delete, Emit, Item}
use Rattle.session_model.proofs.Common.{Run, RunFunctor, Spin, puts, method_at, methods_by, Settings, State, Kind, QueuedCall}
use Rattle.plain_types.specs.declared.callee.Callee.TheVariants as callee
use Rattle.connection_list.specs.Rows as list
use Rattle.event_queue.specs.declared.event.Event.TheVariants as event
use Rattle.publish_board.specs.Rows.{publishes}
use Rattle.session_model.specs.Agenda.{calls_of}
use Rattle.session_model.specs.Arriving.{post_of}
use Rattle.session_model.specs.Execution.{posting}
use Rattle.session_model.specs.Fitting.{IsCalledBy, kinds_called}
use Rattle.session_model.proofs.FittingArgumentLemmas.{fitting_arguments}
use Rattle.session_model.proofs.FittingChangeLemmas.{Carries, Comes, first_carries, first_rows, no_item, one_item, posting_carries, queued_carries}
use Rattle.session_model.proofs.FittingChangeLemmas.{shot_carries, shot_rows, turn_carries, turn_rows}
use Rattle.session_model.proofs.FilterLemmas.{of_found, find-passes}
use Rattle.session_model.proofs.StepLemmas.{IsCalled, functor_call, functor_now, in_call, method_call, method_now}

-- no other connection has this one's number
abbrev IsOnly : List Connection → Connection → Type 0
IsOnly rows row = All (λ other. other.number ≡ row.number → other ≡ row) rows

only_one : (rows : List Connection) → IsRising rows → All (IsOnly rows) rows
only_one [] rising = All-nil (IsOnly [])
only_one (row ∷ rest) rising =
    All-cons (IsOnly (row ∷ rest)) row rest
    (All-cons (λ (other : Connection). other.number ≡ row.number → other ≡ row) row rest (λ same. refl)
    (λ index default within same. absurd (apart index default within (sym same))))
    (λ index default within.
    All-cons (λ (other : Connection). other.number ≡ (get_or rest index default).number → other ≡ get_or rest index default) row rest
    (λ same. absurd (apart index default within same)) (only_one rest (rising_tail row rest rising) index default within))
  where
    apart : (index : ℕ) (default : Connection) → index < length rest → row.number ≡ (get_or rest index default).number → ⊥
    apart index default within same = let less : row.number < (get_or rest index default).number = rising_head row rest rising index default within in
        omega (arith, less, same)

module _ (settings : Settings) (state : State) where
  abbrev Fit : Item → Type 0
  Fit item = IsFittingItem settings state item

  one : (item : Item) → Fit item → All Fit (item ∷ [])
  one item fit = All-cons Fit item [] fit (All-nil Fit)

  -- a method is called with arguments of its kinds
  method_fits : (target index sender : ℕ) (args : List Value) (sent_at run_at : ℕ) (method : Method)
      → slice_get (methods_by settings.classes state.forest.rows target) index ≡ Some method
      → AreArguments (kinds_of settings.classes state.forest.rows target index) args → All Fit (method_items target index sender args sent_at run_at method)
  method_fits target index sender args sent_at run_at method is all =
      cond_both method.is_signal (Emit target index args sent_at ∷ []) (Run target index sender args run_at ∷ []) (All Fit)
      (λ signal. one (Emit target index args sent_at)
      (λ there. record { signal_there = ap (λ found. option_map_or (λ (method : Method). method.is_signal) found false) is ∙ signal; arguments = all }))
      (λ slot. one (Run target index sender args run_at) (λ there. record { callee = ap is_some is; arguments = all }))

  -- the connections of a signal are called with what it is sent with
  called_with : (target signal : ℕ) (args : List Value) → AreArguments (kinds_of settings.classes state.forest.rows target signal) args → (row : Connection)
      → calls target signal row ≡ true → row.number ≤ state.connections.last_number → IsOnly state.connections.rows row
      → IsCalledBy settings state row.number args
  called_with target signal args all row passes given only =
      let sender : row.sender ≡ target = eqb-true row.sender target (and_parts _ _ passes).0 in
      let its : row.signal ≡ signal = eqb-true row.signal signal (and_parts _ _ passes).1 in
      let here : AreArguments (kinds_of settings.classes state.forest.rows row.sender row.signal) args =
      subst (λ sender. AreArguments (kinds_of settings.classes state.forest.rows sender row.signal) args) (sym sender)
      (subst (λ signal. AreArguments (kinds_of settings.classes state.forest.rows target signal) args) (sym its) all) in
      record {
        given = given;
        arguments = All-weaker (λ (other : Connection). other.number ≡ row.number → other ≡ row)
            (λ (other : Connection). other.number ≡ row.number → AreArguments (kinds_of settings.classes state.forest.rows other.sender other.signal) args)
            (λ other only same. subst (λ (row : Connection). AreArguments (kinds_of settings.classes state.forest.rows row.sender row.signal) args)
            (sym (only same)) here) state.connections.rows only;
      }

  calls_fit : list.IsSound state.connections → (target signal : ℕ) (args : List Value) (depth : ℕ)
      → AreArguments (kinds_of settings.classes state.forest.rows target signal) args
      → All Fit (map (λ row. Call row.number args depth) (filter (calls target signal) state.connections.rows))
  calls_fit sound target signal args depth all = All-map Fit (λ (row : Connection). Call row.number args depth)
      (filter (calls target signal) state.connections.rows)
      (λ index default within. called_with target signal args all _
      (filter_passes (calls target signal) state.connections.rows index default within)
      (All-filter (calls target signal) (λ (row : Connection). row.number ≤ state.connections.last_number) state.connections.rows sound.given index default
      within)
      (All-filter (calls target signal) (IsOnly state.connections.rows) state.connections.rows
      (only_one state.connections.rows sound.rising) index default within))

-- what is posted of a signal is right
posts_right : (settings : Settings) (state : State) (target signal : ℕ) (args : List Value)
    → AreArguments (kinds_of settings.classes state.forest.rows target signal) args → All IsRightPost (posts_of settings.classes state target signal args)
posts_right settings state target signal args all =
    All-map IsRightPost (post_of (kinds_of settings.classes state.forest.rows target signal) args) (filter (publishes target signal) state.desk.publications)
    (λ index default within. all)

module _ (settings : Settings) (doing : Execution) (on : Carries settings doing.state.forest.rows doing) where
  abbrev rows : List Row
  rows = doing.state.forest.rows

  pub sends_comes : list.IsSound doing.state.connections → (target signal : ℕ) (args : List Value) (depth : ℕ)
      → AreArguments (kinds_of settings.classes rows target signal) args
      → Comes settings rows (puts (calls_of doing target signal args depth) (posting doing (posts_of settings.classes doing.state target signal args)))
  unfolding calls_of posting
  sends_comes sound target signal args depth all = record {
    carries = posting_carries doing on (posts_of settings.classes doing.state target signal args)
        (posts_right settings doing.state target signal args all);
    items = calls_fit settings doing.state sound target signal args depth all;
  }

  -- a connection that stands is called
  module _ (number : ℕ) (args : List Value) (depth : ℕ) (fit : IsCalledBy settings doing.state number args) (connection : Connection)
      (is : IsCalled number doing connection) where
    abbrev new : Execution
    new = in_call doing connection

    same : new.state.forest.rows ≡ rows
    same = shot_rows (turn_taken doing) connection ∙ turn_rows doing

    in_call_carries : Carries settings rows new
    in_call_carries = shot_carries (turn_taken doing) (turn_carries doing on) connection

    pub callee_gone_comes : Comes settings rows (puts [] new)
    callee_gone_comes = no_item in_call_carries

    -- its callee is called with as many of the first arguments as it has parameters
    call_given : (to : Callee) → connection.callee ≡ to → (params : List Kind) → kinds_called settings rows connection.receiver to ≡ params
        → IsCall settings rows connection.receiver to (take (length params) args)
    call_given to callee params kinds =
        let sent = kinds_of settings.classes rows connection.sender connection.signal in
        let may = subst (λ (to : Callee). MayBeConnected settings rows connection.sender connection.signal connection.receiver to) callee
        (of_found (IsConnected settings rows) (has_number number) doing.state.connections.rows connection is.found on.fits.connections) in
        let its = of_found (λ (row : Connection). row.number ≡ number → AreArguments (kinds_of settings.classes rows row.sender row.signal) args)
        (has_number number) doing.state.connections.rows connection is.found fit.arguments
        (eqb-true connection.number number (find-passes (has_number number) doing.state.connections.rows connection is.found)) in
        record {
          callee = may.callee;
          arguments = subst (λ kinds. AreArguments kinds (take (length params) args)) (sym kinds)
              (fitting_arguments sent params args (ap (fits sent) (sym kinds) ∙ may.fitting) its);
        }

    later_comes : (call : QueuedCall) → IsFittingEvent settings rows (event.Call call) → Comes settings rows (puts [] (queued new call))
    later_comes call its = no_item (queued_carries new in_call_carries call its)

    pub method_comes : (index : ℕ) (method : Method) → connection.callee ≡ callee.Method index
        → method_at settings new.state connection.receiver index ≡ Some method
        → Comes settings rows (puts [] (queued new (method_call connection index method args)))
        × Comes settings rows (puts (method_now connection index method args depth) new)
    method_comes index method to found =
        let kinds = subst (λ (rows : List Row). kinds_of settings.classes rows connection.receiver index ≡ method.signature.kinds) same
        (ap (λ found. option_map_or (λ (method : Method). method.signature.kinds) found []) found) in
        let its = call_given (callee.Method index) to method.signature.kinds kinds in (
          later_comes (method_call connection index method args) its,
          record {
            carries = in_call_carries;
            items = method_fits settings new.state connection.receiver index connection.sender (take (length method.signature.kinds) args) (depth + 1) depth
                method found (subst (λ rows. AreArguments (kinds_of settings.classes rows connection.receiver index)
                (take (length method.signature.kinds) args)) (sym same) its.arguments);
          },
        )

    pub functor_comes : (index : ℕ) (functor : Functor) → connection.callee ≡ callee.Functor index → functor_at settings index ≡ Some functor
        → Comes settings rows (puts [] (queued new (functor_call connection index functor args)))
        × Comes settings rows (puts (functor_now connection index functor args depth) new)
    functor_comes index functor to found =
        let its = call_given (callee.Functor index) to functor.params (ap (λ found. option_map_or (λ (functor : Functor). functor.params) found []) found) in (
          later_comes (functor_call connection index functor args) its,
          one_item in_call_carries (record { callee = its.callee; arguments = its.arguments }),
        )

  -- what an event comes to fits
  event_fits : (before after : State) → after.forest.rows ≡ before.forest.rows → (first : Event) → IsFittingEvent settings before.forest.rows first
      → All (IsFittingItem settings after) (event_items settings before first)
  event_fits before after alike (event.Deletion target) fit = All-cons (IsFittingItem settings after) (Delete target 0) [] tt
      (All-nil (IsFittingItem settings after))
  event_fits before after alike (event.Call call) fit = by call.callee fit
    where
      by : (to : Callee) → IsCall settings before.forest.rows call.object to call.args → All (IsFittingItem settings after) (call_items settings before call to)
      by (callee.Functor index) its = All-cons (IsFittingItem settings after) (RunFunctor call.object index call.sender call.connection call.args 0) []
          (record { callee = its.callee; arguments = its.arguments }) (All-nil (IsFittingItem settings after))
      by (callee.Method index) its = found (method_at settings before call.object index) refl
        where
          found : (method : Option Method) → method_at settings before call.object index ≡ method
              → All (IsFittingItem settings after) (option_map_or (method_items call.object index call.sender call.args 0 0) method [])
          found None is = All-nil (IsFittingItem settings after)
          found (Some method) is =
              method_fits settings after call.object index call.sender call.args 0 0 method
              (ap (λ rows. slice_get (methods_by settings.classes rows call.object) index) alike ∙ is)
              (subst (λ rows. AreArguments (kinds_of settings.classes rows call.object index) call.args) (sym alike) its.arguments)

  pub takes_comes : (first : Event) (later : List Event) → doing.state.queue.events ≡ first ∷ later
      → Comes settings rows (puts (event_items settings (turn_taken doing).state first ++ Spin ∷ []) (first_taken (turn_taken doing)))
  takes_comes first later is = record {
    carries = first_carries some (turn_carries doing on);
    items = All-append Fit' (event_items settings some.state first) (Spin ∷ [])
        (event_fits some.state (first_taken some).state (first_rows some) first
        (subst (λ rows. IsFittingEvent settings rows first) (sym (turn_rows doing)) its))
        (All-cons Fit' Spin [] tt (All-nil Fit'));
  }
    where
      some : Execution
      some = turn_taken doing

      Fit' : Item → Type 0
      Fit' = IsFittingItem settings (first_taken some).state

      its : IsFittingEvent settings doing.state.forest.rows first
      its = All-head (IsFittingEvent settings rows) first later (subst (All (IsFittingEvent settings rows)) is on.fits.events)
