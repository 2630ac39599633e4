-- What a connection calls, when its turn is taken; and that a functor's closure does what its body does.
use Rattle.std.proofs.Common.{◌≡◌, ◌+◌, ◌-◌, ◌≤◌, ℕ, Bool, true, false, cond, List, [], ◌∷◌, Option, Some, None, length, take, refl, sym, ap, ◌∙◌, arith}
use Rattle.std.specs.Option.{option_map_or}
use Rattle.std.proofs.lemmas.Bool.{cond-false, cond-true, cond_both}
use Rattle.variant_value.specs.declared.value.Value.{Value}
use Rattle.term_core.specs.Act.{Act, acts_of, counts}
use Rattle.term_evaluation.specs.Unfolding.{unfolded_body, unfolded_term}
use Rattle.term_evaluation.specs.Stating.{after, with_state}
use Rattle.term_evaluation.proofs.ForCallers.{branch_changed, state_counts, actions_kept}
use Rattle.plain_types.specs.declared.callee.Callee.{Callee}
use Rattle.plain_types.specs.declared.callee.Callee.TheVariants.{Functor, Method}
use Rattle.connection_list.specs.declared.connection.Connection.{Connection}
use Rattle.event_queue.specs.declared.event.Event.TheVariants as event
use Rattle.event_queue.specs.declared.event.QueuedCall.{QueuedCall}
use Rattle.event_queue.specs.Queue.{has_room}
use Rattle.stored_slots.specs.declared.functor.Functor as stored
use Rattle.session_model.specs.Acts as model
use Rattle.session_model.specs.Agenda.{callee_called, functor_called, functor_line, queued, queued_call, call_line, method_called, method_items}
use Rattle.session_model.specs.declared.post.Post.{Post}
use Rattle.session_model.specs.Execution.{Execution, in_state, lost, enqueued, stepped, line_told}
use Rattle.session_model.specs.Functors.{functor_at}
use Rattle.session_model.specs.Items.{Item, Next, RunFunctor, puts, Run}
use Rattle.session_model.specs.Posting.{is_queued}
use Rattle.session_model.specs.Run.{longest_functor, run}
use Rattle.session_model.specs.Settings.{Settings}
use Rattle.session_model.specs.State.{State, functor_state, with_call, with_event, with_functor_state, with_lost}
use Rattle.session_model.proofs.ForCallers as rule
use Rattle.session_model.proofs.ForCallers.{acts-put_in, at_end, by_change, by_step, functor-size, living_rows}
use Rattle.session_tables.specs.declared.tables.Tables.{Tables}
use Rattle.session_tables.specs.Tables as tables
use Rattle.session_tables.specs.Tables.{IsPlaced, state_at}
use Rattle.session_tables.proofs.ForCallers.{state_with}
use Rattle.dispatch.specs.declared.command_output.CommandOutput.{CommandOutput}
use Rattle.dispatch.specs.CommandOutput.{doing_at}
use Rattle.dispatch.proofs.AgendaLemmas.{left_at}
use Rattle.dispatch.proofs.PrefixLemmas.{PostsBehind, front_same}
use Rattle.class_table.specs.declared.class.Method as class
use Rattle.session_model.specs.Methods.{method_at}

-- a call that is posted, or lost where there is no room for it
pub queued_is : (place : ℕ) (old new : Tables) (output : CommandOutput) (earlier : List Post) (call : QueuedCall) → IsPlaced old place
    → new ≡ tables.with_state old place (with_call (state_at old place) call)
    → queued (doing_at place old output earlier) call ≡ doing_at place new output earlier
unfolding enqueued lost
queued_is place old new output earlier call placed e =
    by (has_room (state_at old place).queue)
    ∙ ap (λ (state : State). in_state (doing_at place old output earlier) state) (sym (state_with old new place (with_call (state_at old place) call) placed e))
  where
    by : (room : Bool) → cond room (enqueued (doing_at place old output earlier) (event.Call call)) (lost (doing_at place old output earlier))
        ≡ in_state (doing_at place old output earlier) (cond room (with_event (state_at old place) (event.Call call)) (with_lost (state_at old place)))
    by true = refl
    by false = refl

module _ (settings : Settings) (connection : Connection) (args : List Value) (depth : ℕ) (doing : Execution) where
  abbrev ran : Next → Execution
  ran next = run settings next.items next.doing

  abbrev calls : Callee → Execution
  calls called = ran (callee_called settings connection args depth doing called)

  -- with these values it is called later; or at once, and this is to be done
  abbrev pub by_mode : Callee → List Value → List Item → Execution
  by_mode called values items = ran (cond (is_queued connection.mode) (puts [] (queued doing (queued_call connection called values))) (puts items doing))

  module _ (index : ℕ) where
    by_method : (found : Option class.Method) → found ≡ method_at settings doing.state connection.receiver index
        → calls (Method index) ≡ ran (option_map_or (method_called connection index args depth doing) found (puts [] doing))
    by_method found has = ap (λ (found : Option class.Method). ran (option_map_or (method_called connection index args depth doing) found (puts [] doing)))
        (sym has)

    by_functor : (found : Option stored.Functor) → found ≡ functor_at settings index
        → calls (Functor index) ≡ ran (option_map_or (functor_called connection index args depth doing) found (puts [] doing))
    by_functor found has = ap (λ (found : Option stored.Functor). ran (option_map_or (functor_called connection index args depth doing) found (puts [] doing)))
        (sym has)

    -- one that is not there does nothing
    pub method_absent : None ≡ method_at settings doing.state connection.receiver index → calls (Method index) ≡ doing
    method_absent has = by_method None has ∙ at_end settings doing

    pub functor_absent : None ≡ functor_at settings index → calls (Functor index) ≡ doing
    functor_absent has = by_functor None has ∙ at_end settings doing

    -- and one that is there goes by the mode
    pub method_there : (method : class.Method) → Some method ≡ method_at settings doing.state connection.receiver index → (given : List Value)
        → given ≡ take (length method.signature.kinds) args
        → calls (Method index) ≡ by_mode (Method index) given (method_items connection.receiver index connection.sender given (depth + 1) depth method)
    method_there method has given detach = by_method (Some method) has
        ∙ ap (λ given. by_mode (Method index) given (method_items connection.receiver index connection.sender given (depth + 1) depth method)) (sym detach)

    pub functor_there : (functor : stored.Functor) → Some functor ≡ functor_at settings index → (given : List Value) → given ≡ take (length functor.params) args
        → calls (Functor index) ≡ by_mode (Functor index) given (RunFunctor connection.receiver index connection.sender connection.number given depth ∷ [])
    functor_there functor has given detach = by_functor (Some functor) has
        ∙ ap (λ given. by_mode (Functor index) given (RunFunctor connection.receiver index connection.sender connection.number given depth ∷ [])) (sym detach)

  module _ (called : Callee) (given : List Value) (items : List Item) (there : calls called ≡ by_mode called given items) (done : Execution) where
    pub called_later : connection.callee ≡ called → is_queued connection.mode ≡ true → queued doing (queued_call connection connection.callee given) ≡ done
        → calls called ≡ done
    called_later is later does =
        there
        ∙ ap ran (cond-true (is_queued connection.mode) _ _ later)
        ∙ at_end settings (queued doing (queued_call connection called given))
        ∙ ap (λ (called : Callee). queued doing (queued_call connection called given)) (sym is)
        ∙ does

    pub called_at_once : is_queued connection.mode ≡ false → run settings items doing ≡ done → calls called ≡ done
    called_at_once at_once does = there ∙ ap ran (cond-false (is_queued connection.mode) _ _ at_once) ∙ does

-- what is called one level deeper is called at this depth
pub one_less : (depth : ℕ) → depth + 1 - 1 ≡ depth
one_less depth = omega arith

-- a slot that is called is run
pub runs_slot : (settings : Settings) (target index sender : ℕ) (args : List Value) (depth : ℕ) (doing : Execution) (method : class.Method)
    → Some method ≡ method_at settings doing.state target index → (deeper : ℕ) → deeper ≡ depth + 1 → (done : Execution)
    → run settings (model.acts (acts_of method.body.actions) args target sender deeper) (line_told doing (call_line method target sender args)) ≡ done
    → run settings (Run target index sender args depth ∷ []) doing ≡ done
runs_slot settings target index sender args depth doing method has deeper is done does =
    by_step settings (Run target index sender args depth) doing _ (rule.run_slot settings target index sender args depth doing method (sym has))
    ∙ ap (λ depth. run settings (model.acts (acts_of method.body.actions) args target sender depth) (line_told doing (call_line method target sender args)))
    (sym is)
    ∙ does

-- what a functor comes to, where its actions are done at this depth
abbrev pub ran_at : Execution → ℕ → ℕ → ℕ → List Value → ℕ → stored.Functor → Next
ran_at doing target sender connection args depth functor =
    let state = functor_state doing.state connection in
    puts (model.acts (acts_of (with_state state functor.body).actions) args target sender depth)
    (stepped (line_told doing (functor_line functor target sender args)) connection (after functor.next state args))

-- what a functor's run comes to
module _ (settings : Settings) (target index sender connection : ℕ) (args : List Value) (depth : ℕ) (doing : Execution) where
  pub runs_none : None ≡ functor_at settings index → run settings (RunFunctor target index sender connection args depth ∷ []) doing ≡ doing
  runs_none has = by_change settings (RunFunctor target index sender connection args depth) doing doing
      (rule.run_functor_absent settings target index sender connection args depth doing (sym has))

  pub runs_functor : (functor : stored.Functor) → Some functor ≡ functor_at settings index → (deeper : ℕ) → deeper ≡ depth + 1 → (done : Execution)
      → (let next = ran_at doing target sender connection args deeper functor in run settings next.items next.doing) ≡ done
      → run settings (RunFunctor target index sender connection args depth ∷ []) doing ≡ done
  runs_functor functor has deeper is done does =
      by_step settings (RunFunctor target index sender connection args depth) doing _
      (rule.run_functor settings target index sender connection args depth doing functor (sym has))
      ∙ ap (λ depth. let next = ran_at doing target sender connection args depth functor in run settings next.items next.doing) (sym is)
      ∙ does

-- it posts nothing to other sessions before that is run
module _ (settings : Settings) (connection : Connection) (args : List Value) (depth : ℕ) (doing : Execution) where
  queued_front : (call : QueuedCall) → PostsBehind doing (queued doing call)
  unfolding enqueued lost
  queued_front call = cond_both (has_room doing.state.queue) (enqueued doing (event.Call call)) (lost doing) (PostsBehind doing)
      (λ room. front_same doing.posts) (λ full. front_same doing.posts)

  called_front : (later : Bool) (call : QueuedCall) (items : List Item) → PostsBehind doing (cond later (puts [] (queued doing call)) (puts items doing)).doing
  called_front true call items = queued_front call
  called_front false call items = front_same doing.posts

  pub callee_front : (called : Callee) → PostsBehind doing (callee_called settings connection args depth doing called).doing
  callee_front (Functor index) = by (functor_at settings index)
    where
      by : (found : Option stored.Functor) → PostsBehind doing (option_map_or (functor_called connection index args depth doing) found (puts [] doing)).doing
      by None = front_same doing.posts
      by (Some functor) = called_front (is_queued connection.mode) _ _
  callee_front (Method index) = by (method_at settings doing.state connection.receiver index)
    where
      by : (found : Option class.Method) → PostsBehind doing (option_map_or (method_called connection index args depth doing) found (puts [] doing)).doing
      by None = front_same doing.posts
      by (Some method) = called_front (is_queued connection.mode) _ _

module _ (settings : Settings) (index : ℕ) (functor : stored.Functor) (has : Some functor ≡ functor_at settings index) where
  -- no body is longer than the longest one
  pub functor_short : counts (acts_of functor.body.actions) ≤ longest_functor settings.functors
  functor_short = functor-size settings index functor (sym has)

  module _ (state : ℕ) (args : List Value) (answered : List Act) (is : answered ≡ unfolded_body args (with_state state functor.body)) where
    pub answered_short : counts (acts_of answered) ≡ counts (acts_of functor.body.actions)
    answered_short = ap (λ (actions : List Act). counts (acts_of actions)) is ∙ actions_kept (with_state state functor.body) args
        ∙ state_counts functor.body state

    -- so its actions do what the body does over the arguments
    pub answered_does : (target sender depth : ℕ) (doing done : Execution) → run settings (model.acts (acts_of answered) [] target sender depth) doing ≡ done
        → run settings (model.acts (acts_of (with_state state functor.body).actions) args target sender depth) doing ≡ done
    answered_does target sender depth doing done does =
        acts-put_in settings target sender args (acts_of (with_state state functor.body).actions) depth doing
        ∙ ap (λ body. run settings (model.acts body [] target sender depth) doing)
        (sym (branch_changed (unfolded_term args) (with_state state functor.body).actions))
        ∙ ap (λ (actions : List Act). run settings (model.acts (acts_of actions) [] target sender depth) doing) (sym is)
        ∙ does

-- a functor is told of, and its connection has another state
pub stepped_is : (place : ℕ) (old new : Tables) (output : CommandOutput) (earlier : List Post) (number next : ℕ) → IsPlaced old place
    → new ≡ tables.with_state old place (with_functor_state (state_at old place) number next)
    → stepped (doing_at place old output earlier) number next ≡ doing_at place new output earlier
unfolding stepped
stepped_is place old new output earlier number next placed e =
    ap (λ (state : State). in_state (doing_at place old output earlier) state)
    (sym (state_with old new place (with_functor_state (state_at old place) number next) placed e))

-- that leaves as much to do
pub left_functor : (place : ℕ) (old new : Tables) (output : CommandOutput) (number next : ℕ) → IsPlaced old place
    → new ≡ tables.with_state old place (with_functor_state (state_at old place) number next) → left_at place new output ≤ left_at place old output
left_functor place old new output number next placed e =
    let there : living_rows (state_at new place).forest.rows ≡ living_rows (state_at old place).forest.rows =
    ap (λ (state : State). living_rows state.forest.rows) (state_with old new place (with_functor_state (state_at old place) number next) placed e) in
    omega (arith, there)

-- what a functor answers over the state of its connection, done behind the change of that, is what it comes to
module _ (settings : Settings) (index : ℕ) (functor : stored.Functor) (has : Some functor ≡ functor_at settings index) (target sender connection : ℕ)
    (args : List Value) (depth : ℕ) where
  pub functor_does : (doing middle done : Execution) (state next : ℕ) (answered : List Act) → state ≡ functor_state doing.state connection
      → answered ≡ unfolded_body args (with_state state functor.body) → next ≡ after functor.next state args
      → stepped (line_told doing (functor_line functor target sender args)) connection next ≡ middle
      → run settings (model.acts (acts_of answered) [] target sender depth) middle ≡ done
      → (let its = ran_at doing target sender connection args depth functor in run settings its.items its.doing) ≡ done
  functor_does doing middle done state next answered state_is answered_is next_is middle_is does =
      ap (λ n. run settings (model.acts (acts_of (with_state n functor.body).actions) args target sender depth)
      (stepped (line_told doing (functor_line functor target sender args)) connection (after functor.next n args))) (sym state_is)
      ∙ ap (λ n. run settings (model.acts (acts_of (with_state state functor.body).actions) args target sender depth)
      (stepped (line_told doing (functor_line functor target sender args)) connection n)) (sym next_is)
      ∙ ap (run settings (model.acts (acts_of (with_state state functor.body).actions) args target sender depth)) middle_is
      ∙ answered_does settings index functor has state args answered answered_is target sender depth middle done does
