-- Taking events one after another.
use Rattle.std.proofs.Common.{◌≡◌, ◌<◌, ◌≤◌, ◌+◌, ◌-◌, ℕ, List, [], ◌∷◌, ◌++◌, Option, Some, None, Ok, drop, length, refl, sym, subst, ap, ◌∙◌, arith}
use Rattle.std.specs.List.{slice_get}
use Rattle.std.specs.Option.{option_map_or}
use Rattle.plain_types.specs.declared.callee.Callee.{Callee}
use Rattle.plain_types.specs.declared.callee.Callee.TheVariants as callee
use Rattle.event_queue.specs.declared.event.Event.{Event}
use Rattle.event_queue.specs.declared.event.Event.TheVariants as event
use Rattle.event_queue.specs.declared.event.QueuedCall.{QueuedCall}
use Rattle.class_table.specs.declared.class.Method.{Method}
use Rattle.session_model.specs.declared.line.Answer.TheVariants as a
use Rattle.session_model.specs.declared.line.Line.TheVariants as line
use Rattle.session_model.specs.declared.line.Spin.{Spin as Came}
use Rattle.session_model.specs.Asked as asked
use Rattle.session_model.specs.Posting.{spin_of}
use Rattle.session_model.specs.Agenda.{call_items, event_items}
use Rattle.session_model.specs.Execution.{Execution, first_taken, turn_taken}
use Rattle.session_model.specs.Methods.{method_at}
use Rattle.session_model.specs.State.{without_first}
use Rattle.session_model.proofs.ForCallers as rule
use Rattle.session_model.proofs.ForCallers.{by_change, by_step, in_parts, run_shrinks, spun_last}
use Rattle.session_tables.specs.Tables.{with_state}
use Rattle.session_tables.proofs.ForCallers.{reaches_twice}
use Rattle.dispatch.specs.CommandOutput.{spent}
use Rattle.dispatch.proofs.ForCallers.{spent_is, SoFar, reaches_none}
use Rattle.session_engine.proofs.CommandsLemmas.{at_first_reaches, replied_last}
use Rattle.session_effects.proofs.ForCallers.{keeps_with}
use Rattle.std.proofs.lemmas.List.{append-nil}
use Rattle.session_engine.proofs.Common.{ended, method_items, line_told, Item, Spin, run, Settings, State, at_end, Tables, IsPlaced, state_at, state_with}
use Rattle.session_engine.proofs.Common.{SessionContext, settings_of, Performs, its_effect, reply_after, CommandOutput, doing_at, fresh_output, here, RunsItems}
use Rattle.session_engine.proofs.Common.{Reaches, Post}
use Rattle.session_model.specs.Posting.{spin_after}

-- the first of some events
pub first_is : (events : List Event) (first : Event) → slice_get events 0 ≡ Some first → events ≡ first ∷ drop 1 events
first_is [] first e = absurd (cc)
first_is (event ∷ later) first e = let same : event ≡ first = cc in ap (λ event. event ∷ later) same

-- where none waits, there is none
pub none_waits : (events : List Event) → length events ≤ 0 → events ≡ []
none_waits [] none = refl
none_waits (event ∷ later) none = absurd (omega (arith, none))

-- what an event comes to does not go by the queue
pub items_without_first : (settings : Settings) (state : State) (first : Event)
    → event_items settings (without_first state) first ≡ event_items settings state first
items_without_first settings state (event.Deletion target) = refl
items_without_first settings state (event.Call call) = by call.callee
  where
    by : (called : Callee) → call_items settings (without_first state) call called ≡ call_items settings state call called
    by (callee.Method index) = refl
    by (callee.Functor index) = refl

-- an event more was taken, with a turn
abbrev pub with_event_taken : CommandOutput → CommandOutput
with_event_taken output = record { lines = output.lines; turns = output.turns - 1; spent = output.spent; taken = output.taken + 1; failing = output.failing }

module _ (settings : Settings) (place : ℕ) (old middle : Tables) (before : CommandOutput) (placed : IsPlaced old place)
    (e : middle ≡ with_state old place (without_first (state_at old place))) (earlier : List Post) where
  -- the session with the first event taken
  taken_is : first_taken (turn_taken (doing_at place old before earlier)) ≡ doing_at place middle (with_event_taken before) earlier
  unfolding first_taken turn_taken
  taken_is = ap (λ (state : State). record
      { state = state; turns = before.turns - 1; spent = before.spent; taken = before.taken + 1; lines = before.lines; posts = earlier })
      (sym (state_with old middle place (without_first (state_at old place)) placed e))

  -- what it comes to is to be done, and then the next one is taken
  spin_begins : (first : Event) → slice_get (state_at old place).queue.events 0 ≡ Some first → 0 < before.turns
      → run settings (event_items settings (state_at middle place) first ++ Spin ∷ []) (doing_at place middle (with_event_taken before) earlier)
      ≡ run settings (Spin ∷ []) (doing_at place old before earlier)
  spin_begins first is some =
      let doing = doing_at place old before earlier in
      let same : event_items settings (state_at middle place) first ≡ event_items settings (state_at old place) first =
      ap (λ state. event_items settings state first) (state_with old middle place (without_first (state_at old place)) placed e)
      ∙ items_without_first settings (state_at old place) first in
      ap (λ items. run settings (items ++ Spin ∷ []) (doing_at place middle (with_event_taken before) earlier)) same
      ∙ ap (run settings (event_items settings (state_at old place) first ++ Spin ∷ [])) (sym taken_is)
      ∙ sym (by_step settings Spin doing _ (rule.spin_taken settings doing first _ (first_is _ first is) some))

-- so far events were taken, and the next one is taken too
pub event_taken : (caller : SessionContext) (start old middle : Tables) (at_first before : CommandOutput) (placed : IsPlaced start caller.place)
    → IsPlaced old caller.place → SoFar caller (here caller (Spin ∷ []) start at_first) (here caller (Spin ∷ []) old before) start old at_first before
    → middle ≡ with_state old caller.place (without_first (state_at old caller.place)) → (first : Event)
    → slice_get (state_at old caller.place).queue.events 0 ≡ Some first → 0 < before.turns
    → SoFar caller (here caller (Spin ∷ []) start at_first)
    (here caller (event_items (settings_of caller.setup.now) (state_at middle caller.place) first ++ Spin ∷ []) middle (with_event_taken before)) start
    middle at_first (with_event_taken before)
event_taken caller start old middle at_first before placed still so e first is some = record {
  posts = so.posts;
  runs = λ earlier. spin_begins (settings_of caller.setup.now) caller.place old middle before still e (earlier ++ so.posts) first is some ∙ so.runs earlier;
  reaches = subst (λ posts. Reaches caller.setup.now.classes caller.name.now caller.place posts start middle at_first.failing before.failing)
      (append-nil so.posts)
      (reaches_twice caller.setup.now.classes caller.name.now caller.place so.posts
      [] start old middle at_first.failing before.failing before.failing placed so.reaches
      (reaches_none caller old middle before.failing before.failing (keeps_with old middle caller.place _ still e) refl));
}

-- what it comes to is done, and then the next one is taken
pub spin_goes_on : (settings : Settings) (items : List Item) (doing new done : Execution) → run settings items doing ≡ new
    → run settings (items ++ Spin ∷ []) doing ≡ done → run settings (Spin ∷ []) new ≡ done
spin_goes_on settings items doing new done does begun = ap (run settings (Spin ∷ [])) (sym does) ∙ sym (in_parts settings items (Spin ∷ []) doing) ∙ begun

-- with no event left all is done
pub spin_ends : (settings : Settings) (doing : Execution) (start : Execution) → length doing.state.queue.events ≤ 0 → run settings (Spin ∷ []) doing ≡ start
    → start ≡ doing
spin_ends settings doing start none begun = sym begun ∙ by_change settings Spin doing doing (rule.spin_empty settings doing (none_waits _ none))

-- an event that finds no turn left is told of, and none is taken any more
pub spin_spent : (settings : Settings) (place : ℕ) (tables : Tables) (before after : CommandOutput) (earlier : List Post)
    → 0 < length (state_at tables place).queue.events → before.turns ≡ 0 → after ≡ spent before
    → run settings (Spin ∷ []) (doing_at place tables before earlier) ≡ doing_at place tables after earlier
spin_spent settings place tables before after earlier some none e = by (state_at tables place).queue.events refl
  where
    by : (events : List Event) → (state_at tables place).queue.events ≡ events
        → run settings (Spin ∷ []) (doing_at place tables before earlier) ≡ doing_at place tables after earlier
    by [] is = let none = ap (λ (events : List Event). length events) is in absurd (omega (arith, none, some))
    by (first ∷ later) is =
        by_change settings Spin (doing_at place tables before earlier) _ (rule.spin_spent settings (doing_at place tables before earlier) first later is none)
        ∙ spent_is place tables before after earlier e

-- a call that was queued is made
module _ (settings : Settings) (place : ℕ) (tables : Tables) (output : CommandOutput) (earlier : List Post) (call : QueuedCall) where
  abbrev its_doing : Execution
  its_doing = doing_at place tables output earlier

  abbrev its_items : List Item
  its_items = call_items settings (state_at tables place) call call.callee

  by_callee : (called : Callee) → call.callee ≡ called → its_items ≡ call_items settings (state_at tables place) call called
  by_callee called is = ap (call_items settings (state_at tables place) call) is

  -- a functor is run
  pub calls_functor : (index : ℕ) → call.callee ≡ callee.Functor index → (done : Execution)
      → run settings (call_items settings (state_at tables place) call (callee.Functor index)) its_doing ≡ done → run settings its_items its_doing ≡ done
  calls_functor index is done does = ap (λ (items : List Item). run settings items its_doing) (by_callee (callee.Functor index) is) ∙ does

  module _ (index : ℕ) (is : call.callee ≡ callee.Method index) where
    by_method : (found : Option Method) → found ≡ method_at settings (state_at tables place) call.object index
        → its_items ≡ option_map_or (method_items call.object index call.sender call.args 0 0) found []
    by_method found has = by_callee (callee.Method index) is ∙ ap
        (λ (found : Option Method). option_map_or (method_items call.object index call.sender call.args 0 0) found []) (sym has)

    -- an object that has gone, or has no such method, is not called
    pub calls_none : None ≡ method_at settings (state_at tables place) call.object index → run settings its_items its_doing ≡ its_doing
    calls_none has = ap (λ (items : List Item). run settings items its_doing) (by_method None has) ∙ at_end settings its_doing

    -- and one that is there is
    pub calls_method : (method : Method) → Some method ≡ method_at settings (state_at tables place) call.object index → (done : Execution)
        → run settings (method_items call.object index call.sender call.args 0 0 method) its_doing ≡ done → run settings its_items its_doing ≡ done
    calls_method method has done does = ap (λ (items : List Item). run settings items its_doing) (by_method (Some method) has) ∙ does

-- no turn is given back
pub turns_left : (settings : Settings) (agenda : List Item) (place : ℕ) (old new : Tables) (before after : CommandOutput) (earlier posts : List Post)
    → run settings agenda (doing_at place old before earlier) ≡ doing_at place new after posts → after.turns ≤ before.turns
turns_left settings agenda place old new before after earlier posts does =
    subst (λ (doing : Execution). doing.turns ≤ before.turns) does (run_shrinks settings agenda (doing_at place old before earlier)).turns

-- turns and events that were taken do not grow together
pub few_taken : (settings : Settings) (agenda : List Item) (place : ℕ) (old new : Tables) (before after : CommandOutput) (earlier posts : List Post)
    → run settings agenda (doing_at place old before earlier) ≡ doing_at place new after posts → after.turns + after.taken ≤ before.turns + before.taken
few_taken settings agenda place old new before after earlier posts does =
    subst (λ (doing : Execution). doing.turns + doing.taken ≤ before.turns + before.taken) does
    (run_shrinks settings agenda (doing_at place old before earlier)).taken

-- what came of it is replied last
pub spin_runs : (caller : SessionContext) (old new : Tables) (before : CommandOutput) → before ≡ fresh_output caller.setup.now.turns
    → let done = run (settings_of caller.setup.now) (Spin ∷ []) (doing_at caller.place old before []) in its_effect caller asked.Spin old
    ≡ ended (line_told done (line.Reply (a.Spun (spin_of done))))
spin_runs caller old new before fresh =
    let settings = settings_of caller.setup.now in
    let state = state_at old caller.place in
    rule.performs_spin settings caller.name.now state
    ∙ spun_last settings state
    ∙ ap (λ (doing : Execution). ended (line_told (run settings (Spin ∷ []) doing) (line.Reply (a.Spun (spin_of (run settings (Spin ∷ []) doing))))))
    (sym (ap (λ (output : CommandOutput). doing_at caller.place old output []) fresh))

-- so the command is performed
pub performs_spun : {T E : Type 0} (caller : SessionContext) (old new : Tables) (before after : CommandOutput) (value : T) (spin : Came)
    → before ≡ fresh_output caller.setup.now.turns
    → RunsItems {E = E} caller (Spin ∷ []) old new before after (Ok value) → spin ≡ spin_after after.taken (state_at new caller.place).queue
    → Performs caller asked.Spin old new after.failing (reply_after after.lines) (Ok (a.Spun spin))
performs_spun caller old new before after value spin fresh does is =
    let settings = settings_of caller.setup.now in
    let state = state_at old caller.place in
    let end = doing_at caller.place new after does.posts in
    replied_last after (rule.refusal_spin settings caller.name.now state)
    (spin_runs caller old new before fresh
    ∙ ap (λ (done : Execution). ended (line_told done (line.Reply (a.Spun (spin_of done))))) (does.runs [])
    ∙ ap (λ (spin : Came). ended (line_told end (line.Reply (a.Spun spin)))) (sym is))
    (at_first_reaches caller old new before after does.posts fresh does.reaches)
