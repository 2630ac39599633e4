-- A connection is called by nested calls: a turn is taken, and then its callee is called.
use Rattle.std.proofs.Common.{◌≡◌, ◌<◌, ℕ, true, false, List, [], ◌∷◌, Result, Ok, Some, OnErr, OnOk, refl}
use Rattle.plain_types.specs.declared.callee.Callee.{Callee}
use Rattle.variant_value.specs.declared.value.Value.{Value}
use Rattle.connection_list.specs.declared.connection.Connection.{Connection}
use Rattle.session_model.specs.declared.post.Post.{Post}
use Rattle.session_model.specs.Agenda.{callee_called, connection_of, queued_call}
use Rattle.session_model.specs.Items.{Call, Item, Next}
use Rattle.session_model.specs.Posting.{is_queued}
use Rattle.session_model.specs.State.{with_call}
use Rattle.session_tables.specs.declared.tables.Tables.{Tables}
use Rattle.session_tables.specs.Tables.{IsPlaced, state_at, with_state}
use Rattle.session_effects.specs.declared.session_context.SessionContext.{SessionContext}
use Rattle.session_effects.specs.Setup.{settings_of}
use Rattle.session_effects.proofs.ForCallers.{keeps_same, keeps_with}
use Rattle.session_effects.proofs.WritingLemmas.{set_keeps}
use Rattle.dispatch.specs.declared.command_output.CommandOutput.{CommandOutput}
use Rattle.dispatch.specs.Agenda.{RunsNext}
use Rattle.dispatch.specs.CommandOutput.{doing_at}
use Rattle.dispatch.proofs.AgendaLemmas.{call_taken, shot_state, taken}
use Rattle.dispatch.proofs.CalleeLemmas.{by_mode, callee_front, called_at_once, called_later, queued_is}
use Rattle.dispatch.proofs.RunsLemmas.{OnOk-map, does_after, does_by, done_by, here, next_none}

-- what is called, by this session
module _ (caller : SessionContext) (connection : Connection) (args : List Value) (depth : ℕ) (now : Tables) (between : CommandOutput) (called : Callee) where
  abbrev pub callee_next : List Post → Next
  callee_next earlier = callee_called (settings_of caller.setup.now) connection args depth (doing_at caller.place now between earlier) called

  -- it is not there
  pub callee_absent : {T E : Type 0} {value : T} → ((earlier : List Post) → done_by caller (callee_next earlier) ≡ doing_at caller.place now between earlier)
      → RunsNext {E = E} caller callee_next now now between between (Ok value)
  callee_absent {T} {E} {value} absent = next_none caller callee_next now between
      (λ earlier. callee_front (settings_of caller.setup.now) connection args depth (doing_at caller.place now between earlier) called)
      now between (Ok value) (keeps_same now now caller.place refl) refl absent

  -- it is there, and is given these values
  module _ (given : List Value) (items : List Item) (there : (earlier : List Post) → done_by caller (callee_next earlier)
      ≡ by_mode (settings_of caller.setup.now) connection args depth (doing_at caller.place now between earlier) called given items) where
    -- later, by an event
    pub callee_later : {T E : Type 0} {new : Tables} {result : Result T E} → IsPlaced now caller.place → connection.callee ≡ called
        → is_queued connection.mode ≡ true
        → OnOk result (new ≡ with_state now caller.place (with_call (state_at now caller.place) (queued_call connection connection.callee given)))
        → OnErr result (new ≡ now) → RunsNext caller callee_next now new between between result
    callee_later {T} {E} {new} {result} placed is later ok err = next_none caller callee_next now between
        (λ earlier. callee_front (settings_of caller.setup.now) connection args depth (doing_at caller.place now between earlier) called)
        new between result (set_keeps caller.place now new _ result placed ok err) refl
        (OnOk-map result (λ e earlier. called_later (settings_of caller.setup.now) connection args depth
        (doing_at caller.place now between earlier) called given
        items (there earlier) _ is later (queued_is caller.place now new between earlier _ placed e)) ok)

    -- at once
    pub callee_at_once : {T E : Type 0} {new : Tables} {after : CommandOutput} {result : Result T E} → is_queued connection.mode ≡ false
        → RunsNext caller (here caller items now between) now new between after result → RunsNext caller callee_next now new between after result
    callee_at_once {T} {E} {new} {after} {result} at_once does = does_by caller callee_next now between (here caller items now between) new after result
        (λ earlier done. called_at_once (settings_of caller.setup.now) connection args depth (doing_at caller.place now between earlier) called given items
        (there earlier) done at_once) does

-- a call whose turn is taken
module _ {caller : SessionContext} (connection : Connection) {args : List Value} {depth : ℕ} {old middle : Tables} {before : CommandOutput}
    (placed : IsPlaced old caller.place) where
  -- its callee is called then
  pub turn_does : {T E : Type 0} {new : Tables} {after : CommandOutput} {result : Result T E} (called : Callee)
      → connection_of (doing_at caller.place old before []) connection.number ≡ Some connection
      → middle ≡ with_state old caller.place (shot_state caller connection args depth old middle before) → 0 < before.turns → connection.callee ≡ called
      → RunsNext caller (callee_next caller connection args depth middle (taken before) called) middle new (taken before) after result
      → RunsNext caller (here caller (Call connection.number args depth ∷ []) old before) old new before after result
  turn_does {T} {E} {new} {after} {result} called standing shot some is does = does_after caller _ old before _ middle new (taken before) after result placed
      (keeps_with old middle caller.place _ placed shot) refl
      (λ earlier done. call_taken caller connection args depth old middle before earlier placed standing shot some called is done) does
