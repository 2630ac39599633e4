use Rattle.std.proofs.Common.{◌≡◌, ◌≤◌, ◌+◌, ◌-◌, ◌*◌, ◌++◌, [], find, is_some, map, take, true, false, Ok, List, refl, sym, ap, subst, ◌∙◌, arith}
use Rattle.std.proofs.lemmas.Bool.{cond-false, cond-true}
use Rattle.std.proofs.lemmas.List.{drop_more}
use Rattle.std.specs.List.{list_any}
use Rattle.plain_types.specs.declared.callee.Callee.TheVariants as callee
use Rattle.term_core.specs.Act.{Act, acts_of, count, counts, single_action}
use Rattle.term_core.specs.declared.action.SingleAction.TheVariants as e
use Rattle.term_core.specs.Steps.{act_at}
use Rattle.term_core.proofs.ForCallers.{count_within}
use Rattle.connection_list.specs.Rows.{IsSound, is_next}
use Rattle.publish_board.specs.Rows.{publishes}
use Rattle.session_model.specs.declared.post.Post.{Post}
use Rattle.session_model.specs.Agenda.{lives_below}
use Rattle.session_model.specs.Acts as model
use Rattle.session_model.specs.Arriving.{posts_of}
use Rattle.session_model.specs.declared.line.Line.TheVariants as line
use Rattle.session_model.specs.Execution.{Execution, line_told, stepped}
use Rattle.session_model.specs.Items.{DeleteChild, Item}
use Rattle.session_model.specs.Run.{run}
use Rattle.session_model.specs.State.{State}
use Rattle.session_model.proofs.ForCallers.{at_end, calls_to, emission_end, living_rows, remaining}
use Rattle.session_tables.specs.Tables.{state_at}
use Rattle.session_effects.specs.Actions.{act_of}
use Rattle.session_effects.specs.Setup.{settings_of}
use Rattle.session_effects.specs.Writing.{announced, notice_args}
use Rattle.session_effects.proofs.ForCallers.{item_at, keeps_same, keeps_with, placed_kept}
use Rattle.dispatch.specs.CommandOutput.{doing_at}
use Rattle.dispatch.proofs.ActionLemmas.{action_does, action_warned, choice_does, choice_warned}
use Rattle.dispatch.proofs.AgendaLemmas.{acts_are, call_spent, emission_absent, emission_begins, emission_deep, emission_goes_on, emission_held_back}
use Rattle.dispatch.proofs.AgendaLemmas.{emission_unheard, found_stands, is_held, is_let_through, last_stays, left_at, left_shot, left_stepped, longest_of}
use Rattle.dispatch.proofs.AgendaLemmas.{next_smaller, posting_is, posts_none, rank_falls, round_falls, taken, told_is, warn_done}
use Rattle.dispatch.proofs.CallLemmas.{callee_absent, callee_at_once, callee_later, turn_does}
use Rattle.dispatch.proofs.CalleeLemmas.{answered_short, functor_absent, functor_does, functor_short, functor_there, left_functor, method_absent}
use Rattle.dispatch.proofs.CalleeLemmas.{method_there, one_less, runs_functor, runs_none, runs_slot, stepped_is}
use Rattle.dispatch.proofs.DeletionLemmas.{cuts, delete_child_none, delete_child_some, delete_none, goes, marks, says}
use Rattle.dispatch.proofs.NotifyingLemmas.{warn_of_done}
use Rattle.dispatch.proofs.PrefixLemmas.{front_same, part_front}
use Rattle.dispatch.proofs.ProgressLemmas.{ends, finishes, first_done, first_stops, goes_on, leaves_less, list_ends, next_done}
use Rattle.dispatch.proofs.ProgressLemmas.{nests, next_stops, ranks_lower, starts, stops}
use Rattle.dispatch.proofs.RunsLemmas.{OnOk-map, does_after, does_by, does_starved, does_still, far_stopped, placed_reached, placed_with}
use Rattle.dispatch.proofs.+agenda.Goals as goal

pub agenda::act-returns-in-Ok-true : goal.agenda::act-returns-in-Ok-true
agenda::act-returns-in-Ok-true t g c = choice_does c.args.slot.now c.in-When.test (acts_of c.in-When.held.items) (acts_of c.in-When.failed.items)
    (sym (ap act_at c.in-When.is) ∙ c.action.view_is) true (c.in-Ok-true.ensures ∙ ap Ok c.in-Ok-true.field-0-test)
    (rw c.deref.ensures.value at c.acts.ensures)

pub agenda::act-returns-in-Ok-false : goal.agenda::act-returns-in-Ok-false
agenda::act-returns-in-Ok-false t g c = choice_does c.args.slot.now c.in-When.test (acts_of c.in-When.held.items) (acts_of c.in-When.failed.items)
    (sym (ap act_at c.in-When.is) ∙ c.action.view_is) false (c.in-Ok-false.ensures ∙ ap Ok c.in-Ok-false.field-0-test)
    (rw c.deref-in-Ok-false.ensures.value at c.acts-in-Ok-false.ensures)

pub agenda::act-returns-in-Err : goal.agenda::act-returns-in-Err
agenda::act-returns-in-Err t g c = choice_warned c.args.slot.now c.in-When.test (acts_of c.in-When.held.items) (acts_of c.in-When.failed.items)
    (sym (ap act_at c.in-When.is) ∙ c.action.view_is) c.in-Err.fault c.in-Err.ensures c.warn_of.ensures.failing
    c.warn_of.ensures.told

pub agenda::acts-actions-init : goal.agenda::acts-actions-init
agenda::acts-actions-init t g c = starts c.requires.placed (keeps_same _ _ _ refl) (omega arith)
    (λ earlier. ap (λ items. run (settings_of c.args.actor.now.caller.setup.now) items (doing_at c.args.actor.now.caller.place c.args.tables.now
    c.args.output.now earlier))
    (sym (acts_are c.args.slot.now c.args.actions.now)))

pub agenda::acts-act-requires : goal.agenda::acts-act-requires
agenda::acts-act-requires t g c = λ κs outlives.
    let xs = c.args.actions.now in
    let smaller : count c.action-item.result ≤ counts (acts_of xs) =
    subst (λ y. count y ≤ counts (acts_of xs)) (sym c.action-item.is) (count_within xs c.actions.action-index _ (omega arith)) in
    let falls = ranks_lower (2 * counts (acts_of xs) + 6) (2 * count c.action-item.result + 5) c.actions.invariant (omega (arith, smaller)) in
    (grind (arith, falls), (outlives, nests c.actions.invariant c.requires.within))

pub agenda::acts-returns-in_err-act : goal.agenda::acts-returns-in_err-act
agenda::acts-returns-in_err-act t g c = next_stops (act_of c.args.slot.now) c.args.actions.now c.actions.action-index c.actions.invariant c.requires.placed
    c.action-item.result
    (item_at c.args.actions.now c.actions.action-index c.action-item.result (omega arith) c.action-item.is) c.from_residual.ensures.0 c.in_err-act.ensures

pub agenda::acts-actions-preserved : goal.agenda::acts-actions-preserved
agenda::acts-actions-preserved t g c = next_done (act_of c.args.slot.now) c.args.actions.now c.actions.action-index c.actions.invariant c.requires.placed
    c.action-item.result
    (item_at c.args.actions.now c.actions.action-index c.action-item.result (omega arith) c.action-item.is) c.in_ok-act.ensures

pub agenda::acts-returns : goal.agenda::acts-returns
agenda::acts-returns t g c = list_ends (act_of c.args.slot.now) c.args.actions.now c.actions.action-index c.actions.invariant c.requires.placed
    (omega arith)

pub agenda::call-returns-then-output-eq0 : goal.agenda::call-returns-then-output-eq0
agenda::call-returns-then-output-eq0 t g c = does_still c.use_up.ensures.failing (OnOk-map c.use_up.result (λ e earlier.
    call_spent c.args.actor.now.caller c.args.connection.now c.args.args.now c.args.depth c.args.tables.now c.args.tables.now c.args.output.now earlier
    c.requires.nests.placed c.requires.stands c.use_up.new.self (omega arith) e) c.use_up.ensures.told)

pub agenda::call-call_functor-requires : goal.agenda::call-call_functor-requires
agenda::call-call_functor-requires t g c = λ κs outlives.
    let caller = c.args.actor.now.caller in
    let shot = c.break_single_shot.ensures in
    let less = left_shot caller.place c.args.connection.now c.args.tables.now c.break_single_shot.new.self c.args.output.now c.requires.nests.placed shot in
    let falls = round_falls caller c.args.tables.now c.break_single_shot.new.self c.args.output.now (taken c.args.output.now) 0 (2 * longest_of caller + 8)
    (omega (arith, less)) (omega arith) in
    (grind (arith, falls), (outlives, (record { placed = placed_with _ _ _ _ c.requires.nests.placed shot; within = omega arith }, c.in-Functor.is)))

pub agenda::call-run_method-requires : goal.agenda::call-run_method-requires
agenda::call-run_method-requires t g c = λ κs outlives.
    let caller = c.args.actor.now.caller in
    let shot = c.break_single_shot.ensures in
    let less = left_shot caller.place c.args.connection.now c.args.tables.now c.break_single_shot.new.self c.args.output.now c.requires.nests.placed shot in
    let falls = round_falls caller c.args.tables.now c.break_single_shot.new.self c.args.output.now (taken c.args.output.now) 0 71
    (omega (arith, less)) (omega arith) in (
      grind (arith, falls),
      (
        outlives,
        (
          placed_with _ _ _ _ c.requires.nests.placed shot,
          (
            omega arith,
            (
              omega arith,
              (omega arith, (c.in-Some.ensures.value, c.in-Some.ensures.sound)),
            ),
          ),
        ),
      ),
    )

pub agenda::call-returns-in-Functor : goal.agenda::call-returns-in-Functor
agenda::call-returns-in-Functor t g c = turn_does c.args.connection.now c.requires.nests.placed (callee.Functor c.in-Functor.index) c.requires.stands
    c.break_single_shot.ensures (omega arith)
    c.in-Functor.is c.call_functor.ensures

pub agenda::call-returns-in_default : goal.agenda::call-returns-in_default
agenda::call-returns-in_default t g c = turn_does c.args.connection.now c.requires.nests.placed (callee.Method c.in-Method.index) c.requires.stands
    c.break_single_shot.ensures (omega arith)
    c.in-Method.is (callee_absent c.args.actor.now.caller c.args.connection.now c.args.args.now c.args.depth _ _ (callee.Method c.in-Method.index)
    (λ earlier. method_absent _ c.args.connection.now _ _ _ _ c.in_default.ensures.value))

pub agenda::call-returns-then-is_queued : goal.agenda::call-returns-then-is_queued
agenda::call-returns-then-is_queued t g c = turn_does c.args.connection.now c.requires.nests.placed (callee.Method c.in-Method.index) c.requires.stands
    c.break_single_shot.ensures (omega arith)
    c.in-Method.is (callee_later c.args.actor.now.caller c.args.connection.now c.args.args.now c.args.depth _ _ (callee.Method c.in-Method.index)
    c.first-given.result.now _
    (λ earlier. method_there _ c.args.connection.now _ _ _ _ _ c.in-Some.ensures.value _ (c.first-given.ensures ∙ ap
    (λ n. take n c.args.args.now) c.len.ensures)) (placed_with _ _ _ _ c.requires.nests.placed c.break_single_shot.ensures)
    c.in-Method.is (sym c.if-is_queued.ensures)
    c.call_later.ensures.ok c.call_later.ensures.err)

pub agenda::call-returns : goal.agenda::call-returns
agenda::call-returns t g c = turn_does c.args.connection.now c.requires.nests.placed (callee.Method c.in-Method.index) c.requires.stands
    c.break_single_shot.ensures (omega arith)
    c.in-Method.is (callee_at_once c.args.actor.now.caller c.args.connection.now c.args.args.now c.args.depth _ _ (callee.Method c.in-Method.index)
    c.first-given.result.now _
    (λ earlier. method_there _ c.args.connection.now _ _ _ _ _ c.in-Some.ensures.value _ (c.first-given.ensures ∙ ap
    (λ n. take n c.args.args.now) c.len.ensures))
    (sym c.if-is_queued.ensures) (rw (one_less c.args.depth) at c.run_method.ensures))

pub agenda::call_functor-returns-in_default : goal.agenda::call_functor-returns-in_default
agenda::call_functor-returns-in_default t g c = callee_absent c.args.actor.now.caller c.args.connection.now c.args.args.now c.args.depth _ _
    (callee.Functor c.args.index)
    (λ earlier. functor_absent _ c.args.connection.now _ _ _ _ c.in_default.ensures)

pub agenda::call_functor-returns-then-is_queued : goal.agenda::call_functor-returns-then-is_queued
agenda::call_functor-returns-then-is_queued t g c = callee_later c.args.actor.now.caller c.args.connection.now c.args.args.now c.args.depth _ _
    (callee.Functor c.args.index)
    c.first-given.result.now _
    (λ earlier. functor_there _ c.args.connection.now _ _ _ _ _ c.in-Some.ensures _ (c.first-given.ensures ∙ ap
    (λ n. take n c.args.args.now) c.len.ensures)) c.requires.nests.placed c.requires.callee (sym c.if-is_queued.ensures)
    c.call_later.ensures.ok c.call_later.ensures.err

pub agenda::call_functor-returns : goal.agenda::call_functor-returns
agenda::call_functor-returns t g c = callee_at_once c.args.actor.now.caller c.args.connection.now c.args.args.now c.args.depth _ _
    (callee.Functor c.args.index)
    c.first-given.result.now _
    (λ earlier. functor_there _ c.args.connection.now _ _ _ _ _ c.in-Some.ensures _ (c.first-given.ensures ∙ ap (λ n. take n c.args.args.now) c.len.ensures))
    (sym c.if-is_queued.ensures) (rw (one_less c.args.depth) at c.run_functor.ensures)

pub agenda::run_method-returns-then-method : goal.agenda::run_method-returns-then-method
agenda::run_method-returns-then-method t g c =
    let caller = c.args.actor.now.caller in
    does_by caller _ c.args.tables.now c.args.output.now _ c.emit.new.tables c.emit.new.output c.emit.result
    (λ earlier done does. ap (λ (items : List Item). run (settings_of caller.setup.now) items (doing_at caller.place c.args.tables.now c.args.output.now
    earlier))
    (cond-true c.args.method.now.is_signal _ _ c.if-method.true) ∙ does)
    c.emit.ensures

pub agenda::run_method-returns-in_err-call : goal.agenda::run_method-returns-in_err-call
agenda::run_method-returns-in_err-call t g c = does_starved c.from_residual.ensures.0 c.call.ensures.failing

pub agenda::run_method-returns : goal.agenda::run_method-returns
agenda::run_method-returns t g c =
    let caller = c.args.actor.now.caller in
    let slot = c.args.slot.now in
    does_after caller _ c.args.tables.now c.args.output.now _ c.args.tables.now c.acts.new.tables c.call.new.self c.acts.new.output c.acts.result
    c.requires.placed (keeps_same _ _ _ refl) c.in_ok-call.ensures.failing
    (λ earlier done does.
    let settings = settings_of caller.setup.now in
    let doing = doing_at caller.place c.args.tables.now c.args.output.now earlier in
    let runs = run settings (model.acts (acts_of c.args.method.now.body.actions) slot.args.now slot.object slot.sender slot.depth) in
    ap (λ (items : List Item). run settings items doing) (cond-false c.args.method.now.is_signal _ _ c.if-method.false)
    ∙ runs_slot settings slot.object c.args.index slot.sender slot.args.now (slot.depth - 1) doing c.args.method.now c.requires.found slot.depth
    (omega arith) done
    (ap (λ name. runs (line_told doing (line.Call (record { method = name; object = slot.object; sender = slot.sender; args = slot.args.now }))))
    (sym c.requires.sound.text)
    ∙ ap runs (told_is caller.place c.args.tables.now c.args.output.now c.call.new.self earlier _ c.in_ok-call.ensures.told) ∙ does))
    (rw c.as_slice.ensures at c.acts.ensures)

pub agenda::run_functor-returns-in_default : goal.agenda::run_functor-returns-in_default
agenda::run_functor-returns-in_default t g c = does_still refl (λ earlier. runs_none _ _ _ _ _ _ _ _ c.in_default.ensures)

pub agenda::run_functor-returns-in_err-call : goal.agenda::run_functor-returns-in_err-call
agenda::run_functor-returns-in_err-call t g c = does_starved c.from_residual.ensures.0 c.call.ensures.failing

pub agenda::run_functor-returns-in_err-actions : goal.agenda::run_functor-returns-in_err-actions
agenda::run_functor-returns-in_err-actions t g c = does_starved c.from_residual-in_err-actions.ensures.0 c.call.ensures.failing

pub agenda::run_functor-acts-requires : goal.agenda::run_functor-acts-requires
agenda::run_functor-acts-requires t g c = λ κs outlives.
    let caller = c.args.actor.now.caller in
    let settings = settings_of caller.setup.now in
    let old = c.args.tables.now in
    let new = c.step_functor.new.self in
    let same : left_at caller.place old c.call.new.self ≡ left_at caller.place old c.args.output.now =
    ap (left_at caller.place old) c.in_ok-call.ensures.told in
    let less = left_functor caller.place old new c.call.new.self c.args.connection c.in_ok-actions.next c.requires.placed c.step_functor.ensures in
    let short = functor_short settings c.args.index c.in-Some.functor.now c.in-Some.ensures in
    let kept = answered_short settings c.args.index c.in-Some.functor.now c.in-Some.ensures c.functor_state-state.result c.args.slot.now.args.now
    c.in_ok-actions.actions.items c.in_ok-actions.ensures.actions in
    let whole : counts (acts_of c.as_slice.result.now) ≡ counts (acts_of c.in_ok-actions.actions.items) =
    ap (λ (actions : List Act). counts (acts_of actions)) c.as_slice.ensures.value in
    let falls = rank_falls caller old new c.args.output.now c.call.new.self (2 * longest_of caller + 7) (2 * counts (acts_of c.as_slice.result.now) + 6)
    (omega (arith, same, less)) (omega (arith, short, kept, whole)) in
    (grind (arith, falls), (outlives, record { placed = placed_with _ _ _ _ c.requires.placed c.step_functor.ensures; within = c.requires.depth }))

pub agenda::run_functor-returns : goal.agenda::run_functor-returns
agenda::run_functor-returns t g c =
    let caller = c.args.actor.now.caller in
    let settings = settings_of caller.setup.now in
    let slot = c.args.slot.now in
    let old = c.args.tables.now in
    let new = c.step_functor.new.self in
    let functor = c.in-Some.functor.now in
    does_after caller _ old c.args.output.now _ new c.acts.new.tables c.call.new.self c.acts.new.output c.acts.result c.requires.placed
    (keeps_with _ _ _ _ c.requires.placed c.step_functor.ensures) c.in_ok-call.ensures.failing
    (λ earlier done does. let doing = doing_at caller.place old c.args.output.now earlier in
    runs_functor settings slot.object c.args.index slot.sender c.args.connection slot.args.now (slot.depth - 1) doing functor c.in-Some.ensures slot.depth
    (omega arith) done
    (functor_does settings c.args.index functor c.in-Some.ensures slot.object slot.sender c.args.connection slot.args.now slot.depth
    doing (doing_at caller.place new c.call.new.self earlier) done c.functor_state-state.result c.in_ok-actions.next c.in_ok-actions.actions.items
    c.functor_state-state.ensures c.in_ok-actions.ensures.actions c.in_ok-actions.ensures.next
    (ap (λ (doing : Execution). stepped doing c.args.connection c.in_ok-actions.next)
    (told_is caller.place old c.args.output.now c.call.new.self earlier _ c.in_ok-call.ensures.told)
    ∙ stepped_is caller.place old new c.call.new.self earlier c.args.connection c.in_ok-actions.next c.requires.placed c.step_functor.ensures) does))
    (rw c.as_slice.ensures.value at c.acts.ensures)

pub agenda::single_action-returns-in-Ok : goal.agenda::single_action-returns-in-Ok
agenda::single_action-returns-in-Ok t g c = rw c.in-Emit.is
    (action_does c.args.slot.now (rw c.as_slice.ensures at c.in-Ok.ensures) c.requires.placed (keeps_same _ _ _ refl)
    (rw c.as_slice-in-Ok.ensures at c.emit.ensures))

pub agenda::single_action-returns-in-Err : goal.agenda::single_action-returns-in-Err
agenda::single_action-returns-in-Err t g c = rw (c.in-Emit.is, ← c.as_slice.ensures)
    (action_warned c.args.slot.now c.in-Err.fault (λ code is. rw is at c.in-Err.ensures) (λ code is. refl) (keeps_same _ _ _ refl)
    c.warn_of.ensures.failing c.warn_of.ensures.told)

pub agenda::single_action-returns-in-Ok-resolve_delete : goal.agenda::single_action-returns-in-Ok-resolve_delete
agenda::single_action-returns-in-Ok-resolve_delete t g c = rw c.in-Delete.is
    (action_does c.args.slot.now c.in-Ok-resolve_delete.ensures c.requires.placed (keeps_same _ _ _ refl) c.delete.ensures)

pub agenda::single_action-returns-in-Err-resolve_delete : goal.agenda::single_action-returns-in-Err-resolve_delete
agenda::single_action-returns-in-Err-resolve_delete t g c = rw c.in-Delete.is
    (action_warned c.args.slot.now c.in-Err-resolve_delete.fault (λ code is. rw is at c.in-Err-resolve_delete.ensures) (λ code is. refl)
    (keeps_same _ _ _ refl) c.warn_of-in-Err-resolve_delete.ensures.failing c.warn_of-in-Err-resolve_delete.ensures.told)

pub agenda::single_action-notify-requires : goal.agenda::single_action-notify-requires
agenda::single_action-notify-requires t g c = λ κs outlives.
    let caller = c.args.actor.now.caller in
    let less = left_stepped (settings_of caller.setup.now) (act_of c.args.slot.now (single_action (e.Set c.in-Set.of c.in-Set.property c.in-Set.value))) _
    caller.place c.args.tables.now c.set.new.tables c.args.output.now []
    (c.in-Ok-set.ensures.tries (doing_at caller.place c.args.tables.now c.args.output.now [])) in
    let falls = rank_falls caller c.args.tables.now c.set.new.tables c.args.output.now c.args.output.now 5 4 less (omega arith) in
    (grind (arith, falls), (outlives, (placed_kept _ _ _ c.in-Ok-set.ensures.keeps c.requires.placed, c.requires.within)))

pub agenda::single_action-returns-in-Ok-set : goal.agenda::single_action-returns-in-Ok-set
agenda::single_action-returns-in-Ok-set t g c = rw c.in-Set.is
    (action_does c.args.slot.now c.in-Ok-set.ensures.tries c.requires.placed c.in-Ok-set.ensures.keeps c.notify.ensures)

pub agenda::single_action-returns-in-Err-set : goal.agenda::single_action-returns-in-Err-set
agenda::single_action-returns-in-Err-set t g c = rw c.in-Set.is
    (action_warned c.args.slot.now c.in-Err-set.fault (λ code is. rw is at c.in-Err-set.ensures.tries) (λ code is. rw is at c.in-Err-set.ensures.refused)
    c.in-Err-set.ensures.keeps c.warn_of-in-Err-set.ensures.failing c.warn_of-in-Err-set.ensures.told)

pub agenda::single_action-returns-in-Ok-apply_action : goal.agenda::single_action-returns-in-Ok-apply_action
agenda::single_action-returns-in-Ok-apply_action t g c = action_does c.args.slot.now c.in-Ok-apply_action.ensures.tries c.requires.placed
    c.apply_action.ensures.keeps (does_still refl (λ earlier. at_end _ _))

pub agenda::single_action-returns-in-Err-apply_action : goal.agenda::single_action-returns-in-Err-apply_action
agenda::single_action-returns-in-Err-apply_action t g c = action_warned c.args.slot.now c.in-Err-apply_action.fault
    (λ code is. rw is at c.in-Err-apply_action.ensures.tries) (λ code is. c.in-Err-apply_action.ensures.err) c.apply_action.ensures.keeps
    c.warn_of-in-Err-apply_action.ensures.failing c.warn_of-in-Err-apply_action.ensures.told

pub agenda::emit-returns-in_default : goal.agenda::emit-returns-in_default
agenda::emit-returns-in_default t g c = does_still refl (λ earlier. emission_absent _ _ _ _ _ _ c.in_default.ensures)

pub agenda::emit-returns-then-signal-ne-DESTROYED : goal.agenda::emit-returns-then-signal-ne-DESTROYED
agenda::emit-returns-then-signal-ne-DESTROYED t g c = does_still refl (λ earlier. emission_held_back _ _ _ _ _ _ c.in-Some.row c.in-Some.ensures
    (is_held c.in-Some.row.blocked c.args.signal c.if-row.true c.if-signal-ne-DESTROYED.true))

pub agenda::emit-returns-then-depth-ge-NESTED_SIGNALS : goal.agenda::emit-returns-then-depth-ge-NESTED_SIGNALS
agenda::emit-returns-then-depth-ge-NESTED_SIGNALS t g c = does_still c.warn.ensures.failing (OnOk-map c.warn.result
    (λ e earlier. emission_deep _ _ _ _ c.args.depth _ c.in-Some.row c.in-Some.ensures (is_let_through c.in-Some.row.blocked c.args.signal c.else-row.either)
    _ (omega arith) (warn_done _ c.args.actor.now.caller.place c.args.tables.now c.args.output.now c.warn.new.self _ _ _ e)) c.warn.ensures.told)

pub agenda::emit-calls-init : goal.agenda::emit-calls-init
agenda::emit-calls-init t g c =
    let caller = c.args.actor.now.caller in
    let settings = settings_of caller.setup.now in
    let place = caller.place in
    let old = c.args.tables.now in
    let before = c.args.output.now in
    let new = c.post-output.new.tables in
    let after = record before { failing = c.post-output.result } in
    let posts = posts_of settings.classes (state_at old place) c.args.target c.args.signal c.args.args.now in
    let alike : left_at place new after ≡ left_at place old before =
    ap (λ (state : State). before.turns + living_rows state.forest.rows) c.post-output.ensures.own in
    record {
      progress = record {
        so = record {
          posts = posts;
          runs = λ earlier.
              ap (λ number. run settings (calls_to settings c.args.args.now c.args.depth
              (remaining c.args.target c.args.signal number 0 (state_at new place).connections.rows)) (doing_at place new after (earlier ++ posts)))
              c.last_number-up_to.ensures.number
              ∙ ap (λ (state : State). run settings (calls_to settings c.args.args.now c.args.depth
              (remaining c.args.target c.args.signal state.connections.last_number 0 state.connections.rows)) (doing_at place new after (earlier ++ posts)))
              c.post-output.ensures.own
              ∙ emission_begins settings c.args.target c.args.signal c.args.args.now c.args.depth
              (doing_at place old before earlier) c.in-Some.row c.in-Some.ensures (is_let_through c.in-Some.row.blocked c.args.signal c.else-row.either)
              (omega arith)
              (subst (λ (state : State). IsSound state.connections) c.post-output.ensures.own c.last_number-up_to.ensures.sound)
              (doing_at place new after (earlier ++ posts)) (posting_is place old new before after earlier posts c.post-output.ensures.own refl);
          reaches = c.post-output.ensures.reaches;
        };
        placed = placed_reached caller old new posts before.failing c.post-output.result c.post-output.ensures.reaches c.requires.placed;
        left = omega (arith, alike);
      };
      last = let number = c.last_number-up_to.ensures.number in omega (arith, number);
    }

pub agenda::emit-call-requires : goal.agenda::emit-call-requires
agenda::emit-call-requires t g c = λ κs outlives.
    let progress = c.calls.invariant.progress in
    let falls = ranks_lower 1 0 progress (omega arith) in (
      grind (arith, falls),
      (
        outlives,
        (
          nests progress (omega arith),
          found_stands _ _ c.in-Some-next_after.connection c.next_after.ensures.sound.rising (sym c.in-Some-next_after.ensures.next),
        ),
      ),
    )

pub agenda::emit-returns-in_err-call : goal.agenda::emit-returns-in_err-call
agenda::emit-returns-in_err-call t g c = stops c.calls.invariant.progress c.requires.placed c.from_residual.ensures.0 c.in_err-call.ensures
    (λ posts. part_front _ _ _ _ (emission_goes_on _ c.args.target c.args.signal c.args.args.now c.args.depth
    c.last_number-up_to.result c.calls.after _ _ _ c.in-Some-next_after.connection c.next_after.ensures.sound c.calls.invariant.last
    (sym c.in-Some-next_after.ensures.next) refl refl))

pub agenda::emit-calls-smaller : goal.agenda::emit-calls-smaller
agenda::emit-calls-smaller t g c = next_smaller c.args.target c.args.signal c.calls.after c.last_number-up_to.result _ c.in-Some-next_after.connection
    (sym c.in-Some-next_after.ensures.next)

pub agenda::emit-calls-preserved : goal.agenda::emit-calls-preserved
agenda::emit-calls-preserved t g c =
    let caller = c.args.actor.now.caller in
    record {
      progress = goes_on c.calls.invariant.progress c.requires.placed (calls_to (settings_of caller.setup.now) c.args.args.now c.args.depth
          (remaining c.args.target c.args.signal c.last_number-up_to.result c.in-Some-next_after.connection.number
          (state_at c.call.new.tables caller.place).connections.rows)) c.in_ok-call.ensures
          (λ posts more done. emission_goes_on _ c.args.target c.args.signal c.args.args.now c.args.depth
          c.last_number-up_to.result c.calls.after _ _ _ c.in-Some-next_after.connection c.next_after.ensures.sound c.calls.invariant.last
          (sym c.in-Some-next_after.ensures.next));
      last = last_stays (settings_of caller.setup.now) c.args.target c.args.signal c.args.args.now c.args.depth c.last_number-up_to.result
          (doing_at caller.place c.calls.tables c.calls.output []) (doing_at caller.place c.call.new.tables c.call.new.output _)
          c.in-Some-next_after.connection c.calls.invariant.last (c.in_ok-call.ensures.runs []);
    }

pub agenda::emit-returns : goal.agenda::emit-returns
agenda::emit-returns t g c = ends c.calls.invariant.progress c.requires.placed (λ posts done e. sym e
    ∙ emission_end _ c.args.target c.args.signal c.args.args.now c.args.depth c.last_number-up_to.result c.calls.after _
    (sym c.in_default-next_after.ensures.next))

pub notifying::notify-returns-in-Nothing : goal.notifying::notify-returns-in-Nothing
notifying::notify-returns-in-Nothing t g c = rw c.in-Nothing.is (does_still refl (λ earlier. at_end _ _))

pub notifying::notify-returns-in-One : goal.notifying::notify-returns-in-One
notifying::notify-returns-in-One t g c = rw c.in-One.is c.notify_of.ensures

pub notifying::notify-returns-in-Several : goal.notifying::notify-returns-in-Several
notifying::notify-returns-in-Several t g c = rw c.in-Several.is c.tell.ensures

pub notifying::notify_of-returns-then-not-is_sent : goal.notifying::notify_of-returns-then-not-is_sent
notifying::notify_of-returns-then-not-is_sent t g c =
    let settings = settings_of c.args.actor.now.caller.setup.now in
    let state = state_at c.args.tables.now c.args.actor.now.caller.place in
    let notice = c.args.notice in
    let unheard : is_some (find (is_next notice.object notice.signal 0 state.connections.last_number) state.connections.rows) ≡ false = grind arith in
    let unpublished : list_any (publishes notice.object notice.signal) state.desk.publications ≡ false = grind arith in
    does_still refl (λ earlier. emission_unheard _ _ _ _ c.args.depth _ (omega arith) c.is_sent.ensures.sound
    (posts_none settings.classes state notice.object notice.signal (notice_args settings state notice) unpublished) unheard)

pub notifying::notify_of-returns-in_err-args : goal.notifying::notify_of-returns-in_err-args
notifying::notify_of-returns-in_err-args t g c = does_starved c.from_residual.ensures.0 refl

pub notifying::tell-returns-in_err-told : goal.notifying::tell-returns-in_err-told
notifying::tell-returns-in_err-told t g c = does_starved c.from_residual.ensures.0 refl

pub notifying::tell-told-init : goal.notifying::tell-told-init
notifying::tell-told-init t g c =
    let caller = c.args.actor.now.caller in
    let runs = λ (items : List Item) (earlier : List Post). run (settings_of caller.setup.now) items
    (doing_at caller.place c.args.tables.now c.args.output.now earlier) in
    starts c.requires.placed (keeps_same _ _ _ refl) (omega arith)
    (λ earlier. ap (λ told. runs (map (announced c.args.depth) told) earlier) c.as_slice-announcement-items.ensures
    ∙ ap (λ items. runs items earlier) (c.in_ok-told.ensures c.args.depth))

pub notifying::tell-announce-requires : goal.notifying::tell-announce-requires
notifying::tell-announce-requires t g c = λ κs outlives.
    let falls = ranks_lower 3 2 c.told.invariant (omega arith) in (grind (arith, falls), (outlives, nests c.told.invariant c.requires.depth))

pub notifying::tell-returns-in_err-announce : goal.notifying::tell-returns-in_err-announce
notifying::tell-returns-in_err-announce t g c = next_stops (announced c.args.depth) c.as_slice-announcement-items.result.now c.told.announcement-index
    c.told.invariant c.requires.placed
    c.announcement-item.result
    (item_at c.as_slice-announcement-items.result.now c.told.announcement-index c.announcement-item.result (omega arith) c.announcement-item.is)
    c.from_residual-in_err-announce.ensures.0 c.in_err-announce.ensures

pub notifying::tell-told-preserved : goal.notifying::tell-told-preserved
notifying::tell-told-preserved t g c = next_done (announced c.args.depth) c.as_slice-announcement-items.result.now c.told.announcement-index c.told.invariant
    c.requires.placed
    c.announcement-item.result
    (item_at c.as_slice-announcement-items.result.now c.told.announcement-index c.announcement-item.result (omega arith) c.announcement-item.is)
    c.in_ok-announce.ensures

pub notifying::tell-returns : goal.notifying::tell-returns
notifying::tell-returns t g c = list_ends (announced c.args.depth) c.as_slice-announcement-items.result.now c.told.announcement-index c.told.invariant
    c.requires.placed (omega arith)

pub notifying::announce-returns-in_err-name-in-Warning : goal.notifying::announce-returns-in_err-name-in-Warning
notifying::announce-returns-in_err-name-in-Warning t g c = does_starved c.from_residual.ensures.0 refl

pub notifying::announce-returns-in_ok-name-in-Warning : goal.notifying::announce-returns-in_ok-name-in-Warning
notifying::announce-returns-in_ok-name-in-Warning t g c = rw c.in-Warning.is (does_still c.warn_of_property.ensures.failing
    (OnOk-map c.warn_of_property.result
    (λ e earlier. warn_of_done _ c.args.actor.now.caller.place c.args.tables.now c.args.output.now c.warn_of_property.new.self _ c.in-Warning.at
    c.in-Warning.error _ c.in_ok-name-in-Warning.ensures e) c.warn_of_property.ensures.told))

pub deletion::detach-returns-in_err-children : goal.deletion::detach-returns-in_err-children
deletion::detach-returns-in_err-children t g c = does_starved c.from_residual.ensures.0 refl

pub deletion::detach-children-init : goal.deletion::detach-children-init
deletion::detach-children-init t g c = cuts c.args.actor.now.caller c.args.target c.args.depth c.args.tables.now c.sever.new.self c.args.output.now
    c.requires.placed _
    (c.as_slice-child-items.ensures.value ∙ c.in_ok-children.ensures) c.sever.ensures

pub deletion::detach-delete_child-requires : goal.deletion::detach-delete_child-requires
deletion::detach-delete_child-requires t g c = λ κs outlives.
    let falls = ranks_lower 6 5 c.children.invariant (omega arith) in (grind (arith, falls), (outlives, nests c.children.invariant c.requires.within))

pub deletion::detach-returns-in_err-delete_child : goal.deletion::detach-returns-in_err-delete_child
deletion::detach-returns-in_err-delete_child t g c = next_stops (λ child. DeleteChild c.args.target child c.args.depth) c.as_slice-child-items.result.now
    c.children.child-index c.children.invariant
    c.requires.placed _ (drop_more c.as_slice-child-items.result.now c.children.child-index 0 (omega arith)) c.from_residual-in_err-delete_child.ensures.0
    c.in_err-delete_child.ensures

pub deletion::detach-children-preserved : goal.deletion::detach-children-preserved
deletion::detach-children-preserved t g c = next_done (λ child. DeleteChild c.args.target child c.args.depth) c.as_slice-child-items.result.now
    c.children.child-index c.children.invariant
    c.requires.placed _ (drop_more c.as_slice-child-items.result.now c.children.child-index 0 (omega arith)) c.in_ok-delete_child.ensures

pub deletion::detach-returns : goal.deletion::detach-returns
deletion::detach-returns t g c = list_ends (λ child. DeleteChild c.args.target child c.args.depth) c.as_slice-child-items.result.now c.children.child-index
    c.children.invariant c.requires.placed (omega arith)

pub deletion::delete-returns-then-not-lives : goal.deletion::delete-returns-then-not-lives
deletion::delete-returns-then-not-lives t g c = does_still refl (λ earlier. delete_none _ _ _ _ (grind arith))

pub deletion::delete-emit-requires : goal.deletion::delete-emit-requires
deletion::delete-emit-requires t g c = λ κs outlives.
    let marked = marks c.args.actor.now.caller c.args.target c.args.depth c.args.tables.now c.mark_dying.new.self c.args.output.now c.requires.placed
    (grind arith) c.mark_dying.ensures in
    let falls = leaves_less 4 1 marked (omega arith) in (grind (arith, falls), (outlives, nests marked c.requires.depth))

pub deletion::delete-returns-in_err-emit : goal.deletion::delete-returns-in_err-emit
deletion::delete-returns-in_err-emit t g c = first_stops (marks _ _ _ _ _ _ c.requires.placed (grind arith) c.mark_dying.ensures)
    c.requires.placed c.from_residual.ensures.0 c.in_err-emit.ensures

pub deletion::delete-detach-requires : goal.deletion::delete-detach-requires
deletion::delete-detach-requires t g c = λ κs outlives.
    let said = says c.args.tables.now c.requires.placed (grind arith) c.mark_dying.ensures c.in_ok-emit.ensures in
    let falls = leaves_less 4 6 said (omega arith) in (grind (arith, falls), (outlives, nests said c.requires.depth))

pub deletion::delete-returns-in_err-detach : goal.deletion::delete-returns-in_err-detach
deletion::delete-returns-in_err-detach t g c =
    let said = says c.args.tables.now c.requires.placed (grind arith) c.mark_dying.ensures c.in_ok-emit.ensures in
    first_stops said c.requires.placed c.from_residual-in_err-detach.ensures.0 c.in_err-detach.ensures

pub deletion::delete-remove-requires : goal.deletion::delete-remove-requires
deletion::delete-remove-requires t g c =
    let said = says c.args.tables.now c.requires.placed (grind arith) c.mark_dying.ensures c.in_ok-emit.ensures in
    (first_done said c.requires.placed c.in_ok-detach.ensures).placed

pub deletion::delete-returns-in_err-changes : goal.deletion::delete-returns-in_err-changes
deletion::delete-returns-in_err-changes t g c =
    let said = says c.args.tables.now c.requires.placed (grind arith) c.mark_dying.ensures c.in_ok-emit.ensures in
    let cut = first_done said c.requires.placed c.in_ok-detach.ensures in
    far_stopped c.args.actor.now.caller _ c.args.tables.now c.args.output.now c.requires.placed _ c.detach.new.tables c.remove.new.self c.detach.new.output _
    c.from_residual-in_err-changes.ensures.0 cut.so c.remove.ensures.keeps front_same

pub deletion::delete-tell-requires : goal.deletion::delete-tell-requires
deletion::delete-tell-requires t g c = λ κs outlives.
    let said = says c.args.tables.now c.requires.placed (grind arith) c.mark_dying.ensures c.in_ok-emit.ensures in
    let cut = first_done said c.requires.placed c.in_ok-detach.ensures in
    let gone = goes cut c.requires.placed c.remove.ensures.keeps c.in_ok-changes.ensures.told
    c.in_ok-changes.ensures.ok in
    let falls = leaves_less 4 3 gone (omega arith) in (grind (arith, falls), (outlives, (gone.placed, c.requires.depth)))

pub deletion::delete-returns : goal.deletion::delete-returns
deletion::delete-returns t g c =
    let said = says c.args.tables.now c.requires.placed (grind arith) c.mark_dying.ensures c.in_ok-emit.ensures in
    let cut = first_done said c.requires.placed c.in_ok-detach.ensures in
    let gone = goes cut c.requires.placed c.remove.ensures.keeps c.in_ok-changes.ensures.told
    c.in_ok-changes.ensures.ok in
    finishes gone c.requires.placed c.tell.ensures

pub deletion::delete_child-returns-then-not-lives_below : goal.deletion::delete_child-returns-then-not-lives_below
deletion::delete_child-returns-then-not-lives_below t g c = does_still refl (λ earlier. delete_child_none _ _ _ _ _ (grind arith))

pub deletion::delete_child-returns : goal.deletion::delete_child-returns
deletion::delete_child-returns t g c =
    let caller = c.args.actor.now.caller in
    let living : lives_below (doing_at caller.place c.args.tables.now c.args.output.now []) c.args.parent c.args.child ≡ true = grind arith in
    does_by caller _ c.args.tables.now c.args.output.now _ c.delete.new.tables c.delete.new.output c.delete.result
    (λ earlier done. delete_child_some _ _ _ _ _ done living) c.delete.ensures
