use Rattle.std.proofs.Common.{None, Some, Ok, map, refl, sym, ap, ◌∙◌}
use Rattle.std.specs.Option.{option_copied, option_or}
use Rattle.std.specs.Result.{result_err}
use Rattle.session_engine.proofs.Common.{view, state_at, changes_same, settings_of}
use Rattle.session_model.specs.Refusing.{later_refusal, values_refusal}
use Rattle.session_model.specs.Signals.{asked_method, asked_values}
use Rattle.session_model.proofs.ForCallers.{invoke_none, refusal_invoke}
use Rattle.session_engine.proofs.CommandsLemmas.{found_fault, made_fault, quietly, on_refused, or_first, or_second, replied, replies_alone, silently, stopped}
use Rattle.session_engine.proofs.InvocationLemmas.{is_invoked, kinds_are, method_is, method_there, named_in, performs_invoked, posts_invoked, refusal_absent}
use Rattle.session_engine.proofs.InvocationLemmas.{refusal_found, refusal_later, starved_invoked, unread}
use Rattle.session_engine.proofs.invocation.invoke.Goals as goal

pub returns-in_err-class : goal.returns-in_err-class
returns-in_err-class g c = quietly c.requires.fresh
    (stopped c.in_err-class.field-0.0 _ c.from_residual.ensures.1
    (refusal_invoke _ _ _ _ _ _ _ _ ∙ or_first _ _ _ c.in_err-class.ensures.refusal) refl)

pub returns-in_err-index : goal.returns-in_err-index
returns-in_err-index g c =
    let settings = settings_of c.args.actor.now.caller.setup.now in
    let state = state_at c.args.tables.now c.args.actor.now.caller.place in
    let asked = asked_method settings state c.args.object c.args.method.now in
    quietly c.requires.fresh (found_fault
    (λ found. option_or (result_err found) (option_or (values_refusal settings state c.args.object (map view c.args.args.now) asked)
    (later_refusal state c.args.mode asked))) _ c.in_err-index.field-0.0
    c.from_residual-in_err-index.ensures.1 (refusal_invoke _ _ _ _ _ _ _ _ ∙ or_second _ _ c.in_ok-class.ensures.refusal) (λ code. refl)
    (unread _ c.args.method.now _ c.in_err-index.ensures))

pub returns-in_default : goal.returns-in_default
returns-in_default g c =
    let caller = c.args.actor.now.caller in
    let named = named_in (settings_of caller.setup.now) (state_at c.args.tables.now caller.place) c.args.object c.in_ok-class.class c.args.method.now None
    c.in_ok-class.ensures.class (c.in_ok-index.ensures ∙ ap Ok c.in_default.is) in
    replies_alone _ _ _ _ _ c.requires.fresh (
      refusal_absent caller c.args.object c.args.method.now (map view c.args.args.now) c.args.mode c.args.priority c.args.tables.now
          c.in_ok-class.ensures.refusal named,
      invoke_none _ _ _ _ _ _ _ _ named.asked,
    )

pub returns-in_err-values : goal.returns-in_err-values
returns-in_err-values g c =
    let caller = c.args.actor.now.caller in
    let settings = settings_of caller.setup.now in
    let state = state_at c.args.tables.now caller.place in
    let has = method_is settings state c.args.object c.in_ok-class.class c.in-Some.index c.in-Some-method_row.row.now c.in_ok-class.ensures.class
    c.in-Some-method_row.ensures.value in
    quietly c.requires.fresh (found_fault (λ given. option_or (result_err given) (later_refusal state c.args.mode (Some c.in-Some.index)))
    (asked_values settings state c.args.object c.in-Some.index (map view c.args.args.now)) c.in_err-values.field-0.0
    c.from_residual-in_err-values.ensures.1
    (refusal_found caller c.args.object c.args.method.now (map view c.args.args.now) c.args.mode c.args.priority c.args.tables.now (Some c.in-Some.index)
    c.in_ok-class.ensures.refusal (named_in settings state c.args.object c.in_ok-class.class c.args.method.now (Some c.in-Some.index)
    c.in_ok-class.ensures.class (c.in_ok-index.ensures ∙ ap Ok c.in-Some.is)))
    (λ code. refl)
    (rw (c.as_slice-kinds.ensures ∙ kinds_are settings state c.args.object c.in-Some.index c.in-Some-method_row.row.now has) at c.in_err-values.ensures))

pub returns-in_err-enqueue : goal.returns-in_err-enqueue
returns-in_err-enqueue g c =
    let it = is_invoked c.args.actor.now.caller c.args.object c.args.method.now (map view c.args.args.now) c.args.tables.now c.in_ok-class.class
    c.in-Some.index _ c.in-Some-method_row.row.now _ c.in_ok-values.values c.in_ok-class.ensures.refusal c.in_ok-class.ensures.class
    c.in_ok-index.ensures c.in-Some.is c.in-Some-method_row.ensures.value c.as_slice-kinds.ensures c.in_ok-values.ensures in
    quietly c.requires.fresh (made_fault c.in_err-enqueue.field-0.0 c.from_residual-in_err-enqueue.ensures.1
    (refusal_later _ _ _ _ c.args.mode c.args.priority _ it (sym c.if-is_queued.ensures))
    c.in_err-enqueue.ensures.refusal (on_refused _ c.in_err-enqueue.ensures.err) (changes_same _ _ _ c.in_err-enqueue.ensures.err))

pub returns-then-is_queued : goal.returns-then-is_queued
returns-then-is_queued g c =
    let it = is_invoked c.args.actor.now.caller c.args.object c.args.method.now (map view c.args.args.now) c.args.tables.now c.in_ok-class.class
    c.in-Some.index _ c.in-Some-method_row.row.now _ c.in_ok-values.values c.in_ok-class.ensures.refusal c.in_ok-class.ensures.class
    c.in_ok-index.ensures c.in-Some.is c.in-Some-method_row.ensures.value c.as_slice-kinds.ensures c.in_ok-values.ensures in
    silently _ _ _ _ _ _ c.requires.fresh
    (replied c.requires.placed
    (refusal_later _ _ _ _ c.args.mode c.args.priority _ it (sym c.if-is_queued.ensures) ∙ c.in_ok-enqueue.ensures.refusal)
    (posts_invoked _ _ _ _ c.args.mode c.args.priority _ it (sym c.if-is_queued.ensures))
    (rw c.as_slice-values.ensures at c.in_ok-enqueue.ensures.ok))

pub unreachable-requires : goal.unreachable-requires
unreachable-requires g c =
    let caller = c.args.actor.now.caller in
    let settings = settings_of caller.setup.now in
    let state = state_at c.args.tables.now caller.place in
    let named = named_in settings state c.args.object c.in_ok-class.class c.args.method.now (Some c.in-Some.index) c.in_ok-class.ensures.class
    (c.in_ok-index.ensures ∙ ap Ok c.in-Some.is) in
    method_there settings state c.args.object c.in_ok-class.class named.signature c.in-Some.index c.in_ok-class.ensures.class named.found
    (ap option_copied (sym c.in_default-method_row.is) ∙ c.method_row.ensures.value)

pub run-requires-clause-has : goal.run-requires-clause-has
run-requires-clause-has g c =
    method_is (settings_of c.args.actor.now.caller.setup.now) (state_at c.args.tables.now c.args.actor.now.caller.place) c.args.object c.in_ok-class.class
    c.in-Some.index c.in-Some-method_row.row.now c.in_ok-class.ensures.class c.in-Some-method_row.ensures.value

pub returns : goal.returns
returns g c =
    let it = is_invoked c.args.actor.now.caller c.args.object c.args.method.now (map view c.args.args.now) c.args.tables.now c.in_ok-class.class
    c.in-Some.index _ c.in-Some-method_row.row.now _ c.in_ok-values.values c.in_ok-class.ensures.refusal c.in_ok-class.ensures.class
    c.in_ok-index.ensures c.in-Some.is c.in-Some-method_row.ensures.value c.as_slice-kinds.ensures c.in_ok-values.ensures in
    performs_invoked _ _ _ _ c.args.mode c.args.priority _ it c.run.new.tables c.args.output.now c.run.new.output c.requires.fresh
    (sym c.if-is_queued.ensures) _ (rw c.as_slice-values.ensures at c.in_ok-run.ensures)

pub returns-in_err-run : goal.returns-in_err-run
returns-in_err-run g c =
    let it = is_invoked c.args.actor.now.caller c.args.object c.args.method.now (map view c.args.args.now) c.args.tables.now c.in_ok-class.class
    c.in-Some.index _ c.in-Some-method_row.row.now _ c.in_ok-values.values c.in_ok-class.ensures.refusal c.in_ok-class.ensures.class
    c.in_ok-index.ensures c.in-Some.is c.in-Some-method_row.ensures.value c.as_slice-kinds.ensures c.in_ok-values.ensures in
    starved_invoked _ _ _ _ c.args.mode c.args.priority _ it c.run.new.tables c.args.output.now c.run.new.output c.requires.fresh
    (sym c.if-is_queued.ensures) _ _ _ c.from_residual-in_err-run.ensures.1 (rw c.as_slice-values.ensures at c.in_err-run.ensures)
