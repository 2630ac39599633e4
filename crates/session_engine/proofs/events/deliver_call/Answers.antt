use Rattle.std.proofs.Common.{refl}
use Rattle.session_engine.proofs.Common.{settings_of, keeps_same, does_none}
use Rattle.dispatch.proofs.ForCallers.{does_by}
use Rattle.session_engine.proofs.EventsLemmas.{calls_functor, calls_method, calls_none}
use Rattle.session_engine.proofs.events.deliver_call.Goals as goal

pub returns-in-Functor : goal.returns-in-Functor
returns-in-Functor g c =
    let caller = c.args.actor.now.caller in
    does_by caller _ c.args.tables.now c.args.output.now _ c.run_functor.new.tables c.run_functor.new.output c.run_functor.result
    (λ earlier done. calls_functor (settings_of caller.setup.now) caller.place c.args.tables.now c.args.output.now earlier c.args.call.now c.in-Functor.index
    c.in-Functor.is done)
    (rw c.as_slice.ensures at c.run_functor.ensures)

pub returns-in_default : goal.returns-in_default
returns-in_default g c =
    let caller = c.args.actor.now.caller in
    let old = c.args.tables.now in
    does_none caller _ old c.args.output.now old c.args.output.now _ (keeps_same old old caller.place refl) refl
    (λ earlier. calls_none (settings_of caller.setup.now) caller.place old c.args.output.now earlier c.args.call.now c.in-Method.index c.in-Method.is
    c.in_default.ensures.value)

pub returns : goal.returns
returns g c =
    let caller = c.args.actor.now.caller in
    does_by caller _ c.args.tables.now c.args.output.now _ c.run_method.new.tables c.run_method.new.output c.run_method.result
    (λ earlier done. calls_method (settings_of caller.setup.now) caller.place c.args.tables.now c.args.output.now earlier c.args.call.now c.in-Method.index
    c.in-Method.is c.in-Some.method.now c.in-Some.ensures.value done)
    (rw c.as_slice.ensures at c.run_method.ensures)
