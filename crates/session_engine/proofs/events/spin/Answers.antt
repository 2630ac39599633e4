use Rattle.std.proofs.Common.{[], ap}
use Rattle.session_engine.proofs.Common.{CommandOutput}
use Rattle.session_model.proofs.ForCallers.{refusal_spin}
use Rattle.session_engine.proofs.CommandsLemmas.{at_first_reaches, starved_last}
use Rattle.session_engine.proofs.EventsLemmas.{performs_spun, spin_runs}
use Rattle.session_engine.proofs.events.spin.Goals as goal

pub take_events-requires-clause-none : goal.take_events-requires-clause-none
take_events-requires-clause-none g c = ap (λ (output : CommandOutput). output.taken) c.requires.fresh

pub returns-in_err-take_events : goal.returns-in_err-take_events
returns-in_err-take_events g c =
    let caller = c.args.actor.now.caller in
    let does = c.in_err-take_events.ensures in
    starved_last c.take_events.new.output does.posts _ _ _ c.from_residual.ensures.1 (refusal_spin _ _ _)
    (spin_runs caller c.args.tables.now c.take_events.new.tables c.args.output.now c.requires.fresh) (does.front [])
    (at_first_reaches caller c.args.tables.now c.take_events.new.tables c.args.output.now c.take_events.new.output does.posts c.requires.fresh does.reaches)

pub returns : goal.returns
returns g c = performs_spun c.args.actor.now.caller c.args.tables.now c.take_events.new.tables c.args.output.now c.take_events.new.output _ c.spun.result
    c.requires.fresh c.in_ok-take_events.ensures c.spun.ensures
