use Rattle.session_model.specs.Asked.{asked}
use Rattle.server_world.specs.Bare.{seen_bare}
use Rattle.server_world.proofs.ServerLemmas.{step_entered, step_refused}
use Rattle.server_world.proofs.bare.BareServer.step.Goals as goal

pub returns-in_err-place-clause-step : goal.returns-in_err-place-clause-step
returns-in_err-place-clause-step g c =
    step_refused (seen_bare c.args.self.now) c.enter.new.core c.args.given.now.session (asked c.args.given.now.command) _ c.from_residual.ensures.0
    c.in_err-place.ensures.out c.enter.ensures.well c.enter.ensures.sound

pub returns-clause-step : goal.returns-clause-step
returns-clause-step g c =
    step_entered (seen_bare c.args.self.now) c.enter.new.core c.args.given.now.session (asked c.args.given.now.command) c.told.new.self _
    c.in_ok-place.ensures.seen (c.told.ensures.step c.args.given.now.session c.in_ok-place.ensures.place)
