use Rattle.session_model.specs.Asked.{asked}
use Rattle.session_engine.specs.Engine.{seen_engine}
use Rattle.server_world.specs.Server.{seen_as}
use Rattle.server_world.proofs.ServerLemmas.{step_entered, step_refused}
use Rattle.server_world.proofs.server.Server.step.Goals as goal

pub returns-in_err-place-clause-step : goal.returns-in_err-place-clause-step
returns-in_err-place-clause-step g c =
    step_refused (seen_as c.args.self.now) (seen_engine c.enter.new.sessions) c.args.given.now.session (asked c.args.given.now.command) _
    c.from_residual.ensures.0 c.in_err-place.ensures.out c.enter.ensures.well c.enter.ensures.sound

pub returns-clause-step : goal.returns-clause-step
returns-clause-step g c =
    step_entered (seen_as c.args.self.now) (seen_engine c.enter.new.sessions) c.args.given.now.session (asked c.args.given.now.command)
    (seen_engine c.told.new.self) _ c.in_ok-place.ensures.seen (c.told.ensures.step c.args.given.now.session c.in_ok-place.ensures.place)
