use Rattle.std.proofs.Common.{Some, ap, position, sym, subst, ◌∙◌}
use Rattle.std.specs.Prelude.{bytes_eq}
use Rattle.session_engine.proofs.Common.{asked, seen_by_name, IsStep}
use Rattle.session_engine.proofs.StepLemmas.{step_fails}
use Rattle.session_engine.proofs.engine.Core.told.Goals as goal

pub returns-in-Ok-one_line-clause-step : goal.returns-in-Ok-one_line-clause-step
returns-in-Ok-one_line-clause-step g c = λ name there.
    subst (λ lines. IsStep (seen_by_name c.args.self.now) (seen_by_name c.command.new.self) name (asked c.args.command.now)
    (Some lines)) (sym c.in-Ok-one_line.ensures)
    (rw c.in-Err-Refused.field-0-is at (c.in-Err-Refused.ensures.step name there))

pub returns-in_default-clause-step : goal.returns-in_default-clause-step
returns-in_default-clause-step g c = λ name there.
    step_fails _ _ _ name _ _ (rw c.in-Err-Refused.field-0-is at (c.in-Err-Refused.ensures.step name there))
    (c.give_up.ensures.fails name (ap (λ names. position (bytes_eq name) names) c.command.ensures.places.names ∙ there))

pub returns-in-Err-Memory-clause-step : goal.returns-in-Err-Memory-clause-step
returns-in-Err-Memory-clause-step g c = λ name there. rw c.in-Err-Memory.field-0-is at (c.in-Err-Memory.ensures.step name there)

pub returns-in_default-clause-fails : goal.returns-in_default-clause-fails
returns-in_default-clause-fails g c = λ name there.
    (c.give_up.ensures.fails name (ap (λ names. position (bytes_eq name) names) c.command.ensures.places.names ∙ there)).fails

pub returns-in-Err-Memory-clause-fails : goal.returns-in-Err-Memory-clause-fails
returns-in-Err-Memory-clause-fails g c = λ name there. (rw c.in-Err-Memory.field-0-is at (c.in-Err-Memory.ensures.answered name there)).fails
