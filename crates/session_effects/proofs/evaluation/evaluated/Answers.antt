use Rattle.std.proofs.Common.{◌∙◌, Ok, ap, sym}
use Rattle.term_evaluation.proofs.ForCallers.{stands}
use Rattle.session_model.specs.Targets.{evaluated, outcome}
use Rattle.session_effects.proofs.evaluation.evaluated.Goals as goal

pub returns-in-Ok : goal.returns-in-Ok
unfolding evaluated
returns-in-Ok c = ap outcome c.in-Ok.ensures

pub returns-in-Err-Refused : goal.returns-in-Err-Refused
unfolding evaluated
returns-in-Err-Refused c = ap outcome (rw c.in-Err-Refused.field-0-is at c.in-Err-Refused.ensures)

pub returns-in-Err-Own : goal.returns-in-Err-Own
unfolding evaluated
returns-in-Err-Own c = ap outcome (rw c.in-Err-Own.field-0-is at c.in-Err-Own.ensures)

pub returns-in-Some : goal.returns-in-Some
unfolding evaluated
returns-in-Some c = ap outcome (stands c.args.args.now _ c.args.expr.now c.in-Some.value.now (sym c.in-Some.ensures)) ∙ ap Ok (sym c.in_ok-copy.ensures)
