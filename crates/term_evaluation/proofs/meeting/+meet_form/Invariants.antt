-- Each call evaluates an expression of fewer forms, or the operand that the caller has looked at.
use Rattle.std.proofs.Common.{◌+◌, ◌*◌}
use Rattle.term_core.specs.Term.{nodes}
use Rattle.term_evaluation.proofs.meeting.+meet_form.Given as goal

abbrev pub decreases-meet_form : goal.decreases-meet_form
decreases-meet_form g l = 2 * nodes l.expr.now

abbrev pub decreases-operand : goal.decreases-operand
decreases-operand g l = 2 * nodes l.expr.now + 1
