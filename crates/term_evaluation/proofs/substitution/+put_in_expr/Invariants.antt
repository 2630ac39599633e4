-- Each call changes an expression of fewer forms, or the parts of the one that the caller changes.
use Rattle.std.proofs.Common.{◌+◌, ◌*◌}
use Rattle.term_core.specs.Term.{nodes}
use Rattle.term_evaluation.proofs.substitution.+put_in_expr.Given as goal

abbrev pub decreases-put_in_expr : goal.decreases-put_in_expr
decreases-put_in_expr l = 3 * nodes l.expr.now

abbrev pub decreases-put_in_operand : goal.decreases-put_in_operand
decreases-put_in_operand l = 3 * nodes l.expr.now + 1

abbrev pub decreases-put_in_binary : goal.decreases-put_in_binary
decreases-put_in_binary l = 3 * (nodes l.a.now + nodes l.b.now) + 2

abbrev pub decreases-put_in_choice : goal.decreases-put_in_choice
decreases-put_in_choice l = 3 * (nodes l.test.now + nodes l.held.now + nodes l.failed.now) + 2
