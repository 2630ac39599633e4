-- Each call writes an expression of fewer forms, or the parts of the one that the caller writes.
use Rattle.std.proofs.Common.{◌+◌, ◌*◌}
use Rattle.term_core.specs.Term.{nodes}
use Rattle.wire_format.proofs.expressions.+expressions.Given as goal

abbrev pub decreases-push_expression : goal.decreases-push_expression
decreases-push_expression l = 2 * nodes l.expr.now

abbrev pub decreases-push_binary : goal.decreases-push_binary
decreases-push_binary l = 2 * (nodes l.a.now + nodes l.b.now) + 1

abbrev pub decreases-push_choice : goal.decreases-push_choice
decreases-push_choice l = 2 * (nodes l.test.now + nodes l.a.now + nodes l.b.now) + 1
