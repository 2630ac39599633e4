-- Each call copies an expression of fewer forms, or the parts of the one that the caller copies.
use Rattle.std.proofs.Common.{◌+◌, ◌*◌}
use Rattle.term_core.specs.Term.{nodes}
use Rattle.term_core.proofs.expr.+copy.Given as goal

abbrev pub decreases-Expr::copy : goal.decreases-Expr::copy
decreases-Expr::copy l = 3 * nodes l.self.now

abbrev pub decreases-copy_binary : goal.decreases-copy_binary
decreases-copy_binary l = 3 * (nodes l.a.now + nodes l.b.now) + 2

abbrev pub decreases-copy_choice : goal.decreases-copy_choice
decreases-copy_choice l = 3 * (nodes l.test.now + nodes l.a.now + nodes l.b.now) + 2

abbrev pub decreases-copies : goal.decreases-copies
decreases-copies l = 3 * (nodes l.a.now + nodes l.b.now) + 1
