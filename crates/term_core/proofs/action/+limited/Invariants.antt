use Rattle.std.proofs.Common.{◌≡◌, ◌+◌, ◌*◌, drop}
use Rattle.term_core.specs.Act.{acts_of, count, counts, are_limited}
use Rattle.term_core.proofs.action.+limited.Given as goal

abbrev pub decreases-Action::is_limited : goal.decreases-Action::is_limited
decreases-Action::is_limited l = 2 * count l.self.now

abbrev pub decreases-are_limited : goal.decreases-are_limited
decreases-are_limited l = 2 * counts (acts_of l.actions.now) + 1

-- It hangs on what is left of the list.
abbrev pub invariant-are_limited-loop-action : goal.invariant-are_limited-loop-action
invariant-are_limited-loop-action l = are_limited (acts_of (drop l.action-index l.actions)) ≡ are_limited (acts_of l.actions)
