use Rattle.std.proofs.Common.{◌≡◌, ◌+◌, ◌*◌, ◌≤◌, drop, min}
use Rattle.term_core.specs.Act.{acts_of, count, counts}
use Rattle.term_core.proofs.action.+count.Given as goal

abbrev pub decreases-Action::count : goal.decreases-Action::count
decreases-Action::count l = 2 * count l.self.now

abbrev pub decreases-count_all : goal.decreases-count_all
decreases-count_all l = 2 * counts (acts_of l.actions.now) + 1

-- The total so far, and what is left of the list.
abbrev pub invariant-count_all-loop-action : goal.invariant-count_all-loop-action
invariant-count_all-loop-action l = record {
  sum : min (l.total + counts (acts_of (drop l.action-index l.actions))) 18446744073709551615 ≡ min (counts (acts_of l.actions)) 18446744073709551615;
  fits : l.total ≤ 18446744073709551615;
}
