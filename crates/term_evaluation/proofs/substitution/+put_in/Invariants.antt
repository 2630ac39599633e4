use Rattle.std.proofs.Common.{◌≡◌, ◌+◌, ◌*◌, map, take}
use Rattle.term_core.specs.Act.{acts_of, count, counts}
use Rattle.term_evaluation.specs.Stating.{put_in}
use Rattle.term_evaluation.specs.Unfolding.{act_by}
use Rattle.term_evaluation.proofs.substitution.+put_in.Given as goal

abbrev pub decreases-put_in_action : goal.decreases-put_in_action
decreases-put_in_action l = 3 * count l.action.now

abbrev pub decreases-put_in_when : goal.decreases-put_in_when
decreases-put_in_when l = 3 * (counts (acts_of l.held.now) + counts (acts_of l.failed.now)) + 2

abbrev pub decreases-put_in_actions : goal.decreases-put_in_actions
decreases-put_in_actions l = 3 * counts (acts_of l.actions.now) + 1

abbrev pub invariant-put_in_actions-loop-action : goal.invariant-put_in_actions-loop-action
invariant-put_in_actions-loop-action l = l.found.items ≡ map (act_by (put_in l.given l.args)) (take l.action-index l.actions)
