-- The action of a step.
use Rattle.std.specs.Prelude.{◌+◌, ◌≤◌, List, [], ◌∷◌}
use Rattle.std.proofs.Common.{arith}
use denote.Param.Weighed.{most}
use Rattle.term_core.specs.Act.{Act, single_action, when, acts_of, count, counts}
use Rattle.term_core.specs.declared.action.Step.{Step}
use Rattle.term_core.specs.declared.action.Step.TheVariants as step

abbrev pub act_at : Step → Act
act_at (step.Single e) = single_action e
act_at (step.When test a b) = when test (acts_of a.items) (acts_of b.items)

-- No action of a list counts more than the whole list.
pub most_counts : (actions : List Act) → most (λ action. count action + 1) actions ≤ counts (acts_of actions) + 1
most_counts [] = omega arith
most_counts (action ∷ rest) = omega (arith, most_counts rest)
