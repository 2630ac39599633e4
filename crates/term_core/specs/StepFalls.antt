-- Each action of a branch counts less than the action that chooses the branch.
use Rattle.std.specs.Prelude.{◌≤◌, max}
use Rattle.std.proofs.Common.{arith}
use Rattle.term_core.specs.Act.{count}
use Rattle.term_core.specs.Steps.{act_at, most_counts}
use Rattle.term_core.specs.declared.action.Step.{Step}
use Rattle.term_core.specs.declared.action.Step.TheVariants as step
use Rattle.term_core.specs.declared.action.Action.TheDeep.{deep-Step}

pub deep_le-count : (s : Step) → max (deep-Step s) 0 ≤ count (act_at s)
deep_le-count (step.Single e) = omega arith
deep_le-count (step.When test a b) = omega (arith, most_counts a.items, most_counts b.items)
