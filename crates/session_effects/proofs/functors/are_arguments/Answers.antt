use Rattle.std.proofs.Common.{arith}
use Rattle.std.proofs.lemmas.Grind.{common_steps}
use Rattle.session_effects.proofs.FunctorLemmas.{none_left}
use Rattle.session_effects.proofs.functors.are_arguments.Goals as goal

pub returns : goal.returns
returns c = none_left c.args.kinds.now c.args.values.now c.values.at c.values.value-index (omega arith) c.values.invariant.within c.values.invariant.rest

pub returns-in_default : goal.returns-in_default
returns-in_default c = grind (arith, common_steps)

pub returns-then-not-is_argument : goal.returns-then-not-is_argument
returns-then-not-is_argument c = grind (arith, common_steps)

pub values-preserved : goal.values-preserved
values-preserved c = grind (arith, common_steps)
