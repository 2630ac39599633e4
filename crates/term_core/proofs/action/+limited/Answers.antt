use Rattle.std.proofs.Common.{arith, rules}
use Rattle.std.proofs.lemmas.Grind.{common_steps}
use Rattle.term_core.proofs.Counts.{counted}
use Rattle.term_core.proofs.action.+limited.Goals as goal

pub are_limited-is_limited-requires : goal.are_limited-is_limited-requires
are_limited-is_limited-requires t c =
    let smaller = counted c.args.actions.now c.loop-action.action-index c.action-item.result (omega arith) c.action-item.is in
    search rules

pub are_limited-returns-then-not-is_limited : goal.are_limited-returns-then-not-is_limited
are_limited-returns-then-not-is_limited t c = grind (arith, common_steps)

pub are_limited-loop-action-preserved : goal.are_limited-loop-action-preserved
are_limited-loop-action-preserved t c = grind (arith, common_steps)

pub are_limited-returns : goal.are_limited-returns
are_limited-returns t c = grind (arith, common_steps)
