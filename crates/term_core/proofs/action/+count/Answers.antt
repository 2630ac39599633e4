use Rattle.std.proofs.Common.{arith, rules}
use Rattle.std.proofs.lemmas.Grind.{common_steps}
use Rattle.term_core.proofs.Counts.{counted}
use Rattle.term_core.proofs.action.+count.Goals as goal

pub count_all-count-requires : goal.count_all-count-requires
count_all-count-requires t c =
    let smaller = counted c.args.actions.now c.loop-action.action-index c.action-item.result (omega arith) c.action-item.is in
    search rules

pub count_all-loop-action-preserved : goal.count_all-loop-action-preserved
count_all-loop-action-preserved t c = grind (arith, common_steps)

pub count_all-returns : goal.count_all-returns
count_all-returns t c = grind (arith, common_steps)

pub Action::count-returns-in-When : goal.Action::count-returns-in-When
Action::count-returns-in-When t c = grind (arith, common_steps)
