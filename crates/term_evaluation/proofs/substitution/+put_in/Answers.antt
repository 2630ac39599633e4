use Rattle.std.proofs.Common.{◌≤◌, sym, subst, arith, rules}
use Rattle.term_core.specs.Act.{acts_of, count, counts}
use Rattle.term_core.proofs.ForCallers.{count_within}
use Rattle.term_evaluation.proofs.substitution.+put_in.Goals as goal

pub put_in_actions-put_in_action-requires : goal.put_in_actions-put_in_action-requires
put_in_actions-put_in_action-requires t c =
    let xs = c.args.actions.now in
    let smaller : count c.action-item.result ≤ counts (acts_of xs) =
    subst (λ y. count y ≤ counts (acts_of xs)) (sym c.action-item.is) (count_within xs c.loop-action.action-index _ (omega arith)) in
    search rules
