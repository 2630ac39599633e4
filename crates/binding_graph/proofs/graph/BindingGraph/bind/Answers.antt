use Rattle.binding_graph.proofs.GraphAndCacheLemmas.{bound_in_step}
use Rattle.binding_graph.proofs.graph.BindingGraph.bind.Goals as goal

pub returns-in_err-put-clause-step : goal.returns-in_err-put-clause-step
returns-in_err-put-clause-step c = rw (← c.self.view_is, c.in_err-put.ensures.err) (λ store marks step. step)

pub returns-clause-step : goal.returns-clause-step
returns-clause-step c =
    rw (← c.self.view_is, c.in_ok-put.ensures.ok, c.forget.ensures)
    (λ store marks step. bound_in_step c.mark_once.new.self c.args.at c.mark_once.ensures.kept
    c.mark_once.ensures.marked step c.args.expr)
