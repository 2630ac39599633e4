use Rattle.binding_graph.proofs.GraphAndCacheLemmas.{unbound_in_step}
use Rattle.binding_graph.proofs.graph.BindingGraph.unbind.Goals as goal

pub returns-clause-step : goal.returns-clause-step
returns-clause-step c =
    rw (← c.self.view_is, c.remove.ensures, c.forget.ensures)
    (λ store marks step. unbound_in_step c.mark_once.new.self c.args.at c.mark_once.ensures.kept
    c.mark_once.ensures.marked step)
