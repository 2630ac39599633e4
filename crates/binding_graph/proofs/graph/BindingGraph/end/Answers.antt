use Rattle.std.proofs.Common.{◌-◌}
use Rattle.binding_graph.proofs.GraphAndCacheLemmas.{at_depth}
use Rattle.binding_graph.proofs.graph.BindingGraph.end.Goals as goal

pub returns-clause-step : goal.returns-clause-step
returns-clause-step c =
    rw (← c.self.view_is)
    (λ store marks step. at_depth (c.self.inside.depth - 1) step)
