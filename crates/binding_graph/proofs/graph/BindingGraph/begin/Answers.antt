use Rattle.std.proofs.Common.{◌+◌}
use Rattle.binding_graph.specs.GraphAndCache.{IsAt}
use Rattle.binding_graph.proofs.GraphAndCacheLemmas.{at_depth}
use Rattle.binding_graph.proofs.graph.BindingGraph.begin.Goals as goal
use Rattle.binding_graph.proofs.graph.BindingGraph.begin.Goals.{then-self-eq0+in_ok-refresh, else-self-eq0}

stands : (c : goal.After-self-1) → IsAt c.if-self-eq0.stores c.args.place c.if-self-eq0.self
stands c = elim c.if-self-eq0.branch [
  | then-self-eq0+in_ok-refresh w ↦ rw (w.stores-is, w.self-is) w.in_ok-refresh.ensures.step
  | else-self-eq0 w ↦
      rw (w.stores-is, w.self-is) c.requires.step
]

pub returns-clause-step : goal.returns-clause-step
returns-clause-step c =
    at_depth (c.self-2.inside.depth + 1) (rw (← c.self-2.view_is) at (stands c))
