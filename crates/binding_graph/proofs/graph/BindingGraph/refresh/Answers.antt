use Rattle.binding_graph.proofs.SettlingLemmas.{drained_in_step}
use Rattle.binding_graph.proofs.graph.BindingGraph.refresh.Goals as goal

pub refresh_some-told-requires-clause-step : goal.refresh_some-told-requires-clause-step
refresh_some-told-requires-clause-step c =
    drained_in_step c.drain.ensures.stores c.drain.ensures.kept (rw (← c.self.view_is) at c.requires.step)
