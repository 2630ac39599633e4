use Rattle.std.proofs.Common.{◌∙◌}
use Rattle.binding_graph.proofs.StepLemmas.{complete_in_step}
use Rattle.binding_graph.proofs.graph.BindingGraph.refresh_all.Goals as goal

pub returns-clause-step : goal.returns-clause-step
returns-clause-step c =
    complete_in_step c.in_ok-made.ensures.complete (c.in_ok-last.ensures ∙ c.in_ok-now.ensures)
