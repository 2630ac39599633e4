use Rattle.std.proofs.Common.{◌∙◌}
use Rattle.std.proofs.lemmas.Bool.{or_right}
use Rattle.property_store.specs.Marks.{is_marked}
use Rattle.property_store.proofs.ForCallers.{both_marked}
use Rattle.binding_graph.proofs.GraphAndCacheLemmas.{forgotten_in_step, pending_in_step}
use Rattle.binding_graph.proofs.removal.forget.Goals as goal

pub returns-then-is_none-clause-step : goal.returns-then-is_none-clause-step
returns-then-is_none-clause-step c = λ store marks graph evaluations step. pending_in_step c.mark.new.self c.mark.ensures.kept step

pub returns-clause-step : goal.returns-clause-step
returns-clause-step c = λ store marks graph evaluations step.
    rw c.forget.ensures
    (forgotten_in_step c.args.at (both_marked marks c.mark.new.self c.args.at ∙ or_right (is_marked marks c.args.at) _ c.mark.ensures.marked)
    (pending_in_step c.mark.new.self c.mark.ensures.kept step))
