use Rattle.binding_values.proofs.ForCallers.{row_there}
use Rattle.binding_graph.specs.LastShown.{first_of, head}
use Rattle.binding_graph.proofs.last_shown.place_near.Goals as goal

pub returns-then-is_at-clause-place : goal.returns-then-is_at-clause-place
returns-then-is_at-clause-place c = row_there head c.args.objects.now c.args.near (first_of c.args.object) c.is_at.result
    (rw c.first_of.ensures at c.is_at.ensures) c.if-is_at.true
