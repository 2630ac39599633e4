use Rattle.binding_graph.proofs.LastShownLemmas.{joined_shown}
use Rattle.binding_graph.proofs.last_shown.LastShown.count_objects.Goals as goal

pub returns : goal.returns
returns c = rw (← c.self.view_is) (joined_shown c.self.inside.objects.items c.self.invariant)
