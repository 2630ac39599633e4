use Rattle.std.proofs.Common.{List, None, Option, get_or, subst, sym}
use Rattle.std.specs.declared.alloc.Global.{Global}
use Rattle.std.specs.declared.boxed.Box.{Box}
use Rattle.binding_graph.specs.declared.graph.BindingGraph.{BindingGraph}
use Rattle.binding_graph.specs.GraphAndCache.{IsAt}
use Rattle.binding_graph.specs.Inside.{pair_of}
use Rattle.binding_graph.proofs.PlaceLemmas.{at_place, at_places}
use Rattle.binding_graph.proofs.bindings.Bindings.ready.Goals as goal

pub returns-clause-step : goal.returns-clause-step
returns-clause-step c = rw (← c.self.view_is)
    (λ stores step. at_places stores c.ready.new.self
    (λ place. subst (λ (places : List (Option (Box BindingGraph Global))). IsAt stores place (pair_of (get_or places place None)))
    (sym c.ready.ensures.places)
    (at_place stores c.self.inside.graphs step place)))
