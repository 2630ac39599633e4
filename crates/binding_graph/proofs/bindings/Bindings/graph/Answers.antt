use Rattle.std.proofs.Common.{◌∙◌, None, ap, sym}
use Rattle.binding_graph.specs.Inside.{pair_of}
use Rattle.binding_graph.proofs.PlaceLemmas.{pair_there}
use Rattle.binding_graph.proofs.bindings.Bindings.graph.Goals as goal

pub returns-in-Some-clause-some : goal.returns-in-Some-clause-some
returns-in-Some-clause-some c = rw (← c.self.view_is) (c.deref.ensures ∙ (sym (ap pair_of c.in-Some.is) ∙ (ap pair_of (c.get.ensures None)
    ∙ pair_there c.self.inside.graphs c.args.place)))

pub returns-in-None-clause-none : goal.returns-in-None-clause-none
returns-in-None-clause-none c = rw (← c.self.view_is) (sym (pair_there c.self.inside.graphs c.args.place) ∙ (sym (ap pair_of (c.get.ensures None))
    ∙ ap pair_of c.in-None.is))
