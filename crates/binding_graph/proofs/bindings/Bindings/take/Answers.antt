use Rattle.std.proofs.Common.{◌∙◌, None, ap, refl, sym}
use Rattle.binding_values.specs.Graph.{Graph, is_bound, unbound}
use Rattle.binding_graph.specs.Inside.{pair_of, split}
use Rattle.binding_graph.specs.Table.{Graphs, graph_at}
use Rattle.binding_graph.proofs.PlaceLemmas.{IsLent, graph_lent, leaves_stayed, lent, none_there, put_at, same_step, unbound_already, unmade}
use Rattle.binding_graph.proofs.StepLemmas.{write_in_step}
use Rattle.binding_graph.proofs.bindings.Bindings.take.Goals as goal

pub returns-then-not-is_bound-clause-graph : goal.returns-then-not-is_bound-clause-graph
returns-then-not-is_bound-clause-graph c = unbound_already c.args.self.now.graphs c.args.place c.args.at (sym c.is_bound.ensures ∙ c.if-not-is_bound.true)

pub returns-in_default-clause-graph : goal.returns-in_default-clause-graph
returns-in_default-clause-graph c = rw (← c.self.view_is)
    (ap (λ (graphs : Graphs). graphs.graphs) (unmade c.self.inside.graphs c.args.place _ (c.get_mut.ensures.value None) refl)
    ∙ unbound_already (split c.self.inside.graphs).graphs c.args.place c.args.at (ap (λ (graph : Graph). is_bound graph.bindings c.args.at)
    (none_there c.self.inside.graphs c.args.place c.get_mut.result.now (c.get_mut.ensures.value None) (ap pair_of c.in_default.is))))

pub returns-in_default-clause-step : goal.returns-in_default-clause-step
returns-in_default-clause-step c = same_step c.args.place c.write.new.self _ _
    (unmade c.self.inside.graphs c.args.place _ (c.get_mut.ensures.value None) refl ∙ c.self.view_is)
    (write_in_step c.args.stores.now c.write.new.self c.args.place c.args.at.object c.args.at.number c.in_ok-value.value c.requires.places.1
    c.write.ensures.new c.write.ensures.marks c.args.self.now c.requires.step)

-- the graph that the place lends
lent_here : (c : goal.After-self-2-1) → IsLent c.args.self.now c.self.inside.graphs c.args.place c.deref_mut.result.now
lent_here c = lent c.self.inside.graphs c.args.place c.self.view_is (c.get_mut.ensures.value None) c.in-Some.is c.deref_mut.ensures.value

pub returns-clause-graph : goal.returns-clause-graph
returns-clause-graph c = put_at (lent_here c) _ (unbound (graph_at c.args.self.now.graphs c.args.place) c.args.at)
    (c.unbind.ensures.graph ∙ ap (λ graph. unbound graph c.args.at) (graph_lent (lent_here c)))

pub returns-clause-step : goal.returns-clause-step
returns-clause-step c = leaves_stayed (lent_here c) c.requires.places.0 _ _ c.unbind.ensures.step
    (write_in_step c.args.stores.now c.write.new.self c.args.place c.args.at.object c.args.at.number c.in_ok-value.value c.requires.places.1
    c.write.ensures.new c.write.ensures.marks c.args.self.now c.requires.step)
