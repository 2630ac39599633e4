use Rattle.std.proofs.Common.{◌≡◌, ◌∙◌, IfOk, None, ap, refl, sym}
use Rattle.binding_values.specs.Graph.{Graph, end_refusal, ended}
use Rattle.binding_graph.specs.Inside.{pair_of}
use Rattle.binding_graph.specs.Table.{Graphs}
use Rattle.binding_graph.proofs.PlaceLemmas.{IsLent, graph_lent, leaves_stayed, lent, none_there, put_back, put_so, same_step, unmade}
use Rattle.std.proofs.Common.{Result, Ok, Err, OnOk, ℕ}
use Rattle.binding_graph.proofs.bindings.Bindings.end.Goals as goal

depth_left : {E : Type 0} (r : Result ℕ E) (now new : Graph) → IfOk r (λ depth. depth ≡ new.depth) → OnOk r (new ≡ ended now)
    → IfOk r (λ depth. depth ≡ (ended now).depth)
depth_left (Ok depth) now new is same = is ∙ ap (λ (graph : Graph). graph.depth) same
depth_left (Err error) now new is same = tt

pub returns-in_default-clause-refused : goal.returns-in_default-clause-refused
returns-in_default-clause-refused c = rw (← c.self.view_is)
    (sym (ap end_refusal (none_there c.self.inside.graphs c.args.place c.get_mut.result.now (c.get_mut.ensures.value None) (ap pair_of c.in_default.is))))

pub returns-in_default-clause-err : goal.returns-in_default-clause-err
returns-in_default-clause-err c = ap (λ (graphs : Graphs). graphs.graphs)
    (unmade c.self.inside.graphs c.args.place _ (c.get_mut.ensures.value None) refl ∙ c.self.view_is)

pub returns-in_default-clause-step : goal.returns-in_default-clause-step
returns-in_default-clause-step c = same_step c.args.place c.args.stores.now _ _
    (unmade c.self.inside.graphs c.args.place _ (c.get_mut.ensures.value None) refl ∙ c.self.view_is) c.requires.step

-- the graph that the place lends
lent_here : (c : goal.After-self-2-1) → IsLent c.args.self.now c.self.inside.graphs c.args.place c.deref_mut.result.now
lent_here c = lent c.self.inside.graphs c.args.place c.self.view_is (c.get_mut.ensures.value None) c.in-Some.is c.deref_mut.ensures.value

pub returns-clause-refused : goal.returns-clause-refused
returns-clause-refused c = rw (← graph_lent (lent_here c)) c.end.ensures.refused

pub returns-clause-depth : goal.returns-clause-depth
returns-clause-depth c = rw (← graph_lent (lent_here c))
    (depth_left c.end.result c.deref_mut.result.now.graph c.end.new.self.graph c.end.ensures.depth c.end.ensures.ok)

pub returns-clause-ok : goal.returns-clause-ok
returns-clause-ok c = put_so (lent_here c) c.end.result _ ended c.end.ensures.ok

pub returns-clause-err : goal.returns-clause-err
returns-clause-err c = put_back (lent_here c) c.end.result _ c.end.ensures.err

pub returns-clause-step : goal.returns-clause-step
returns-clause-step c = leaves_stayed (lent_here c) c.requires.place _ _ c.end.ensures.step c.requires.step
