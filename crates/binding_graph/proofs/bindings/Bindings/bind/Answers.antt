use Rattle.std.proofs.Common.{◌∙◌, None, ap}
use Rattle.std.proofs.lemmas.Result.{err_from_is_err_and}
use Rattle.binding_values.specs.Graph.{bind_refusal, bound}
use Rattle.binding_graph.proofs.PlaceLemmas.{IsLent, graph_lent, leaves_stayed, lent, put_back, put_so, same_step}
use Rattle.binding_graph.proofs.bindings.Bindings.bind.Goals as goal

-- where the graph can not be made, nothing has changed
pub returns-in_err-make-clause-step : goal.returns-in_err-make-clause-step
returns-in_err-make-clause-step c = same_step c.args.place c.args.stores.now _ _ (c.make.ensures.same ∙ c.self.view_is) c.requires.step

pub returns-in_err-make-clause-refused : goal.returns-in_err-make-clause-refused
returns-in_err-make-clause-refused c = let p = err_from_is_err_and c.from_residual.result c.from_residual.ensures.1 in
    rw (p.1, p.2, ← c.self.view_is) (ap (λ graph. bind_refusal graph c.args.at) c.in_err-make.ensures.err)

-- the graph that the place lends
lent_here : (c : goal.After-self-2-1) → IsLent c.args.self.now c.make.new.graphs c.args.place c.deref_mut.result.now
lent_here c = lent c.make.new.graphs c.args.place (c.make.ensures.same ∙ c.self.view_is) (c.get_mut.ensures.value None) c.in-Some.is c.deref_mut.ensures.value

pub returns-clause-refused : goal.returns-clause-refused
returns-clause-refused c = rw (← graph_lent (lent_here c)) c.bind.ensures.refused

pub returns-clause-ok : goal.returns-clause-ok
returns-clause-ok c = put_so (lent_here c) c.bind.result _ (λ graph. bound graph c.args.at c.args.expr) c.bind.ensures.ok

pub returns-clause-err : goal.returns-clause-err
returns-clause-err c = put_back (lent_here c) c.bind.result _ c.bind.ensures.err

pub returns-clause-step : goal.returns-clause-step
returns-clause-step c = leaves_stayed (lent_here c) c.requires.places.0 _ _ c.bind.ensures.step c.requires.step
