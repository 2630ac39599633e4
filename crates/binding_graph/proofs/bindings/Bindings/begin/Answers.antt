use Rattle.std.proofs.Common.{◌∙◌, None, ap}
use Rattle.std.proofs.lemmas.Result.{err_from_is_err_and}
use Rattle.property_store.specs.Table.{store_at}
use Rattle.binding_values.specs.Graph.{begin_refusal, begun}
use Rattle.binding_graph.proofs.PlaceLemmas.{IsLent, graph_lent, leaves_drained, lent, put_back, put_so, same_step, step_lent}
use Rattle.binding_graph.proofs.bindings.Bindings.begin.Goals as goal

-- where the graph can not be made, nothing has changed
pub returns-in_err-make-clause-step : goal.returns-in_err-make-clause-step
returns-in_err-make-clause-step c = same_step c.args.place c.args.stores.now _ _ (c.make.ensures.same ∙ c.self.view_is) c.requires.step

pub returns-in_err-make-clause-refused : goal.returns-in_err-make-clause-refused
returns-in_err-make-clause-refused c = let p = err_from_is_err_and c.from_residual.result c.from_residual.ensures.1 in
    rw (p.1, p.2, ← c.self.view_is) (ap begin_refusal c.in_err-make.ensures.err)

-- the graph that the place lends
lent_here : (c : goal.After-self-2-1) → IsLent c.args.self.now c.make.new.graphs c.args.place c.deref_mut.result.now
lent_here c = lent c.make.new.graphs c.args.place (c.make.ensures.same ∙ c.self.view_is) (c.get_mut.ensures.value None) c.in-Some.is c.deref_mut.ensures.value

pub begin-requires-clause-step : goal.begin-requires-clause-step
begin-requires-clause-step c = step_lent
    (lent c.make.new.graphs c.args.place (c.make.ensures.same ∙ c.self.view_is) (c.get_mut.ensures.value None) c.in-Some.is c.deref_mut.ensures.value)
    _ c.requires.step

pub returns-clause-refused : goal.returns-clause-refused
returns-clause-refused c = rw (← graph_lent (lent_here c)) c.begin.ensures.refused

pub returns-clause-depth : goal.returns-clause-depth
returns-clause-depth c = rw (← graph_lent (lent_here c)) c.begin.ensures.depth

pub returns-clause-ok : goal.returns-clause-ok
returns-clause-ok c = put_so (lent_here c) c.begin.result _ (begun (store_at c.args.stores.now.shelves c.args.place)) c.begin.ensures.ok

pub returns-clause-err : goal.returns-clause-err
returns-clause-err c = put_back (lent_here c) c.begin.result _ c.begin.ensures.err

pub returns-clause-step : goal.returns-clause-step
returns-clause-step c = leaves_drained (lent_here c) c.requires.places.0 _ c.begin.ensures.stores c.begin.ensures.step c.requires.step
