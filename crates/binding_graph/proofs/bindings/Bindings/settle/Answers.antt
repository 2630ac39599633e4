use Rattle.std.proofs.Common.{◌∙◌, None}
use Rattle.property_store.specs.Table.{store_at}
use Rattle.binding_values.specs.Graph.{settled_graph}
use Rattle.binding_graph.proofs.PlaceLemmas.{IsLent, graph_lent, leaves_drained, lent, put_back, put_so, same_step, step_lent}
use Rattle.binding_graph.proofs.bindings.Bindings.settle.Goals as goal

-- where the graph can not be made, nothing has changed
pub returns-in_err-make-clause-step : goal.returns-in_err-make-clause-step
returns-in_err-make-clause-step c = same_step c.args.place c.args.stores.now _ _ (c.make.ensures.same ∙ c.self.view_is) c.requires.step

-- the graph that the place lends
lent_here : (c : goal.After-self-2-1) → IsLent c.args.self.now c.make.new.graphs c.args.place c.deref_mut.result.now
lent_here c = lent c.make.new.graphs c.args.place (c.make.ensures.same ∙ c.self.view_is) (c.get_mut.ensures.value None) c.in-Some.is c.deref_mut.ensures.value

pub settle-requires-clause-step : goal.settle-requires-clause-step
settle-requires-clause-step c = step_lent
    (lent c.make.new.graphs c.args.place (c.make.ensures.same ∙ c.self.view_is) (c.get_mut.ensures.value None) c.in-Some.is c.deref_mut.ensures.value)
    _ c.requires.step

pub returns-clause-told : goal.returns-clause-told
returns-clause-told c = rw (← graph_lent (lent_here c)) c.settle.ensures.told

pub returns-clause-ok : goal.returns-clause-ok
returns-clause-ok c = put_so (lent_here c) c.settle.result _ (settled_graph (store_at c.args.stores.now.shelves c.args.place)) c.settle.ensures.ok

pub returns-clause-err : goal.returns-clause-err
returns-clause-err c = put_back (lent_here c) c.settle.result _ c.settle.ensures.err

pub returns-clause-step : goal.returns-clause-step
returns-clause-step c = leaves_drained (lent_here c) c.requires.places.0 _ c.settle.ensures.stores c.settle.ensures.step c.requires.step
