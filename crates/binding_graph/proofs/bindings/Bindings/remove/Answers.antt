use Rattle.std.proofs.Common.{◌≡◌, ◌∙◌, [], None, ap, ap₂, is_some, not, refl, sym}
use Rattle.std.proofs.lemmas.Bool.{both_ways}
use Rattle.std.proofs.lemmas.Result.{IfOk-weaker, on_ok_weaker}
use Rattle.shared_rows.proofs.ForCallers as column
use Rattle.property_store.specs.Store.{without}
use Rattle.property_store.specs.Table.{StoreTable, store_at}
use Rattle.binding_values.specs.Graph.{no_graph, settled_changes, settled_graph, without_object}
use Rattle.binding_graph.specs.Inside.{pair_of}
use Rattle.binding_graph.specs.Table.{Graphs, graph_at, with_graph}
use Rattle.binding_graph.proofs.PlaceLemmas.{IsLent, graph_lent, leaves_stored, lent, no_some, none_there, put_at, put_so, step_lent}
use Rattle.binding_graph.proofs.StepLemmas.{removal_in_step}
use Rattle.binding_graph.proofs.bindings.Bindings.remove.Goals as goal

-- where there is no graph, the object alone goes
pub settle-requires-clause-step : goal.settle-requires-clause-step
settle-requires-clause-step c = removal_in_step c.args.stores.now c.drop_object.new.self c.args.place c.args.object c.requires.places.1
    c.drop_object.ensures.stores c.drop_object.ensures.marks c.args.self.now c.requires.step

none_at : (c : goal.After-settle) → graph_at c.args.self.now.graphs c.args.place ≡ no_graph
none_at c = ap (λ (graphs : Graphs). graph_at graphs.graphs c.args.place) (sym c.self.view_is)
    ∙ none_there c.self.inside.graphs c.args.place c.get.result.now (c.get.ensures None)
    (ap pair_of (no_some c.get.result.now (c.is_none.ensures ∙ ap not c.if-is_none.true)))

same_graph : (c : goal.After-settle) → graph_at c.args.self.now.graphs c.args.place
    ≡ without_object c.args.object (graph_at c.args.self.now.graphs c.args.place)
same_graph c = none_at c ∙ sym (ap (without_object c.args.object) (none_at c))

stored : (c : goal.After-settle) → store_at c.drop_object.new.self.shelves c.args.place
    ≡ without c.args.object (store_at c.args.stores.now.shelves c.args.place)
stored c = ap (λ (shelves : StoreTable). store_at shelves c.args.place) c.drop_object.ensures.stores
    ∙ column.with_there [] c.args.stores.now.shelves.table c.args.place _ c.requires.places.1

pub returns-then-is_none-clause-told : goal.returns-then-is_none-clause-told
returns-then-is_none-clause-told c = IfOk-weaker c.settle.result _ _
    (λ told is. is ∙ ap₂ (λ store graph. settled_changes store graph None) (stored c) (same_graph c)) c.settle.ensures.told

pub returns-then-is_none-clause-ok : goal.returns-then-is_none-clause-ok
returns-then-is_none-clause-ok c = on_ok_weaker c.settle.result
    (λ is. is ∙ ap₂ (λ store graph. with_graph c.args.self.now.graphs c.args.place (settled_graph store graph)) (stored c) (same_graph c))
    c.settle.ensures.ok

pub unreachable-requires : goal.unreachable-requires
unreachable-requires c = both_ways (is_some c.get.result.now)
    (ap is_some (c.get.ensures None ∙ (sym (c.get_mut.ensures.value None) ∙ c.in_default.is))) (c.is_none.ensures ∙ ap not c.if-is_none.false)

pub remove-requires-clause-step : goal.remove-requires-clause-step
remove-requires-clause-step c = step_lent
    (lent c.self.inside.graphs c.args.place c.self.view_is (c.get_mut.ensures.value None) c.in-Some.is c.deref_mut.ensures.value) _ c.requires.step

-- the graph that the place lends
lent_here : (c : goal.After-self-2-1) → IsLent c.args.self.now c.self.inside.graphs c.args.place c.deref_mut.result.now
lent_here c = lent c.self.inside.graphs c.args.place c.self.view_is (c.get_mut.ensures.value None) c.in-Some.is c.deref_mut.ensures.value

pub returns-clause-told : goal.returns-clause-told
returns-clause-told c = rw (← graph_lent (lent_here c)) c.remove.ensures.told

pub returns-clause-ok : goal.returns-clause-ok
returns-clause-ok c = put_so (lent_here c) c.remove.result _ (λ graph. settled_graph (without c.args.object
    (store_at c.args.stores.now.shelves c.args.place)) (without_object c.args.object graph)) c.remove.ensures.ok

pub returns-clause-only : goal.returns-clause-only
returns-clause-only c = column.changes_with no_graph c.args.self.now.graphs _ c.args.place c.remove.new.self.graph c.requires.places.0
    (put_at (lent_here c) _ _ refl)

pub returns-clause-step : goal.returns-clause-step
returns-clause-step c = leaves_stored (lent_here c) c.requires.places.0 _ _ c.requires.places.1 c.remove.ensures.stores c.remove.ensures.step c.requires.step
