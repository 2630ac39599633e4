use Rattle.std.proofs.Common.{None, sym}
use Rattle.shared_rows.proofs.ForCallers as column
use Rattle.property_store.specs.Store.{added}
use Rattle.property_store.specs.Table.{fields_of, store_at}
use Rattle.binding_values.specs.Graph.{no_graph}
use Rattle.binding_graph.specs.Table.{graph_at}
use Rattle.session_tables.proofs.BoundLemmas.{closed_place}
use Rattle.session_tables.proofs.PlaceLemmas.{Settles, all_settled, changes_settled, settled_to, settles}
use Rattle.session_tables.proofs.SettledLemmas.{closed_at}
use Rattle.session_tables.proofs.bound_stores.BoundStores.add_object.Goals.{After-or_clear}
use Rattle.session_tables.proofs.bound_stores.BoundStores.add_object.Goals as goal

-- the place was settled, or cleared
its : (c : After-or_clear) → Settles c.args.place c.or_clear.result (λ told. told) None c.self.inside.stores.shelves c.settle-told.new.stores.shelves
    c.self.inside.bindings c.or_clear.new.bindings
    (added (store_at c.self.inside.stores.shelves c.args.place) c.args.object (fields_of c.self.inside.stores.shelves c.args.class))
    (graph_at c.self.inside.bindings.graphs c.args.place)
its c =
    let bindings = c.self.inside.bindings in
    settles c.args.place c.or_clear.result c.settle-told.result (λ told. told) None c.self.inside.stores.shelves c.add_object.new.self.shelves
    c.settle-told.new.stores.shelves bindings bindings c.settle-told.new.self c.or_clear.new.bindings _ _ (rw (← c.self.view_is) at c.requires.place)
    (closed_place bindings.graphs c.args.place (rw (← c.self.view_is) at c.requires.graph)) c.in_ok-add_object.ensures.ok
    (sym (column.with_same no_graph bindings.graphs c.args.place)) c.settle-told.ensures.stores.shelves c.or_clear.ensures.same c.settle-told.ensures.told
    c.settle-told.ensures.ok c.settle-told.ensures.err c.or_clear.ensures.ok c.or_clear.ensures.cleared

pub returns-in_err-or_clear-clause-only : goal.returns-in_err-or_clear-clause-only
returns-in_err-or_clear-clause-only c =
    rw (← c.self.view_is)
    (changes_settled (its (goal.at.returns-in_err-or_clear-clause-only c).After-or_clear) (rw (← c.self.view_is) at c.requires.place)
    (rw (← c.self.view_is) at c.requires.graph))

pub invariant_of-self-2 : goal.invariant_of-self-2
invariant_of-self-2 c =
    all_settled (its (goal.at.invariant_of-self-2 c).After-or_clear) (rw (← c.self.view_is) at c.requires.place)
    (closed_place c.self.inside.bindings.graphs c.args.place (rw (← c.self.view_is) at c.requires.graph)) c.self.invariant
    (c.or_clear.ensures.step _ c.settle-told.ensures.step.step)

pub returns-clause-ok : goal.returns-clause-ok
returns-clause-ok c =
    let its = its (goal.at.returns-clause-ok c).After-or_clear in
    rw (← c.self.view_is) (settled_to its _ (sym (closed_at c.self.inside.bindings.graphs c.args.place)) (rw c.in_ok-or_clear.was at its.ok))

pub returns-clause-only : goal.returns-clause-only
returns-clause-only c =
    rw (← c.self.view_is)
    (changes_settled (its (goal.at.returns-clause-only c).After-or_clear) (rw (← c.self.view_is) at c.requires.place)
    (rw (← c.self.view_is) at c.requires.graph))
