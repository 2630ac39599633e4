use Rattle.std.proofs.Common.{◌≡◌, ◌∙◌, suc, refl, sym, ap, arith}
use Rattle.shared_rows.proofs.ForCallers as column
use Rattle.property_store.specs.Table.{store_at}
use Rattle.binding_values.specs.Graph.{Graph, begun, no_graph}
use Rattle.binding_graph.specs.Table.{graph_at}
use Rattle.session_tables.specs.Bound.{all_closed, bound_at, seen_of, stored_at}
use Rattle.session_tables.proofs.HereLemmas.{graph_stands, same_there, state_put}
use Rattle.session_tables.proofs.InvariantLemmas.{closed_begun}
use Rattle.session_tables.proofs.PlaceLemmas.{by_result, if_ok_with, where_ok_too}
use Rattle.session_tables.proofs.SettledLemmas.{closed_at, depth_seen}
use Rattle.session_tables.proofs.SeenLemmas.{put_seen, settled_store}
use Rattle.session_tables.proofs.TablesLemmas.{keeps_same, keeps_with}
use Rattle.session_tables.proofs.tables.Tables.begin.Goals as goal

pub returns-clause-depth : goal.returns-clause-depth
returns-clause-depth c =
    let place = c.args.place in
    let old = c.self.inside.0.1.0.bindings.graphs in
    let there = graph_stands c.self.inside.0.1.0.stores.shelves c.self.inside.0.1.0.bindings c.self.view_is c.requires in
    if_ok_with c.begin.result
    (λ is depth its.
    let now : (graph_at c.begin.new.self.graphs place).depth ≡ suc (graph_at old place).depth =
    ap (λ (graph : Graph). graph.depth) (ap (λ graphs. graph_at graphs place) is ∙ column.with_there no_graph old place _ there) in
    let deep : (bound_at (seen_of c.begin.new.stores.shelves c.begin.new.self) place).depth ≡ (graph_at c.begin.new.self.graphs place).depth =
    depth_seen c.begin.new.self.graphs (seen_of c.begin.new.stores.shelves c.begin.new.self).graphs place refl in
    omega (arith, now, deep, its))
    c.begin.ensures.ok c.begin.ensures.depth

pub returns-clause-ok : goal.returns-clause-ok
returns-clause-ok c =
    let place = c.args.place in
    let stores = c.self.inside.0.1.0.stores.shelves in
    let bindings = c.self.inside.0.1.0.bindings in
    let store = store_at stores place in
    where_ok_too c.begin.result
    (λ is. state_put stores bindings c.self.view_is c.requires (λ of. stored_at of place)
    (λ of. begun (stored_at of place) (bound_at of place)) (seen_of c.begin.new.stores.shelves c.begin.new.self)
    (put_seen stores c.begin.new.stores.shelves bindings c.begin.new.self place store (begun store (graph_at bindings.graphs place))
    (begun store (bound_at (seen_of stores bindings) place)) (settled_store stores c.begin.new.stores.shelves place c.begin.ensures.stores.shelves) is
    (closed_begun store (graph_at bindings.graphs place) ∙ ap (begun store) (sym (closed_at bindings.graphs place)))))
    c.begin.ensures.ok

pub returns-clause-keeps : goal.returns-clause-keeps
returns-clause-keeps c =
    let stores = c.self.inside.0.1.0.stores.shelves in
    let bindings = c.self.inside.0.1.0.bindings in
    by_result c.begin.result (keeps_with c.args.self.now _ c.args.place _ c.requires)
    (λ same. keeps_same c.args.self.now _ c.args.place
    (same_there stores bindings c.self.view_is c.requires c.begin.new.stores.shelves c.begin.new.self c.begin.ensures.stores.shelves (ap all_closed same)))
    (returns-clause-ok c) c.begin.ensures.err
