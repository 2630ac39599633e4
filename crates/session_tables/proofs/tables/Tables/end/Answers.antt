use Rattle.std.proofs.Common.{◌≡◌, ◌∙◌, Bool, true, false, [], None, Some, cond, nat_lt, refl, sym, ap}
use Rattle.plain_types.specs.declared.code.Code.TheVariants.{NoGroup}
use Rattle.property_store.specs.Store.{Store}
use Rattle.property_store.specs.Table.{StoreTable, store_at}
use Rattle.binding_values.specs.Graph.{Graph, all_shown, changes, end_refusal, ended, is_open, settled_changes}
use Rattle.binding_graph.specs.Table.{graph_at}
use Rattle.session_model.specs.State.{closed}
use Rattle.session_tables.specs.declared.tables.Tables.{Tables}
use Rattle.session_tables.specs.Bound.{all_closed, bound_at, stored_at}
use Rattle.session_tables.proofs.HereLemmas.{graph_stands, keeps_settled, shelf_stands, state_settled}
use Rattle.session_tables.proofs.InvariantLemmas.{closed_ended, closed_open}
use Rattle.session_tables.proofs.PlaceLemmas.{Settles, graph_settled, settles}
use Rattle.session_tables.proofs.SeenLemmas.{settled_store}
use Rattle.session_tables.proofs.SettledLemmas.{closed_at, closed_bindings, closed_depth}
use Rattle.session_tables.proofs.tables.Tables.end.Goals.{After-or_clear}
use Rattle.session_tables.proofs.tables.Tables.end.Goals as goal

-- the place was settled, or cleared
its : (c : After-or_clear) → Settles c.args.place c.or_clear.result (λ told. told) None c.self.inside.0.1.0.stores.shelves
    c.settle-told.new.stores.shelves c.self.inside.0.1.0.bindings c.or_clear.new.bindings (store_at c.self.inside.0.1.0.stores.shelves c.args.place)
    (ended (graph_at c.self.inside.0.1.0.bindings.graphs c.args.place))
its c =
    let stores = c.self.inside.0.1.0.stores.shelves in
    let bindings = c.self.inside.0.1.0.bindings in
    settles c.args.place c.or_clear.result c.settle-told.result (λ told. told) None stores stores c.settle-told.new.stores.shelves bindings c.end.new.self
    c.settle-told.new.self c.or_clear.new.bindings _ _ (shelf_stands stores bindings c.self.view_is c.requires)
    (graph_stands stores bindings c.self.view_is c.requires) (settled_store stores stores c.args.place refl) c.in_ok-left.ensures.ok
    c.settle-told.ensures.stores.shelves c.or_clear.ensures.same c.settle-told.ensures.told c.settle-told.ensures.ok c.settle-told.ensures.err
    c.or_clear.ensures.ok c.or_clear.ensures.cleared

-- its graph, as contracts see it
seen : (c : goal.In_ok-or_clear) → graph_at (all_closed c.or_clear.new.bindings.graphs) c.args.place
    ≡ closed (ended (graph_at c.self.inside.0.1.0.bindings.graphs c.args.place))
seen c =
    let its = its (goal.at.returns-clause-told c).After-or_clear in
    graph_settled its (graph_stands c.self.inside.0.1.0.stores.shelves c.self.inside.0.1.0.bindings c.self.view_is c.requires)
    (rw c.in_ok-or_clear.was at its.ok)

-- what is told where a group ends: a group was open, so all that was kept is seen
told_seen : (store : Store) (graph before after : Graph) → end_refusal graph ≡ None → before ≡ closed graph → after ≡ closed (ended graph)
    → settled_changes store (ended graph) None ≡ cond (is_open after) [] (changes before.last (all_shown store after.bindings) None)
told_seen store graph before after allowed first second = by (is_open graph) refl allowed
  where
    by : (deep : Bool) → is_open graph ≡ deep → cond deep None (Some NoGroup) ≡ None
        → settled_changes store (ended graph) None ≡ cond (is_open after) [] (changes before.last (all_shown store after.bindings) None)
    by false e never = absurd (cc)
    by true e allowed =
        sym (ap (λ (after : Graph). cond (is_open after) [] (changes before.last (all_shown store after.bindings) None)) second
        ∙ (ap (λ depth. cond (nat_lt 0 depth) [] (changes before.last (all_shown store (closed (ended graph)).bindings) None)) (closed_depth (ended graph))
        ∙ (ap (λ bindings. cond (is_open (ended graph)) [] (changes before.last (all_shown store bindings) None)) (closed_bindings (ended graph))
        ∙ ap (λ (before : Graph). cond (is_open (ended graph)) [] (changes before.last (all_shown store graph.bindings) None))
        (first ∙ closed_open graph e))))

pub returns-clause-told : goal.returns-clause-told
returns-clause-told c =
    let place = c.args.place in
    let bindings = c.self.inside.0.1.0.bindings.graphs in
    let seen_after = graph_at (all_closed c.or_clear.new.bindings.graphs) place in
    let tells = (its (goal.at.returns-clause-told c).After-or_clear).tells in
    (rw c.in_ok-or_clear.was at tells)
    ∙ (told_seen (store_at c.self.inside.0.1.0.stores.shelves place) (graph_at bindings place) (graph_at c.args.self.now.stores.graphs place) seen_after
    (sym c.in_ok-left.ensures.refused)
    (ap (λ (tables : Tables). graph_at tables.stores.graphs place) (sym c.self.view_is) ∙ closed_at bindings place) (seen c)
    ∙ ap (λ (shelves : StoreTable). cond (is_open seen_after) []
    (changes (graph_at c.args.self.now.stores.graphs place).last (all_shown (store_at shelves place) seen_after.bindings) None))
    (sym c.settle-told.ensures.stores.shelves))

pub returns-clause-depth : goal.returns-clause-depth
returns-clause-depth c = c.in_ok-left.ensures.depth ∙ sym (ap (λ (graph : Graph). graph.depth) (seen c)
    ∙ closed_depth (ended (graph_at c.self.inside.0.1.0.bindings.graphs c.args.place)))

pub returns-clause-ok : goal.returns-clause-ok
returns-clause-ok c =
    let graph = graph_at c.self.inside.0.1.0.bindings.graphs c.args.place in
    let state = state_settled _ _ c.self.view_is c.requires _ _ (its (goal.at.returns-clause-ok c).After-or_clear) (λ of. stored_at of c.args.place)
    (λ of. closed (ended (bound_at of c.args.place))) refl
    (sym (closed_ended graph) ∙ ap (λ graph. closed (ended graph)) (sym (closed_at c.self.inside.0.1.0.bindings.graphs c.args.place))) in
    rw c.in_ok-or_clear.was at state

pub returns-clause-keeps : goal.returns-clause-keeps
returns-clause-keeps c = keeps_settled _ _ c.self.view_is c.requires _ _ (its (goal.at.returns-clause-keeps c).After-or_clear)

pub returns-in_err-or_clear-clause-keeps : goal.returns-in_err-or_clear-clause-keeps
returns-in_err-or_clear-clause-keeps c =
    keeps_settled _ _ c.self.view_is c.requires _ _ (its (goal.at.returns-in_err-or_clear-clause-keeps c).After-or_clear)
