use Rattle.std.proofs.Common.{◌≡◌, Some, refl}
use Rattle.property_store.specs.Table.{store_at}
use Rattle.binding_values.specs.Binds.{with_binding}
use Rattle.binding_values.specs.Graph.{bound}
use Rattle.binding_graph.specs.Table.{graph_at}
use Rattle.session_tables.specs.Bound.{bound_at, seen_of, stored_at}
use Rattle.session_tables.proofs.HereLemmas.{graph_stands, keeps_settled, same_there, shelf_stands, state_settled, told_settled}
use Rattle.session_tables.proofs.PlaceLemmas.{Settles, settles}
use Rattle.session_tables.proofs.SeenLemmas.{bindings_seen, settled_store}
use Rattle.session_tables.proofs.TablesLemmas.{of_columns}
use Rattle.session_tables.proofs.tables.Tables.bind.Goals.{After-or_clear}
use Rattle.session_tables.proofs.tables.Tables.bind.Goals as goal

-- where the place was noted, contracts see no change
noted : (c : After-or_clear) → of_columns c.self.inside.0.0 (seen_of c.note.new.stores.shelves c.note.new.bindings) c.self.inside.0.1.1.0
    c.self.inside.0.1.1.1.0 c.self.inside.0.1.1.1.1.0 c.self.inside.0.1.1.1.1.1.0 ≡ c.args.self.now
noted c = same_there c.self.inside.0.1.0.stores.shelves c.self.inside.0.1.0.bindings c.self.view_is c.requires.place c.note.new.stores.shelves
    c.note.new.bindings c.note.ensures.stores c.note.ensures.graphs

-- it was changed then and settled, or cleared
its : (c : After-or_clear) → Settles c.args.place c.or_clear.result (λ told. told) (Some c.args.at) c.note.new.stores.shelves
    c.settle-told.new.stores.shelves c.note.new.bindings c.or_clear.new.bindings (store_at c.note.new.stores.shelves c.args.place)
    (bound (graph_at c.note.new.bindings.graphs c.args.place) c.args.at c.args.expr)
its c = settles c.args.place c.or_clear.result c.settle-told.result (λ told. told) (Some c.args.at) c.note.new.stores.shelves c.note.new.stores.shelves
    c.settle-told.new.stores.shelves c.note.new.bindings c.bind.new.self c.settle-told.new.self c.or_clear.new.bindings _ _
    (shelf_stands c.note.new.stores.shelves c.note.new.bindings (noted c) c.requires.place)
    (graph_stands c.note.new.stores.shelves c.note.new.bindings (noted c) c.requires.place)
    (settled_store c.note.new.stores.shelves c.note.new.stores.shelves c.args.place refl) c.in_ok-bind.ensures.ok c.settle-told.ensures.stores.shelves
    c.or_clear.ensures.same c.settle-told.ensures.told c.settle-told.ensures.ok c.settle-told.ensures.err c.or_clear.ensures.ok c.or_clear.ensures.cleared

pub returns-clause-told : goal.returns-clause-told
returns-clause-told c =
    let after = (goal.at.returns-clause-told c).After-or_clear in
    let told = told_settled _ _ (noted after) c.requires.place _ _ (its after) (with_binding (record { at = c.args.at; expr = c.args.expr }))
    c.in_ok-note.ensures.noted refl in
    rw c.in_ok-or_clear.was at told

pub returns-clause-ok : goal.returns-clause-ok
returns-clause-ok c =
    let after = (goal.at.returns-clause-ok c).After-or_clear in
    let state = state_settled _ _ (noted after) c.requires.place _ _ (its after) (λ of. stored_at of c.args.place)
    (λ of. bound (bound_at of c.args.place) c.args.at c.args.expr) refl
    (bindings_seen c.note.new.bindings c.args.place (with_binding (record { at = c.args.at; expr = c.args.expr }))) in
    rw c.in_ok-or_clear.was at state

pub returns-clause-keeps : goal.returns-clause-keeps
returns-clause-keeps c =
    let after = (goal.at.returns-clause-keeps c).After-or_clear in
    keeps_settled _ _ (noted after) c.requires.place _ _ (its after)

pub returns-in_err-or_clear-clause-keeps : goal.returns-in_err-or_clear-clause-keeps
returns-in_err-or_clear-clause-keeps c =
    let after = (goal.at.returns-in_err-or_clear-clause-keeps c).After-or_clear in
    keeps_settled _ _ (noted after) c.requires.place _ _ (its after)
