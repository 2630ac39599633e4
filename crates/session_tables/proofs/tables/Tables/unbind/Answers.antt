use Rattle.std.proofs.Common.{◌≡◌, ◌∙◌, Some, ap, filter, not, refl, sym}
use Rattle.property_store.specs.Property.{is_property}
use Rattle.property_store.specs.Table.{store_at}
use Rattle.binding_values.specs.declared.binding.Binding.{Binding}
use Rattle.binding_values.specs.Graph.{taken, unbound}
use Rattle.binding_graph.specs.Table.{graph_at}
use Rattle.session_tables.specs.Bound.{bound_at, seen_of, stored_at}
use Rattle.session_tables.proofs.HereLemmas.{graph_stands, keeps_settled, same_there, shelf_stands, state_settled, told_settled}
use Rattle.session_tables.proofs.PlaceLemmas.{Settles, settles}
use Rattle.session_tables.proofs.SeenLemmas.{bindings_seen}
use Rattle.session_tables.proofs.SettledLemmas.{closed_at}
use Rattle.session_tables.proofs.ShowingLemmas.{taken_closed}
use Rattle.session_tables.proofs.TablesLemmas.{of_columns}
use Rattle.session_tables.proofs.tables.Tables.unbind.Goals as goal

-- where the place was noted, contracts see no change
noted : (c : goal.After-or_clear) → of_columns c.self.inside.0.0 (seen_of c.note.new.stores.shelves c.note.new.bindings) c.self.inside.0.1.1.0
    c.self.inside.0.1.1.1.0 c.self.inside.0.1.1.1.1.0 c.self.inside.0.1.1.1.1.1.0 ≡ c.args.self.now
noted c = same_there c.self.inside.0.1.0.stores.shelves c.self.inside.0.1.0.bindings c.self.view_is c.requires c.note.new.stores.shelves c.note.new.bindings
    c.note.ensures.stores c.note.ensures.graphs

-- it was changed then and settled, or cleared
its : (c : goal.After-or_clear) → Settles c.args.place c.or_clear.result (λ told. told) (Some c.args.at) c.note.new.stores.shelves
    c.settle-told.new.stores.shelves c.note.new.bindings c.or_clear.new.bindings
    (taken (store_at c.note.new.stores.shelves c.args.place) (graph_at c.note.new.bindings.graphs c.args.place) c.args.at)
    (unbound (graph_at c.note.new.bindings.graphs c.args.place) c.args.at)
its c = settles c.args.place c.or_clear.result c.settle-told.result (λ told. told) (Some c.args.at) c.note.new.stores.shelves c.take.new.stores.shelves
    c.settle-told.new.stores.shelves c.note.new.bindings c.take.new.self c.settle-told.new.self c.or_clear.new.bindings _ _
    (shelf_stands c.note.new.stores.shelves c.note.new.bindings (noted c) c.requires)
    (graph_stands c.note.new.stores.shelves c.note.new.bindings (noted c) c.requires) c.in_ok-take.ensures.stored.shelves c.in_ok-take.ensures.graph
    c.settle-told.ensures.stores.shelves c.or_clear.ensures.same c.settle-told.ensures.told c.settle-told.ensures.ok c.settle-told.ensures.err
    c.or_clear.ensures.ok c.or_clear.ensures.cleared

pub returns-clause-told : goal.returns-clause-told
returns-clause-told c = told_settled _ _ (noted c) c.requires _ _ (its c) (filter (λ (binding : Binding). not (is_property c.args.at binding.at)))
    c.in_ok-note.ensures.noted refl

pub returns-clause-ok : goal.returns-clause-ok
returns-clause-ok c =
    let bindings = c.note.new.bindings in
    let store = store_at c.note.new.stores.shelves c.args.place in
    state_settled _ _ (noted c) c.requires _ _ (its c) (λ of. taken (stored_at of c.args.place) (bound_at of c.args.place) c.args.at)
    (λ of. unbound (bound_at of c.args.place) c.args.at)
    (sym (ap (λ graph. taken store graph c.args.at) (closed_at bindings.graphs c.args.place)
    ∙ taken_closed store (graph_at bindings.graphs c.args.place) c.args.at))
    (bindings_seen bindings c.args.place (filter (λ (binding : Binding). not (is_property c.args.at binding.at))))

pub returns-clause-keeps : goal.returns-clause-keeps
returns-clause-keeps c = keeps_settled _ _ (noted c) c.requires _ _ (its c)
