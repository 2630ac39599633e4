use Rattle.std.proofs.Common.{◌≡◌, ◌∙◌, [], Some, filter, not, refl, sym, ap}
use Rattle.shared_rows.proofs.ForCallers as column
use Rattle.property_store.specs.declared.property.Property.{Property}
use Rattle.property_store.specs.Property.{is_property}
use Rattle.property_store.specs.Store.{changed, fitting, with_value, written}
use Rattle.property_store.specs.Table.{StoreTable, store_at, with_store}
use Rattle.binding_values.specs.declared.binding.Binding.{Binding}
use Rattle.binding_values.specs.Graph.{no_graph, stored_value, unbound}
use Rattle.binding_graph.specs.Table.{graph_at}
use Rattle.binding_graph.specs.WriteChanges.{alone, changes_in}
use Rattle.session_tables.specs.Bound.{bound_at, seen_of, stored_at}
use Rattle.session_tables.proofs.AloneLemmas.{alone_told, change_of, written_as}
use Rattle.session_tables.proofs.HereLemmas.{graph_stands, keeps_settled, same_there, shelf_stands, state_settled, tells_there, told_settled}
use Rattle.session_tables.proofs.PlaceLemmas.{Settles, all_settled, by_result, if_ok_with, settles}
use Rattle.session_tables.proofs.SeenLemmas.{bindings_seen}
use Rattle.session_tables.proofs.TablesLemmas.{of_columns}
use Rattle.session_tables.proofs.WrittenLemmas.{written_shown, wrote_is}
use Rattle.session_tables.proofs.tables.Tables.write.Goals as goal

pub returns-then-is_idle-clause-told : goal.returns-then-is_idle-clause-told
returns-then-is_idle-clause-told c =
    let stores = c.self.inside.0.1.0.stores.shelves in
    let bindings = c.self.inside.0.1.0.bindings in
    let new = c.write-is_change.new.self.shelves in
    let at : Property = record { object = c.args.object; number = c.args.number } in
    let store = store_at stores c.args.place in
    let fits : fitting store at.object at.number c.args.value ≡ Some c.args.value = rw (← c.self.view_is) at c.requires.fits in
    let is : new ≡ with_store stores c.args.place (changed (with_value at.number c.args.value) at.object store) = c.write-is_change.ensures.new
    ∙ ap (with_store stores c.args.place) (written_as store at.object at.number c.args.value fits) in
    tells_there stores bindings c.self.view_is c.requires.place new bindings at _ c.alone.result
    (c.alone.ensures ∙ ap alone (c.unwrap_or.ensures ∙ change_of c.write-is_change.result store at.object at.number c.args.value fits
    c.write-is_change.ensures.refused c.write-is_change.ensures.answer))
    (alone_told stores new bindings c.args.place at c.args.value c.args.value (shelf_stands stores bindings c.self.view_is c.requires.place)
    (sym c.is_idle.ensures.idle ∙ c.if-is_idle.true) c.is_idle.ensures.sound c.requires.short fits is)

-- where the place was noted, contracts see no change
noted : (c : goal.After-or_clear) → of_columns c.self.inside.0.0 (seen_of c.note.new.stores.shelves c.note.new.bindings)
    c.self.inside.0.1.1.0 c.self.inside.0.1.1.1.0 c.self.inside.0.1.1.1.1.0 c.self.inside.0.1.1.1.1.1.0 ≡ c.args.self.now
noted c = same_there c.self.inside.0.1.0.stores.shelves c.self.inside.0.1.0.bindings c.self.view_is c.requires.place c.note.new.stores.shelves
    c.note.new.bindings c.note.ensures.stores c.note.ensures.graphs

-- the property is written as if it was written alone
stored : (c : goal.After-or_clear) → c.write.new.self.shelves ≡ with_store c.note.new.stores.shelves c.args.place
    (written (store_at c.note.new.stores.shelves c.args.place) c.args.object c.args.number c.args.value)
stored c = wrote_is c.note.new.stores.shelves c.take.new.stores.shelves c.write.new.self.shelves c.args.place
    (graph_at c.note.new.bindings.graphs c.args.place) (record { object = c.args.object; number = c.args.number }) c.args.value
    (shelf_stands c.note.new.stores.shelves c.note.new.bindings (noted c) c.requires.place) (rw (← noted c) at c.requires.fits)
    c.in_ok-take.ensures.stored.shelves c.write.ensures.new

pub or_clear-requires : goal.or_clear-requires
or_clear-requires c =
    let noted = same_there c.self.inside.0.1.0.stores.shelves c.self.inside.0.1.0.bindings c.self.view_is c.requires.place c.note.new.stores.shelves
    c.note.new.bindings c.note.ensures.stores c.note.ensures.graphs in
    let kept = c.note.new.bindings.graphs in
    let took = c.take.new.self.graphs in
    let there = graph_stands c.note.new.stores.shelves c.note.new.bindings noted c.requires.place in
    let still = column.changes_open no_graph kept took c.args.place
    (column.changes_with no_graph kept took c.args.place _ there c.in_ok-take.ensures.graph) there in
    column.changes_open no_graph took c.settle_written-changed.new.self.graphs c.args.place
    (by_result c.settle_written-changed.result
    (λ is. column.changes_with no_graph took c.settle_written-changed.new.self.graphs c.args.place _ still is)
    (λ is. column.changes_same no_graph took c.settle_written-changed.new.self.graphs c.args.place is)
    c.settle_written-changed.ensures.ok c.settle_written-changed.ensures.err) still

-- it was settled then, or cleared
its : (c : goal.After-or_clear) → Settles c.args.place c.or_clear.result
    (changes_in (record { object = c.args.object; number = c.args.number })
    (stored_value (store_at c.write.new.self.shelves c.args.place) (record { object = c.args.object; number = c.args.number })))
    (Some (record { object = c.args.object; number = c.args.number })) c.note.new.stores.shelves c.settle_written-changed.new.stores.shelves
    c.note.new.bindings c.or_clear.new.bindings (written (store_at c.note.new.stores.shelves c.args.place) c.args.object c.args.number c.args.value)
    (unbound (graph_at c.note.new.bindings.graphs c.args.place) (record { object = c.args.object; number = c.args.number }))
its c = settles c.args.place c.or_clear.result c.settle_written-changed.result _ _ c.note.new.stores.shelves c.write.new.self.shelves
    c.settle_written-changed.new.stores.shelves c.note.new.bindings c.take.new.self c.settle_written-changed.new.self c.or_clear.new.bindings _ _
    (shelf_stands c.note.new.stores.shelves c.note.new.bindings (noted c) c.requires.place)
    (graph_stands c.note.new.stores.shelves c.note.new.bindings (noted c) c.requires.place) (stored c) c.in_ok-take.ensures.graph
    c.settle_written-changed.ensures.stores.shelves c.or_clear.ensures.same c.settle_written-changed.ensures.told c.settle_written-changed.ensures.ok
    c.settle_written-changed.ensures.err c.or_clear.ensures.ok c.or_clear.ensures.cleared

pub invariant_of-self-2 : goal.invariant_of-self-2
invariant_of-self-2 c =
    all_settled (its c) (shelf_stands c.note.new.stores.shelves c.note.new.bindings (noted c) c.requires.place)
    (graph_stands c.note.new.stores.shelves c.note.new.bindings (noted c) c.requires.place) c.note.ensures.settled
    (c.or_clear.ensures.step _ c.settle_written-changed.ensures.step.step)

pub returns-clause-told : goal.returns-clause-told
returns-clause-told c =
    let at : Property = record { object = c.args.object; number = c.args.number } in
    let stores = c.note.new.stores.shelves in
    let bindings = c.note.new.bindings in
    let shelf = shelf_stands stores bindings (noted c) c.requires.place in
    if_ok_with c.or_clear.result
    (λ is changed told. ap (λ value. changes_in at value changed)
    (written_shown stores c.settle_written-changed.new.stores.shelves bindings c.or_clear.new.bindings c.args.place at
    (written (store_at stores c.args.place) at.object at.number c.args.value) shelf (graph_stands stores bindings (noted c) c.requires.place)
    (its c).shelves is
    ∙ ap (λ store. stored_value store at) (sym (ap (λ (shelves : StoreTable). store_at shelves c.args.place) (stored c)
    ∙ column.with_there [] stores.table c.args.place _ shelf)))
    ∙ told)
    (its c).ok
    (told_settled _ _ (noted c) c.requires.place _ _ (its c) (filter (λ (binding : Binding). not (is_property at binding.at))) c.in_ok-note.ensures.noted refl)

pub returns-clause-ok : goal.returns-clause-ok
returns-clause-ok c =
    let at : Property = record { object = c.args.object; number = c.args.number } in
    state_settled _ _ (noted c) c.requires.place _ _ (its c) (λ of. changed (with_value at.number c.args.value) at.object (stored_at of c.args.place))
    (λ of. unbound (bound_at of c.args.place) at)
    (written_as (store_at c.note.new.stores.shelves c.args.place) at.object at.number c.args.value (rw (← noted c) at c.requires.fits))
    (bindings_seen c.note.new.bindings c.args.place (filter (λ (binding : Binding). not (is_property at binding.at))))

pub returns-clause-keeps : goal.returns-clause-keeps
returns-clause-keeps c = keeps_settled _ _ (noted c) c.requires.place _ _ (its c)
