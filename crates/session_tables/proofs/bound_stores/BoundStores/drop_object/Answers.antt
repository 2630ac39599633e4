use Rattle.std.proofs.Common.{◌≡◌, ◌∙◌, ◌==◌, None, filter, not, refl, sym}
use Rattle.property_store.specs.Store.{without}
use Rattle.property_store.specs.Table.{store_at}
use Rattle.binding_values.specs.declared.binding.Binding.{Binding}
use Rattle.binding_values.specs.Graph.{without_object}
use Rattle.binding_graph.specs.Table.{graph_at}
use Rattle.session_tables.specs.Bound.{seen_of}
use Rattle.session_tables.proofs.AloneLemmas.{going_alone}
use Rattle.session_tables.proofs.BoundLemmas.{closed_place}
use Rattle.session_tables.proofs.PlaceLemmas.{Settles, all_settled, changes_settled, settled_to, settles_once, told_noted, where_ok_too}
use Rattle.session_tables.proofs.SeenLemmas.{bindings_seen, seen_alike}
use Rattle.session_tables.proofs.bound_stores.BoundStores.drop_object.Goals as goal

pub returns-then-is_idle-clause-told : goal.returns-then-is_idle-clause-told
returns-then-is_idle-clause-told c = rw (← c.self.view_is)
    (c.new.ensures ∙ sym (going_alone c.self.inside.stores.shelves c.drop_object.new.self.shelves c.self.inside.bindings c.args.place c.args.object
    (rw (← c.self.view_is) at c.requires.place) (sym c.is_idle.ensures.idle ∙ c.if-is_idle.true) c.drop_object.ensures.stores))

-- where the place was noted, contracts see no change
noted : (c : goal.After-or_clear) → seen_of c.note.new.stores.shelves c.note.new.bindings ≡ c.args.self.now
noted c = seen_alike c.self.inside.stores.shelves c.note.new.stores.shelves c.self.inside.bindings c.note.new.bindings c.args.place c.note.ensures.stores
    c.note.ensures.graphs ∙ c.self.view_is

-- it was changed then and settled, or cleared
its : (c : goal.After-or_clear) → Settles c.args.place c.or_clear.result (λ told. told) None c.note.new.stores.shelves c.remove-told.new.stores.shelves
    c.note.new.bindings c.or_clear.new.bindings (without c.args.object (store_at c.note.new.stores.shelves c.args.place))
    (without_object c.args.object (graph_at c.note.new.bindings.graphs c.args.place))
its c = settles_once c.args.place c.or_clear.result c.remove-told.result (λ told. told) None c.note.new.stores.shelves c.remove-told.new.stores.shelves
    c.note.new.bindings c.remove-told.new.self c.or_clear.new.bindings _ _ c.remove-told.ensures.stores.shelves c.or_clear.ensures.same
    c.remove-told.ensures.told c.remove-told.ensures.ok c.remove-told.ensures.only c.or_clear.ensures.ok c.or_clear.ensures.cleared

pub invariant_of-self-2 : goal.invariant_of-self-2
invariant_of-self-2 c =
    all_settled (its c) (rw (← noted c) at c.requires.place) (closed_place c.note.new.bindings.graphs c.args.place (rw (← noted c) at c.requires.graph))
    c.note.ensures.settled (c.or_clear.ensures.step _ c.remove-told.ensures.step.step)

pub returns-clause-told : goal.returns-clause-told
returns-clause-told c =
    rw (← noted c)
    (told_noted (its c) (filter (λ (binding : Binding). not (binding.at.object == c.args.object))) (rw (← noted c) at c.requires.place)
    (closed_place c.note.new.bindings.graphs c.args.place (rw (← noted c) at c.requires.graph)) c.in_ok-note.ensures.noted refl)

pub returns-clause-ok : goal.returns-clause-ok
returns-clause-ok c =
    rw (← noted c)
    (where_ok_too c.or_clear.result (settled_to (its c) _
    (bindings_seen c.note.new.bindings c.args.place (filter (λ (binding : Binding). not (binding.at.object == c.args.object))))) (its c).ok)

pub returns-clause-only : goal.returns-clause-only
returns-clause-only c = rw (← noted c) (changes_settled (its c) (rw (← noted c) at c.requires.place) (rw (← noted c) at c.requires.graph))
