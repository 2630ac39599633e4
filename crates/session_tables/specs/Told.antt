-- The announcements of a change.
use Rattle.std.specs.Prelude.{ℕ, List, [], Option, if◌then◌else◌}
use Rattle.property_store.specs.Store.{Store}
use Rattle.binding_values.specs.declared.change.Change.{Change}
use Rattle.property_store.specs.declared.property.Property.{Property}
use Rattle.binding_values.specs.Graph.{Graph, all_shown, changes, is_open}
use Rattle.session_tables.specs.Bound.{BoundShelves, bound_at, stored_at}

-- The changes that are announced if a place gets a different store and graph; none in a group.
abbrev pub told_of : Store → Graph → Store → Graph → Option Property → List Change
told_of store graph new_store new_graph written =
    if is_open new_graph then [] else changes (all_shown store graph.bindings) (all_shown new_store new_graph.bindings) written

-- The changes that are announced at a place.
abbrev pub told_at : ℕ → BoundShelves → BoundShelves → Option Property → List Change
told_at place old new written = told_of (stored_at old place) (bound_at old place) (stored_at new place) (bound_at new place) written
