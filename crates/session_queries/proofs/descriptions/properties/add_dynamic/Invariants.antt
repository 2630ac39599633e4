use Rattle.std.proofs.Common.{◌≡◌, ◌++◌, drop, map}
use Rattle.property_store.specs.Store.{dynamic_names}
use Rattle.session_model.specs.PropertyDescriptions.{dynamic_description}
use Rattle.session_queries.specs.Views.{its_state}
use Rattle.session_queries.proofs.descriptions.properties.add_dynamic.Given as goal

-- those so far, and then those to come
abbrev pub invariant-names : goal.invariant-names
invariant-names l =
    l.described ++ map (dynamic_description (its_state l.session) l.object)
    (drop l.name-index (dynamic_names (its_state l.session).store l.object)) ≡ l.fn.described
    ++ map (dynamic_description (its_state l.session) l.object) (dynamic_names (its_state l.session).store l.object)
