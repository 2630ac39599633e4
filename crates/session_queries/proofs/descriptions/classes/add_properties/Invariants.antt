use Rattle.std.proofs.Common.{◌≡◌, ◌++◌, drop, map}
use Rattle.session_model.specs.ClassDescriptions.{declared_property}
use Rattle.session_queries.proofs.descriptions.classes.add_properties.Given as goal

-- those so far, and then those to come
abbrev pub invariant-properties : goal.invariant-properties
invariant-properties l = l.described ++ map (declared_property l.setup.classes l.index l.row.name) (drop l.property-index l.row.properties) ≡ l.fn.described
    ++ map (declared_property l.setup.classes l.index l.row.name) l.row.properties
