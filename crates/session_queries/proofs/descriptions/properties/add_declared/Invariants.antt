use Rattle.std.proofs.Common.{◌≡◌, ◌++◌, drop}
use Rattle.class_table.specs.Lookup.{properties}
use Rattle.session_model.specs.PropertyDescriptions.{descriptions_from}
use Rattle.session_queries.specs.Views.{its_settings, its_state}
use Rattle.session_queries.proofs.descriptions.properties.add_declared.Given as goal

-- those so far, and then those to come
abbrev pub invariant-properties : goal.invariant-properties
invariant-properties l = l.described ++ descriptions_from (its_settings l.session) (its_state l.session) l.row l.number
    (drop l.number (properties (its_settings l.session).classes l.row.class)) ≡ l.fn.described
    ++ descriptions_from (its_settings l.session) (its_state l.session) l.row 0 (properties (its_settings l.session).classes l.row.class)
