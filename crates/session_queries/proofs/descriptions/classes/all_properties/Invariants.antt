use Rattle.std.proofs.Common.{◌≡◌, ◌++◌, drop}
use Rattle.std.specs.List.{flat_map}
use Rattle.session_model.specs.ClassDescriptions.{own_properties}
use Rattle.session_queries.proofs.descriptions.classes.all_properties.Given as goal

-- those of the classes so far, and then those to come
abbrev pub invariant-line : goal.invariant-line
invariant-line l = l.described ++ flat_map (own_properties l.setup.classes) (drop l.index-index l.line) ≡ flat_map (own_properties l.setup.classes) l.line
