use Rattle.std.proofs.Common.{◌≡◌, ◌++◌, drop}
use Rattle.std.specs.List.{flat_map}
use Rattle.session_model.specs.ClassDescriptions.{own_methods}
use Rattle.session_queries.proofs.descriptions.classes.all_methods.Given as goal

-- those of the classes so far, and then those to come
abbrev pub invariant-line : goal.invariant-line
invariant-line l = l.described ++ flat_map (own_methods l.setup.classes l.signals) (drop l.index-index l.line)
    ≡ flat_map (own_methods l.setup.classes l.signals) l.line
