use Rattle.std.proofs.Common.{◌≡◌, map, take}
use Rattle.session_queries.proofs.descriptions.classes.class_names.Given as goal

-- those so far
abbrev pub invariant-classes : goal.invariant-classes
invariant-classes l = l.names ≡ map (λ class. class.name) (take l.index l.setup.classes)
