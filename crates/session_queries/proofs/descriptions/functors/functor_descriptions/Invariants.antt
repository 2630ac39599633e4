use Rattle.std.proofs.Common.{◌≡◌, map, take}
use Rattle.session_model.specs.FunctorDescriptions.{functor_description}
use Rattle.session_queries.proofs.descriptions.functors.functor_descriptions.Given as goal

-- those so far
abbrev pub invariant-functors : goal.invariant-functors
invariant-functors l = l.described ≡ map functor_description (take l.functor-index l.setup.functors)
