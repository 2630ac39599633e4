use Rattle.std.proofs.Common.{◌≡◌, map, take}
use Rattle.session_model.specs.SharingDescriptions.{join_description}
use Rattle.session_queries.specs.Views.{its_settings, its_state}
use Rattle.session_queries.proofs.descriptions.sharing.join_descriptions.Given as goal

-- those so far
abbrev pub invariant-joins : goal.invariant-joins
invariant-joins l = l.described ≡ map (join_description (its_settings l.session) (its_state l.session))
    (take l.join-index (its_state l.session).desk.joins)
