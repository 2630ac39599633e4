use Rattle.std.proofs.Common.{◌≡◌, map, take}
use Rattle.session_model.specs.SharingDescriptions.{publication_description}
use Rattle.session_queries.specs.Views.{its_settings, its_state}
use Rattle.session_queries.proofs.descriptions.sharing.publication_descriptions.Given as goal

-- those so far
abbrev pub invariant-publications : goal.invariant-publications
invariant-publications l = l.described ≡ map (publication_description (its_settings l.session) (its_state l.session))
    (take l.row-index (its_state l.session).desk.publications)
