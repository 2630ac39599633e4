-- The names of the sessions that have had a command.
use Rattle.std.specs.Prelude.{ℕ, List, [], ◌∷◌, ◌++◌, if◌then◌else◌, bytes_eq}
use Rattle.std.specs.List.{list_any}
use Rattle.isolation.specs.Machine.{Tagged}
use Rattle.session_model.specs.Asked.{Asked}

-- The names with this one, which is added at the end if it is new.
abbrev pub with_name : List (List ℕ) → List ℕ → List (List ℕ)
with_name names name = if list_any (bytes_eq name) names then names else names ++ name ∷ []

-- The names with those of the sessions that gave these commands.
abbrev pub with_names : List (List ℕ) → List (Tagged (List ℕ) Asked) → List (List ℕ)
with_names names [] = names
with_names names (t ∷ ts) = with_names (with_name names t.session) ts
