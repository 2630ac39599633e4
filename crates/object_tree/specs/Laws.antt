-- What changes preserve in every forest.
use Rattle.std.specs.Prelude.{◌≡◌, ◌+◌, ◌==◌, ℕ, Bool, not, List, [], ◌∷◌, ◌++◌, Option, None, filter, find}
use Rattle.object_tree.specs.declared.row.Row.{Row}
use Rattle.object_tree.specs.Finding.{below_by_depth, found_below}
use Rattle.object_tree.specs.Rows.{numbers}
use Rattle.object_tree.specs.Forest.{Forest, IsSound, empty_forest}
use Rattle.object_tree.specs.Refusing.{add_refusal, set_parent_refusal}
use Rattle.object_tree.specs.Changes.{added, marked, removed, reparented, with_blocked}

-- A forest stays sound in each change that is not refused.
pub record KeepsSound : Type 0 where
  pub at_first : IsSound empty_forest
  pub by_added : (forest : Forest) (parent : Option ℕ) (class : ℕ) → add_refusal forest parent ≡ None → IsSound forest → IsSound (added forest parent class)
  pub by_reparented : (forest : Forest) (object : ℕ) (parent : Option ℕ)
      → set_parent_refusal forest object parent ≡ None → IsSound forest → IsSound (reparented forest object parent)
  pub by_marked : (forest : Forest) (object : ℕ) → IsSound forest → IsSound (marked forest object)
  pub by_blocked : (forest : Forest) (object : ℕ) (on : Bool) → IsSound forest → IsSound (with_blocked forest object on)
  pub by_removed : (forest : Forest) (object : ℕ) → IsSound forest → IsSound (removed forest object)

-- Only an added object has a new number, and only a removed one loses its number.
pub record KeepsNumbers : Type 0 where
  pub by_added : (forest : Forest) (parent : Option ℕ) (class : ℕ)
      → numbers (added forest parent class).rows ≡ numbers forest.rows ++ (forest.last_number + 1) ∷ []
  pub by_reparented : (forest : Forest) (object : ℕ) (parent : Option ℕ) → numbers (reparented forest object parent).rows ≡ numbers forest.rows
  pub by_marked : (forest : Forest) (object : ℕ) → numbers (marked forest object).rows ≡ numbers forest.rows
  pub by_blocked : (forest : Forest) (object : ℕ) (on : Bool) → numbers (with_blocked forest object on).rows ≡ numbers forest.rows
  pub by_removed : (forest : Forest) (object : ℕ) → numbers (removed forest object).rows ≡ filter (λ number. not (number == object)) (numbers forest.rows)

-- The object that is found is the first that passes among all objects below another one.
abbrev pub FirstIsFound : Type 0
FirstIsFound = (rows : List Row) (object : ℕ) (passes : ℕ → Bool) → find passes (below_by_depth rows object) ≡ found_below rows object passes
