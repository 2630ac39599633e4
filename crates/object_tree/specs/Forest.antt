-- The objects of a place, in trees.
use Rattle.std.specs.Prelude.{ℕ, ◌≡◌, ◌<◌, ◌≤◌, ◌==◌, ◌^◌, List, [], ◌∷◌, Some, IsTrue, length}
use Rattle.std.specs.Ordering.{nat_cmp}
use Rattle.std.specs.List.{All, IsDistinct}
use Rattle.std.specs.List.Sorted.{IsStrictlySortedBy}
use Rattle.object_tree.specs.declared.row.Row.{Row}
use Rattle.object_tree.specs.declared.row.TheConstants.{OBJECTS, DEPTH}
use Rattle.object_tree.specs.Rows.{numbers, stamps, parent_of, is_there}
use Rattle.object_tree.specs.Lines.{line, line_at, depth}

pub record Forest : Type 0 where
  -- The objects, by ascending number.
  pub rows : List Row
  -- The greatest number and the greatest stamp that were given.
  pub last_number : ℕ
  pub last_stamp : ℕ

abbrev pub empty_forest : Forest
empty_forest = record { rows = []; last_number = 0; last_stamp = 0 }

-- What holds for every forest.
pub record IsSound (forest : Forest) : Type 0 where
  -- The numbers ascend from 1, and none is above the last one.
  pub numbers_rise : IsStrictlySortedBy nat_cmp (numbers forest.rows)
  pub numbers_begin : All (λ row. 1 ≤ row.number) forest.rows
  pub numbers_given : All (λ row. row.number ≤ forest.last_number) forest.rows
  pub numbers_fit : forest.last_number < 2 ^ 32
  -- No two stamps are the same, and none is above the last one.
  pub stamps_differ : IsDistinct (λ a b. a == b) (stamps forest.rows)
  pub stamps_given : All (λ row. row.stamp ≤ forest.last_stamp) forest.rows
  pub stamps_fit : forest.last_stamp < 2 ^ 64
  pub objects : length forest.rows ≤ OBJECTS
  -- Every parent exists.
  pub parents : (number parent : ℕ) → parent_of forest.rows number ≡ Some parent → IsTrue (is_there forest.rows parent)
  -- The line of an object is the object and the line of its parent, so it ends at a root.
  pub lines : (number : ℕ) → IsTrue (is_there forest.rows number) → line forest.rows number ≡ number ∷ line_at forest.rows (parent_of forest.rows number)
  pub depths : (number : ℕ) → IsTrue (is_there forest.rows number) → depth forest.rows number ≤ DEPTH
