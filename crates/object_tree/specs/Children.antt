-- How the objects of the places are stored. No public clause cites this module.
use Rattle.std.specs.Prelude.{ℕ, ◌≡◌, ◌<◌, ◌≤◌, List, Option, None, Some, length, map, slice_index_or}
use Rattle.std.specs.List.{slice_range}
use Rattle.std.specs.Ordering.{flip_args, nat_cmp, on, then_cmp}
use Rattle.std.specs.declared.cmp.Ordering.{Ordering}
use Rattle.shared_rows.specs.Table.{Table}
use Rattle.shared_rows.specs.Rows.{Keyed, rows_at}
use Rattle.shared_rows.specs.Links.{AreLinked}
use Rattle.object_tree.specs.declared.row.Row.{Row}
use Rattle.object_tree.specs.declared.child.Child.{Child}
use Rattle.object_tree.specs.declared.child.Kids.{Kids}
use Rattle.object_tree.specs.declared.forests.Kinship.{Kinship}
use Rattle.object_tree.specs.Forest.{Forest, IsSound}

-- The number of a parent; 0 if there is none, since no object has number 0.
abbrev pub order_of : Option ℕ → ℕ
order_of None = 0
order_of (Some number) = number

-- The entry of a row among the children of all parents.
abbrev pub child_of : Row → Child
child_of row = record { stamp = row.stamp; parent = order_of row.parent; number = row.number }

-- Children of later parents come first, the roots last, and the children of one parent by age.
abbrev pub child_cmp : Child → Child → Ordering
child_cmp = then_cmp (then_cmp (on (λ child. child.parent) (flip_args nat_cmp)) (on (λ child. child.stamp) nat_cmp)) (on (λ child. child.number) nat_cmp)

-- The children from the first place up to the last one.
abbrev pub kids_of : Kids → List Child
kids_of kids = slice_range kids.all.now.items kids.start kids.end

-- Both places are within the list of all children, in order.
pub record AreWithin (kids : Kids) : Type 0 where
  pub order : kids.start ≤ kids.end
  pub within : kids.end ≤ length kids.all.now.items

-- This many children have this parent or a later one, and come before all others.
pub record IsCountFrom (children : List Child) (parent count : ℕ) : Type 0 where
  pub within : count ≤ length children
  pub before : (k : ℕ) (default : Child) → k < count → parent ≤ (slice_index_or children k default).parent
  pub behind : (k : ℕ) (default : Child) → count ≤ k → k < length children → (slice_index_or children k default).parent < parent

-- The rows without their keys.
abbrev pub rows_of : List (Keyed Row) → List Row
rows_of keyed = map (λ (k : Keyed Row). k.row) keyed

abbrev pub forest_of : List (Keyed Row) → Kinship → Forest
forest_of keyed kinship = record { rows = rows_of keyed; last_number = kinship.last_number; last_stamp = kinship.last_stamp }

-- The children of all parents belong to the rows of a place, whose forest is sound.
pub record IsPlaceKept (keyed : List (Keyed Row)) (kinship : Kinship) : Type 0 where
  pub linked : AreLinked child_of (rows_of keyed) kinship.children.links
  pub sound : IsSound (forest_of keyed kinship)

-- Both tables have the same places.
pub record IsKept (rows : Table (List (Keyed Row))) (kinships : Table Kinship) : Type 0 where
  pub same : length rows.places ≡ length kinships.places
  pub each : (place : ℕ) (default : Kinship) → place < length kinships.places → IsPlaceKept (rows_at rows place) (slice_index_or kinships.places place default)
