-- A forest for each place.
use Rattle.std.specs.Prelude.{ℕ, slice_index_or}
use Rattle.shared_rows.specs.Table as places
use Rattle.shared_rows.specs.Table.{Table}
use Rattle.object_tree.specs.Forest.{Forest, empty_forest}

-- The forest at a place.
abbrev pub forest_at : Table Forest → ℕ → Forest
forest_at table place = slice_index_or table.places place empty_forest

-- The table with a different forest at a place.
abbrev pub with_forest : Table Forest → ℕ → Forest → Table Forest
with_forest table place forest = places.with_place table place forest
