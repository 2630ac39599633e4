-- What contracts see of the connections of all places.
use Rattle.std.specs.Prelude.{ℕ, slice_index_or}
use Rattle.shared_rows.specs.Table.{Table, with_place}
use Rattle.connection_list.specs.Rows.{Rows, no_rows}

-- The connections of a place.
abbrev pub rows_at : Table Rows → ℕ → Rows
rows_at table place = slice_index_or table.places place no_rows

-- The table with different connections at a place.
abbrev pub with_rows : Table Rows → ℕ → Rows → Table Rows
with_rows table place rows = with_place table place rows
