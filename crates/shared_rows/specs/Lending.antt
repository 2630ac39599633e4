-- A `&mut` into a table.
use Rattle.std.specs.Prelude.{ℕ}
use Rattle.std.specs.Borrow.{Lends, MutBor, Fml, RattleType}
use Rattle.shared_rows.specs.Table.{Table, with_place}
use Rattle.shared_rows.specs.contracts.table.Places.{the_row}

-- The table ends with the last value of the borrow `value` at the place.
abbrev pub LendsPlace : (T : RattleType) → MutBor (Table T.Denot) → ℕ → MutBor T.Denot → Fml
LendsPlace T table place value = Lends (the_row T) T table value (with_place table.now place)
