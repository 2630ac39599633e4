use Rattle.std.proofs.Common.{[], length}
use Rattle.shared_rows.specs.Table.{ChangesAt, IsPlace}
use Rattle.shared_rows.specs.Rows.{rows_at}
use Rattle.shared_rows.proofs.rows.SharedRows.clear.Given as goal

abbrev pub invariant-rows : goal.invariant-rows
invariant-rows g l = record { place : IsPlace l.self l.place; changed : ChangesAt [] l.place l.initial.self l.self }

abbrev pub decreases-rows : goal.decreases-rows
decreases-rows g l = length (rows_at l.self l.place)
