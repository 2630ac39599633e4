-- Rows whose numbers rise.
use Rattle.std.proofs.Common.{suc, ◌<◌, List, ◌∷◌, arith}
use Rattle.std.specs.List.{All}
use Rattle.connection_list.specs.declared.connection.Connection.{Connection}
use Rattle.connection_list.specs.Rows.{IsRising}

-- without the first row numbers rise too
pub rising_tail : (row : Connection) (rows : List Connection) → IsRising (row ∷ rows) → IsRising rows
rising_tail row rows rising i j default below in_range = rising (suc i) (suc j) default (omega arith) (omega arith)

-- and the first number is below all others
pub rising_head : (row : Connection) (rows : List Connection) → IsRising (row ∷ rows) → All (λ later. row.number < later.number) rows
rising_head row rows rising k default in_range = rising 0 (suc k) default (omega arith) (omega arith)
