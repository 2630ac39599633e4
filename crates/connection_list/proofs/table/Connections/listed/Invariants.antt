use Rattle.std.proofs.Common.{◌≡◌, ◌++◌, ◌≤◌, drop, filter, length}
use Rattle.connection_list.specs.Rows.{is_listed}
use Rattle.connection_list.specs.Table.{rows_at}
use Rattle.connection_list.proofs.table.Connections.listed.Given as goal

-- those that were found, and then those that are yet to be found
abbrev pub invariant-rows : goal.invariant-rows
invariant-rows l = record {
  all : l.found ++ filter (is_listed l.object l.after) (drop l.position (rows_at l.self l.place).rows)
      ≡ filter (is_listed l.object l.after) (rows_at l.self l.place).rows;
  few : length l.found ≤ 1000;
}
