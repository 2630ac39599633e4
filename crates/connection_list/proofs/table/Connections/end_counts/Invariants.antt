use Rattle.std.proofs.Common.{◌≡◌, ◌+◌, ◌==◌, count_by, drop}
use Rattle.connection_list.specs.Table.{rows_at}
use Rattle.connection_list.proofs.table.Connections.end_counts.Given as goal

-- those that were counted, and those that are yet to be counted
abbrev pub invariant-rows : goal.invariant-rows
invariant-rows l = record {
  sent : l.sent + count_by (λ row. row.sender == l.object) (drop l.position (rows_at l.self l.place).rows)
      ≡ count_by (λ row. row.sender == l.object) (rows_at l.self l.place).rows;
  received : l.received + count_by (λ row. row.receiver == l.object) (drop l.position (rows_at l.self l.place).rows)
      ≡ count_by (λ row. row.receiver == l.object) (rows_at l.self l.place).rows;
}
