use Rattle.std.proofs.Common.{◌<◌, ◌==◌, arith, length}
use Rattle.shared_rows.specs.Rows as shared
use Rattle.connection_list.specs.declared.connection.Connection.{Connection}
use Rattle.connection_list.proofs.ListingLemmas.{counted_all, counted_few, counted_more}
use Rattle.connection_list.proofs.SeenLemmas.{seen_anyhow}
use Rattle.connection_list.proofs.table.Connections.end_counts.Goals as goal

pub len-position-end-requires : goal.len-position-end-requires
len-position-end-requires c = (seen_anyhow c.self.invariant c.self.view_is c.requires).rows_place

pub rows-init : goal.rows-init
rows-init c = record { sent = omega arith; received = omega arith }

pub overflow_add-sent : goal.overflow_add-sent
overflow_add-sent c =
    omega (
      arith,
      counted_few (seen_anyhow c.self.invariant c.self.view_is c.requires) (λ (row : Connection). row.sender == c.args.object) c.rows.position _
          c.rows.sent _ c.at.result.1.now c.at.ensures (omega arith) c.one_where-sent.ensures
          c.rows.invariant.sent,
    )

pub overflow_add-received : goal.overflow_add-received
overflow_add-received c =
    omega (
      arith,
      counted_few (seen_anyhow c.self.invariant c.self.view_is c.requires) (λ (row : Connection). row.receiver == c.args.object) c.rows.position _
          c.rows.received _ c.at.result.1.now c.at.ensures (omega arith) c.one_where-received.ensures
          c.rows.invariant.received,
    )

pub rows-preserved : goal.rows-preserved
rows-preserved c =
    let seen = seen_anyhow c.self.invariant c.self.view_is c.requires in
    let within : c.rows.position < length (shared.rows_at c.self.inside.rows c.args.place) = omega arith in
    record {
      sent = counted_more seen (λ (row : Connection). row.sender == c.args.object) c.rows.position _ c.rows.sent _ c.at.result.1.now c.at.ensures within
          c.one_where-sent.ensures c.rows.invariant.sent;
      received = counted_more seen (λ (row : Connection). row.receiver == c.args.object) c.rows.position _ c.rows.received _ c.at.result.1.now c.at.ensures
          within c.one_where-received.ensures c.rows.invariant.received;
    }

pub returns-clause-sent : goal.returns-clause-sent
returns-clause-sent c =
    counted_all (seen_anyhow c.self.invariant c.self.view_is c.requires) (λ (row : Connection). row.sender == c.args.object) c.rows.position c.rows.sent
    (omega arith) c.rows.invariant.sent

pub returns-clause-received : goal.returns-clause-received
returns-clause-received c =
    counted_all (seen_anyhow c.self.invariant c.self.view_is c.requires) (λ (row : Connection). row.receiver == c.args.object) c.rows.position c.rows.received
    (omega arith) c.rows.invariant.received
