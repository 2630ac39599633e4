use Rattle.std.proofs.Common.{◌≡◌, take}
use Rattle.publish_board.specs.Table.{desk_at}
use Rattle.session_model.specs.Arriving.{posts_by}
use Rattle.session_tables.specs.Reaching.{Reaches}
use Rattle.session_tables.specs.Tables.{state_at}
use Rattle.session_tables.proofs.tables.Tables.deliver.Given as goal

-- so far the publications below this one are posted
abbrev pub invariant-publications : goal.invariant-publications
invariant-publications l = record {
  reaches : Reaches l.sending.classes.now l.sending.from.now l.sending.place
      (posts_by l.sending.object l.sending.signal l.sending.kinds.now l.sending.args.now (take l.index (desk_at l.fn.self.desks l.sending.place).publications))
      l.fn.self l.self l.fn.failing l.failing;
  own : state_at l.self l.sending.place ≡ state_at l.fn.self l.sending.place;
}
