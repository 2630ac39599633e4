use Rattle.std.proofs.Common.{nat_lt, rules, arith}
use Rattle.std.proofs.lemmas.List.Sorted.{IsPartitionPoint-from_clause}
use Rattle.publish_board.specs.declared.listed.Listed.{Listed}
use Rattle.publish_board.proofs.PlaceLemmas.{seat_between, seat_parted}
use Rattle.publish_board.proofs.listed.seat_from.Goals as goal

pub returns : goal.returns
returns c = (
  c.partition_point.ensures.bound,
  IsPartitionPoint-from_clause (λ (listed : Listed). nat_lt listed.place c.args.least) c.args.links.now.items c.partition_point.result
      c.partition_point.ensures.partitioned (seat_parted c.args.links.now.items c.requires c.args.least) (λ a r k called. search rules),
)

pub returns-then-is_ahead : goal.returns-then-is_ahead
returns-then-is_ahead c =
    seat_between c.args.links.now.items c.requires c.args.least c.args.near (omega (arith, c.if-near-len.true, c.len.ensures))
    (c.is_behind.ensures c.if-is_behind.true) (c.is_ahead.ensures c.if-is_ahead.true)
