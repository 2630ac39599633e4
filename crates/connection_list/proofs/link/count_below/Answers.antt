use Rattle.std.proofs.Common.{rules}
use Rattle.std.specs.Ordering.{is_lt}
use Rattle.std.proofs.lemmas.List.Sorted.{IsPartitionPoint-from_clause}
use Rattle.shared_rows.specs.Links.{IsInOrder}
use Rattle.shared_rows.proofs.ForCallers.{below_parted}
use Rattle.connection_list.specs.Routes.{link_cmp}
use Rattle.connection_list.proofs.LinkLemmas.{link_total}
use Rattle.connection_list.proofs.link.count_below.Goals as goal

pub returns : goal.returns
returns c =
    let items = c.as_buffer-all.result.now.items in
    let order : IsInOrder link_cmp items = rw c.as_buffer-all.ensures.links c.as_buffer-all.ensures.sound in
    rw (← c.as_buffer-all.ensures.links) (IsPartitionPoint-from_clause
    (λ other. is_lt (link_cmp other c.args.link)) items c.partition_point.result c.partition_point.ensures.partitioned
    (below_parted link_total items order c.args.link) (λ a r k called. search rules))

pub returns-then-is_parted : goal.returns-then-is_parted
returns-then-is_parted c = c.is_parted.ensures c.if-is_parted.true
