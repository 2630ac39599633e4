use Rattle.std.proofs.Common.{rules}
use Rattle.std.proofs.lemmas.List.Sorted.{IsPartitionPoint-from_clause}
use Rattle.shared_rows.specs.Links.{IsInOrder}
use Rattle.binding_values.specs.Readers.{edge_cmp, is_ahead}
use Rattle.binding_values.proofs.ReaderLemmas.{ahead_parted}
use Rattle.binding_values.proofs.readers.Readers.start_of.Goals as goal

pub returns-then-is_start : goal.returns-then-is_start
returns-then-is_start c = rw (← c.self.view_is) (c.is_start.ensures c.if-is_start.true)

pub returns : goal.returns
returns c =
    let items = c.as_buffer-all.result.now.items in
    let order : IsInOrder edge_cmp items = rw c.as_buffer-all.ensures.links c.as_buffer-all.ensures.sound in
    rw (← c.self.view_is, ← c.as_buffer-all.ensures.links) (IsPartitionPoint-from_clause
    (is_ahead c.args.read) items c.partition_point.result c.partition_point.ensures.partitioned
    (ahead_parted items order c.args.read) (λ a r k called. search rules))
