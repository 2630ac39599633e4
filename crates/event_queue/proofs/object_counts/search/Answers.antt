use Rattle.std.proofs.Common.{◌∙◌, ap, arith, nat_lt, rules}
use Rattle.std.proofs.lemmas.List.Sorted.{IsPartitionPoint-from_clause}
use Rattle.event_queue.specs.declared.object_counts.Entry.{Entry}
use Rattle.event_queue.proofs.EntryLemmas.{is_between, is_there, lower_parted}
use Rattle.event_queue.proofs.object_counts.search.Goals as goal

pub returns-then-at-len : goal.returns-then-at-len
returns-then-at-len c =
    let point = IsPartitionPoint-from_clause (λ (entry : Entry). nat_lt entry.object c.args.object) c.args.entries.now.items c.partition_point-at.result
    c.partition_point-at.ensures.partitioned (lower_parted c.args.entries.now.items c.args.object c.requires) (λ a r k called. search rules) in
    is_between c.args.entries.now.items c.args.object c.requires c.partition_point-at.result c.partition_point-at.ensures.bound point
    (λ d within same. absurd (omega arith))

pub returns-then-there-object : goal.returns-then-there-object
returns-then-there-object c =
    is_there c.args.entries.now.items c.args.object c.requires c.partition_point-at.result c.get-there.result
    (omega arith) c.get-there.ensures c.if-there-object.true

pub returns-else-there-object : goal.returns-else-there-object
returns-else-there-object c =
    let point = IsPartitionPoint-from_clause (λ (entry : Entry). nat_lt entry.object c.args.object) c.args.entries.now.items c.partition_point-at.result
    c.partition_point-at.ensures.partitioned (lower_parted c.args.entries.now.items c.args.object c.requires) (λ a r k called. search rules) in
    is_between c.args.entries.now.items c.args.object c.requires c.partition_point-at.result c.partition_point-at.ensures.bound point
    (λ d within same. c.if-there-object.false (ap (λ (entry : Entry). entry.object) (c.get-there.ensures d) ∙ same))
