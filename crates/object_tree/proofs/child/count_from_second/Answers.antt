use Rattle.std.proofs.Common.{arith, nat_le, rules}
use Rattle.std.proofs.lemmas.Bool.{leb-true, leb-false}
use Rattle.std.proofs.lemmas.List.Sorted.{IsPartitionPoint-from_clause}
use Rattle.object_tree.specs.declared.child.Child.{Child}
use Rattle.object_tree.proofs.ChildLemmas.{parted}
use Rattle.object_tree.proofs.child.count_from_second.Goals as goal

pub returns : goal.returns
returns c =
    let point = IsPartitionPoint-from_clause (λ (child : Child). nat_le c.args.parent child.parent) _ _ c.partition_point.ensures.partitioned
    (parted c.args.children.now.items c.requires c.args.parent) (λ a r q k. search rules) in
    record {
      within = c.partition_point.ensures.bound;
      before = λ k d lt. leb-true _ _ (point.0 k d (omega arith) lt);
      behind = λ k d ge within. leb-false _ _ (point.1 k d ge within);
    }
