use Rattle.std.proofs.Common.{arith, ◌∙◌, ap, sym, get_or, not, rules}
use Rattle.std.proofs.Math.Bool.{not-not}
use Rattle.std.proofs.lemmas.Grind.{common_steps}
use Rattle.std.proofs.lemmas.List.Sorted.{IsPartitionPoint-from_clause}
use Rattle.shared_rows.specs.Links.{IsInOrder}
use Rattle.connection_list.specs.Routes.{is_before, is_past, link_cmp}
use Rattle.connection_list.proofs.LinkLemmas.{before_parted, inside_same, past_parted}
use Rattle.connection_list.proofs.link.group_of.Goals as goal

pub returns : goal.returns
returns c =
    let items = c.as_buffer-all.result.now.items in
    let order : IsInOrder link_cmp items = rw c.as_buffer-all.ensures.links c.as_buffer-all.ensures.sound in
    let front = IsPartitionPoint-from_clause (is_before c.args.object c.args.source c.args.marks) items c.partition_point.result
    c.partition_point.ensures.partitioned (before_parted items order c.args.object c.args.source c.args.marks) (λ a r k called. search rules) in
    let back = IsPartitionPoint-from_clause (λ link. not (is_past c.args.object c.args.source c.args.marks link)) items c.partition_point-2.result
    c.partition_point-2.ensures.partitioned (past_parted items order c.args.object c.args.source c.args.marks) (λ a r k called. search rules) in
    record {
      received = search rules;
      object = search rules;
      within = grind (arith, common_steps);
      before = rw (← c.as_buffer-all.ensures.links) front.0;
      inside = rw (← c.as_buffer-all.ensures.links) (λ k d low high. inside_same c.args.object c.args.source c.args.marks (get_or items k d)
          (front.1 k d low (omega arith)) (back.0 k d (omega arith) high));
      past = rw (← c.as_buffer-all.ensures.links) (λ k d low high. sym (not-not _) ∙ ap not (back.1 k d low high));
    }
