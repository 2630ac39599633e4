use Rattle.object_tree.proofs.ChildLemmas.{group_between, group_order}
use Rattle.object_tree.proofs.child.group.Goals as goal

pub returns : goal.returns
returns c =
    let starts = c.start_of-start.ensures in
    let ends = c.count_from-end.ensures in
    record {
      kids = group_between c.args.all.now.items c.args.parent c.start_of-start.result c.count_from-end.result starts ends;
      within = record {
        order = group_order c.args.all.now.items c.args.parent c.start_of-start.result c.count_from-end.result starts ends;
        within = ends.within;
      };
    }
