use Rattle.std.proofs.Common.{◌≡◌, ◌-◌, ◌≤◌, Some, map, max}
use Rattle.std.specs.List.{slice_range}
use Rattle.object_tree.specs.declared.child.Child.{Child}
use Rattle.object_tree.specs.Rows.{children}
use Rattle.object_tree.specs.Lines.{greatest, levels_within}
use Rattle.object_tree.specs.Table.{forest_at}
use Rattle.object_tree.proofs.forests.Forests.+levels_within.Given as goal

abbrev pub decreases-levels_within : goal.decreases-levels_within
decreases-levels_within l = l.most

abbrev pub invariant-kids : goal.invariant-kids
invariant-kids l = (max l.below (greatest
    (map (levels_within (l.most - 1) (forest_at l.self l.place).rows)
    (map (λ (child : Child). child.number) (slice_range l.kids.all.now.items l.at l.kids.end))))
    ≡ greatest (map (levels_within (l.most - 1) (forest_at l.self l.place).rows) (children (forest_at l.self l.place).rows (Some l.number))))
    × (l.below ≤ l.most - 1)
