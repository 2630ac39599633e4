use Rattle.std.proofs.Common.{◌≡◌, ◌-◌, ◌++◌, length}
use Rattle.object_tree.specs.Finding.{below_by_depth, levels_from}
use Rattle.object_tree.specs.Table.{forest_at}
use Rattle.object_tree.proofs.forests.Forests.below.Given as goal

-- the levels so far, and then those that are left
abbrev pub invariant-levels : goal.invariant-levels
invariant-levels l =
    l.found.items ++ levels_from (length (forest_at l.self l.place).rows - l._step) (forest_at l.self l.place).rows l.level.items
    ≡ below_by_depth (forest_at l.self l.place).rows l.object
