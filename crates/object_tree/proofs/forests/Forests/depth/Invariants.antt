use Rattle.std.proofs.Common.{◌≡◌, ◌+◌, ◌-◌, ◌≤◌, [], length}
use Rattle.std.specs.Option.{option_map_or}
use Rattle.object_tree.specs.Rows.{parent_of}
use Rattle.object_tree.specs.Lines.{depth, walk}
use Rattle.object_tree.specs.Table.{forest_at}
use Rattle.object_tree.proofs.forests.Forests.depth.Given as goal

abbrev pub invariant-levels : goal.invariant-levels
invariant-levels l = (l.depth + length (option_map_or (walk (parent_of (forest_at l.self l.place).rows) (length (forest_at l.self l.place).rows - l._step)) l.at
    []) ≡ depth (forest_at l.self l.place).rows l.number) × (l.depth ≤ l._step)
