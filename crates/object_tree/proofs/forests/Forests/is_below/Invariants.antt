use Rattle.std.proofs.Common.{◌≡◌, ◌-◌, ◌==◌, [], length}
use Rattle.std.specs.List.{list_any}
use Rattle.std.specs.Option.{option_map_or}
use Rattle.object_tree.specs.Rows.{parent_of}
use Rattle.object_tree.specs.Lines.{is_below, walk}
use Rattle.object_tree.specs.Table.{forest_at}
use Rattle.object_tree.proofs.forests.Forests.is_below.Given as goal

abbrev pub invariant-levels : goal.invariant-levels
invariant-levels l = list_any (λ above. l.base == above)
    (option_map_or (walk (parent_of (forest_at l.self l.place).rows) (length (forest_at l.self l.place).rows - l._step)) l.at [])
    ≡ is_below (forest_at l.self l.place).rows l.base l.number
