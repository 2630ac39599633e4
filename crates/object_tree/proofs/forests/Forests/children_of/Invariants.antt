use Rattle.std.proofs.Common.{◌≡◌, take}
use Rattle.object_tree.specs.Finding.{children_of}
use Rattle.object_tree.specs.Table.{forest_at}
use Rattle.object_tree.proofs.forests.Forests.children_of.Given as goal

abbrev pub invariant-numbers : goal.invariant-numbers
invariant-numbers l = l.found.items ≡ children_of (forest_at l.self l.place).rows (take l.number-index l.level)
