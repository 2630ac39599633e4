use Rattle.std.proofs.Common.{◌≡◌, suc}
use Rattle.std.specs.Option.{option_map_or, option_or}
use Rattle.class_table.specs.Lookup.{inherited, properties, property_number}
use Rattle.class_table.proofs.table.ClassTable.property.Given as goal

abbrev pub invariant-loop-next : goal.invariant-loop-next
invariant-loop-next l = option_or (property_number l.name (inherited (properties l.self) l.next)) l.found ≡ property_number l.name (properties l.self l.class)

abbrev pub decreases-loop-next : goal.decreases-loop-next
decreases-loop-next l = option_map_or suc l.next 0
