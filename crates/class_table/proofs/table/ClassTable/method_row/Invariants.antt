use Rattle.std.proofs.Common.{◌≡◌, suc, slice_get}
use Rattle.std.specs.Option.{option_map_or}
use Rattle.class_table.specs.Lookup.{inherited, methods}
use Rattle.class_table.proofs.table.ClassTable.method_row.Given as goal

abbrev pub invariant-loop-next : goal.invariant-loop-next
invariant-loop-next l = slice_get (inherited (methods l.self) l.next) l.number ≡ slice_get (methods l.self l.class) l.number

abbrev pub decreases-loop-next : goal.decreases-loop-next
decreases-loop-next l = option_map_or suc l.next 0
