use Rattle.std.proofs.Common.{◌≡◌, suc}
use Rattle.std.specs.Option.{option_map_or}
use Rattle.class_table.specs.Lookup.{inherited, method_number, methods}
use Rattle.class_table.proofs.table.ClassTable.method.Given as goal

abbrev pub invariant-loop-next : goal.invariant-loop-next
invariant-loop-next l = method_number l.signature (inherited (methods l.self) l.next) ≡ method_number l.signature (methods l.self l.class)

abbrev pub decreases-loop-next : goal.decreases-loop-next
decreases-loop-next l = option_map_or suc l.next 0
