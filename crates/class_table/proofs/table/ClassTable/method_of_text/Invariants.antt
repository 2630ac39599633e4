use Rattle.std.proofs.Common.{◌≡◌, ◌++◌, List, suc}
use Rattle.std.specs.Option.{option_map_or}
use Rattle.class_table.specs.declared.class.Method.{Method}
use Rattle.class_table.specs.Lookup.{inherited, methods}
use Rattle.class_table.proofs.table.ClassTable.method_of_text.Given as goal

-- The methods that are still to be looked at come first.
abbrev pub invariant-loop-next : goal.invariant-loop-next
invariant-loop-next l = (more : List Method) × (methods l.self l.class ≡ inherited (methods l.self) l.next ++ more)

abbrev pub decreases-loop-next : goal.decreases-loop-next
decreases-loop-next l = option_map_or suc l.next 0
