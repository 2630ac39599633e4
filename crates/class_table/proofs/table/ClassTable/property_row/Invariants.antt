use Rattle.std.proofs.Common.{◌≡◌, ◌++◌, List, suc, slice_get}
use Rattle.std.specs.Option.{option_map_or}
use Rattle.class_table.specs.declared.class.Method.{Method}
use Rattle.class_table.specs.Lookup.{inherited, methods, properties}
use Rattle.class_table.proofs.table.ClassTable.property_row.Given as goal

-- What is looked for is with the superclass, whose methods come first.
abbrev pub invariant-loop-next : goal.invariant-loop-next
invariant-loop-next l = record {
  same : slice_get (inherited (properties l.self) l.next) l.number ≡ slice_get (properties l.self l.class) l.number;
  front : (more : List Method) × (methods l.self l.class ≡ inherited (methods l.self) l.next ++ more);
}

abbrev pub decreases-loop-next : goal.decreases-loop-next
decreases-loop-next l = option_map_or suc l.next 0
