use Rattle.std.proofs.Common.{◌≡◌, ◌==◌, suc}
use Rattle.std.specs.List.{list_any}
use Rattle.std.specs.Option.{option_map_or}
use Rattle.class_table.specs.Lookup.{inherited, inherits, line}
use Rattle.class_table.proofs.table.ClassTable.inherits.Given as goal

abbrev pub invariant-loop-next : goal.invariant-loop-next
invariant-loop-next l = list_any (λ at. at == l.base) (inherited (line l.self) l.next) ≡ inherits l.self l.class l.base

abbrev pub decreases-loop-next : goal.decreases-loop-next
decreases-loop-next l = option_map_or suc l.next 0
