use Rattle.std.proofs.Common.{◌≡◌, map, take, string_bytes}
use Rattle.class_table.specs.Lookup.{names, properties}
use Rattle.class_table.proofs.table.ClassTable.properties.Given as goal

abbrev pub invariant-loop-number : goal.invariant-loop-number
invariant-loop-number l = map (λ text. string_bytes text) l.texts.items ≡ names (take l.number (properties l.self l.class))
