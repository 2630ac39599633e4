use Rattle.std.proofs.Common.{◌≡◌, map, take, string_bytes}
use Rattle.class_table.specs.Lookup.{method_text, methods}
use Rattle.class_table.proofs.table.ClassTable.methods.Given as goal

abbrev pub invariant-loop-number : goal.invariant-loop-number
invariant-loop-number l = map (λ text. string_bytes text) l.texts.items ≡ map method_text (take l.number (methods l.self l.class))
