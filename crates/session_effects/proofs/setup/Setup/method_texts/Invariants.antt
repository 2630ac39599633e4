use Rattle.std.proofs.Common.{◌≡◌, map, take}
use Rattle.class_table.specs.Lookup.{method_text, methods}
use Rattle.session_effects.proofs.setup.Setup.method_texts.Given as goal

abbrev pub invariant-loop-number : goal.invariant-loop-number
invariant-loop-number l = l.texts ≡ map method_text (take l.number (methods l.self.classes l.class))
