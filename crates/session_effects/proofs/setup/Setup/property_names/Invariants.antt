use Rattle.std.proofs.Common.{◌≡◌, take}
use Rattle.class_table.specs.Lookup.{names, properties}
use Rattle.session_effects.proofs.setup.Setup.property_names.Given as goal

abbrev pub invariant-loop-number : goal.invariant-loop-number
invariant-loop-number l = l.found ≡ names (take l.number (properties l.self.classes l.class))
