use Rattle.std.proofs.Common.{◌≡◌, map, take}
use Rattle.class_table.specs.Lookup.{properties}
use Rattle.session_model.specs.State.{field_of}
use Rattle.session_effects.proofs.class_layouts.fields.Given as goal

abbrev pub invariant-loop-number : goal.invariant-loop-number
invariant-loop-number l = l.fields ≡ map field_of (take l.number (properties l.classes l.class))
