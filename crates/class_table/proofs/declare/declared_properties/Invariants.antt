use Rattle.std.proofs.Common.{◌≡◌, drop, map}
use Rattle.class_table.specs.Declaring.{property_of}
use Rattle.class_table.specs.Forms.{property_seen}
use Rattle.class_table.specs.Lookup.{methods}
use Rattle.class_table.specs.Signed.{signed_seen}
use Rattle.class_table.specs.Steps.{each, in_front}
use Rattle.class_table.proofs.declare.declared_properties.Given as goal

abbrev pub invariant-loop-form : goal.invariant-loop-form
invariant-loop-form l = in_front l.properties.items
    (each (property_of (methods l.table l.base) (map signed_seen l.signed)) (map property_seen (drop l.form-index l.forms)))
    ≡ each (property_of (methods l.table l.base) (map signed_seen l.signed)) (map property_seen l.forms)
