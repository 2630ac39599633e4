use Rattle.std.proofs.Common.{◌≡◌, drop, map}
use Rattle.serde_json.specs.View.{view}
use Rattle.class_table.specs.Forms.{property_seen}
use Rattle.class_table.specs.Steps.{each, in_front}
use Rattle.class_table.specs.Written.{property_in}
use Rattle.class_table.proofs.form.each_property_in.Given as goal

abbrev pub invariant-loop-json : goal.invariant-loop-json
invariant-loop-json l = in_front (map property_seen l.properties.items) (each property_in (map view (drop l.json-index l.array)))
    ≡ each property_in (map view l.array)
