use Rattle.std.proofs.Common.{◌≡◌, drop, map}
use Rattle.serde_json.specs.View.{view}
use Rattle.class_table.specs.Forms.{method_seen}
use Rattle.class_table.specs.Steps.{each, in_front}
use Rattle.class_table.specs.Written.{slot_in}
use Rattle.class_table.proofs.form.slots_in.Given as goal

abbrev pub invariant-loop-json : goal.invariant-loop-json
invariant-loop-json l = in_front (map method_seen l.methods.items) (each slot_in (map view (drop l.json-index l.array)))
    ≡ in_front (map method_seen l.initial.methods.items) (each slot_in (map view l.array))
