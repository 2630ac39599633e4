use Rattle.std.proofs.Common.{◌≡◌, drop, map}
use Rattle.serde_json.specs.View.{view}
use Rattle.class_table.specs.Forms.{method_seen}
use Rattle.class_table.specs.Steps.{each, in_front}
use Rattle.class_table.specs.Written.{signal_in}
use Rattle.class_table.proofs.form.signals_in.Given as goal

abbrev pub invariant-loop-json : goal.invariant-loop-json
invariant-loop-json l = in_front (map method_seen l.methods.items) (each signal_in (map view (drop l.json-index l.array))) ≡ each signal_in (map view l.array)
