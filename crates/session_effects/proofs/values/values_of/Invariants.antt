use Rattle.std.proofs.Common.{◌≡◌, ◌≤◌, drop, length, map}
use Rattle.serde_json.specs.View.{view}
use Rattle.session_model.specs.Signals.{values_of}
use Rattle.session_effects.proofs.ValuesLemmas.{read_behind}
use Rattle.session_effects.proofs.values.values_of.Given as goal

abbrev pub invariant-loop-json : goal.invariant-loop-json
invariant-loop-json l = record {
  within : l.at ≤ length l.kinds;
  rest : read_behind l.is_long l.values (values_of (drop l.at l.kinds) (map view (drop l.json-index l.args))) ≡ values_of l.kinds (map view l.args);
}
