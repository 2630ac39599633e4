use Rattle.std.proofs.Common.{◌≡◌, map, take}
use Rattle.serde_json.specs.View.{view}
use Rattle.json_reading.specs.Members.{scalar_data}
use Rattle.json_reading.proofs.copy.list_json.Given as goal

abbrev pub invariant-loop-scalar : goal.invariant-loop-scalar
invariant-loop-scalar l = map view l.items.items ≡ map scalar_data (take l.scalar-index l.scalars)
