use Rattle.std.proofs.Common.{◌≡◌, List, ◌++◌}
use Rattle.serde_json.specs.View.{members_view}
use Rattle.serde_json.proofs.Views.{Entry}
use Rattle.json_reading.specs.Members.{members_in}
use Rattle.json_reading.proofs.tree.map_members.Given as goal

abbrev pub invariant-loop-key : goal.invariant-loop-key
invariant-loop-key l =
    (done : List Entry) × (l.map.entries ≡ done ++ l.key-iterator) × (members_in l.found.items ≡ members_view done)
