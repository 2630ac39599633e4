use Rattle.std.proofs.Common.{◌≡◌, drop, map, take}
use Rattle.serde_json.specs.Data.{object}
use Rattle.json_reading.specs.Members.{members_in}
use Rattle.wire_commands.specs.Held.{all_held, held_seen}
use Rattle.wire_commands.specs.Keys.{key_seen}
use Rattle.wire_commands.proofs.HeldLemmas.{in_front}
use Rattle.wire_commands.proofs.held.held_by.Given as goal

abbrev pub invariant-loop-place : goal.invariant-loop-place
invariant-loop-place l = in_front (map held_seen (take l.place l.room)) (all_held (object (members_in l.members)) (map key_seen (drop l.place l.keys)))
    ≡ all_held (object (members_in l.members)) (map key_seen l.keys)
