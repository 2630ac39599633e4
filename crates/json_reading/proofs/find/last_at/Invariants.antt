use Rattle.std.proofs.Common.{◌≡◌, ◌≤◌, length, take}
use Rattle.serde_json.specs.Find.{get_member}
use Rattle.json_reading.specs.Members.{members_in}
use Rattle.json_reading.proofs.find.last_at.Given as goal

abbrev pub invariant-left : goal.invariant-left
invariant-left l = (get_member l.key (members_in l.members) ≡ get_member l.key (members_in (take l.left l.members))) × (l.left ≤ length l.members)

abbrev pub decreases-left : goal.decreases-left
decreases-left l = l.left
