use Rattle.std.proofs.Common.{length}
use Rattle.json_reading.specs.Members.{members_in}
use Rattle.json_reading.proofs.Reading.{MembersSoFar}
use Rattle.json_reading.proofs.token.rest_of_members.Given as goal

abbrev pub invariant-members : goal.invariant-members
invariant-members l = MembersSoFar 126 (members_in l.found.items) l.initial.reader l.reader

abbrev pub decreases-members : goal.decreases-members
decreases-members l = length l.reader
