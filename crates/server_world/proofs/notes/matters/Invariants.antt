-- So far no joiner is a member.
use Rattle.std.proofs.Common.{◌≡◌, false, take, get_or}
use Rattle.std.specs.List.{list_any}
use Rattle.server_world.proofs.notes.matters.Given as goal

abbrev pub invariant-loop-place : goal.invariant-loop-place
invariant-loop-place l = list_any (λ place. get_or l.members place false) (take l.place-index l.joiners) ≡ false
