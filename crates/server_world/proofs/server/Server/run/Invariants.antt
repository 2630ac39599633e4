-- So far each command is a step.
use Rattle.std.proofs.Common.{◌≡◌, length, take, vec_len}
use Rattle.std.specs.Vec.{vec_capacity}
use Rattle.server_world.specs.Server.{seen_as}
use Rattle.server_world.specs.Runs.{AreSteps, tags}
use Rattle.server_world.proofs.server.Server.run.Given as goal

abbrev pub invariant-loop-given : goal.invariant-loop-given
invariant-loop-given g l = record {
  room : vec_capacity l.entries ≡ length l.list;
  filled : vec_len l.entries ≡ l.given-index;
  steps : AreSteps (seen_as l.initial.self) (tags (take l.given-index l.list)) l.entries.items (seen_as l.self);
}
