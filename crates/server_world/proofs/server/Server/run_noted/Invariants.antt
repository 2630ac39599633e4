-- So far each command is a step, and where memory was found its note is right.
use Rattle.std.proofs.Common.{◌≡◌, IsFalse, length, take, vec_len}
use Rattle.std.specs.Vec.{vec_capacity}
use Rattle.server_world.specs.Server.{seen_as, states, was_refused}
use Rattle.server_world.specs.Runs.{AreSteps, tags}
use Rattle.server_world.specs.Noting.{AreNoted}
use Rattle.server_world.proofs.server.Server.run_noted.Given as goal

abbrev pub invariant-loop-given : goal.invariant-loop-given
invariant-loop-given g l = record {
  room : vec_capacity l.entries ≡ length l.list;
  filled : vec_len l.entries ≡ l.given-index;
  steps : AreSteps (seen_as l.initial.self) (tags (take l.given-index l.list)) l.entries.items (seen_as l.self);
  noted : IsFalse (was_refused (seen_as l.self)) → AreNoted (states (seen_as l.initial.self)) (tags (take l.given-index l.list)) (seen_as l.self) l.notes;
}
