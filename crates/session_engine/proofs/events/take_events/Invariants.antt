use Rattle.std.proofs.Common.{◌<◌, ◌+◌, ◌^◌, ◌∷◌, []}
use Rattle.session_engine.proofs.Common.{Spin, IsPlaced, here}
use Rattle.dispatch.proofs.ForCallers.{SoFar}
use Rattle.session_engine.proofs.events.take_events.Given as goal

-- so far events were taken, each with a turn, and those that are left are still to be taken
abbrev pub invariant-events : goal.invariant-events
invariant-events g l = record {
  so : SoFar l.actor.caller (here l.actor.caller (Spin ∷ []) l.fn.tables l.fn.output)
      (here l.actor.caller (Spin ∷ []) l.tables l.output) l.fn.tables l.tables l.fn.output l.output;
  placed : IsPlaced l.tables l.actor.caller.place;
  few : l.output.turns + l.output.taken < 2 ^ 32;
}

abbrev pub decreases-events : goal.decreases-events
decreases-events g l = l.output.turns
