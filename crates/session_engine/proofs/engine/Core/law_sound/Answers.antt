use Rattle.std.proofs.Common.{subst}
use Rattle.session_engine.proofs.Common.{EngineState, seen_by_name, AreSound}
use Rattle.session_engine.specs.Sessions.{AreWell}
use Rattle.session_engine.proofs.EngineLemmas.{kept_by_name, sound_by_name}
use Rattle.session_engine.proofs.engine.Core.law_sound.Goals as goal

pub returns-clause-well : goal.returns-clause-well
returns-clause-well c = subst (λ (engine : EngineState). AreWell (seen_by_name engine)) c.self.view_is
    (λ found name. (kept_by_name _ name c.self.invariant).well found)

pub returns-clause-sound : goal.returns-clause-sound
returns-clause-sound c = subst (λ (engine : EngineState). AreSound (seen_by_name engine)) c.self.view_is (sound_by_name _ c.self.invariant)
