use Rattle.std.proofs.Common.{ap, ◌≡◌, ◌<◌, ℕ, Some, length, subst}
use Rattle.session_engine.proofs.Common.{EngineState, place, seen_engine}
use Rattle.session_engine.specs.Core.{name_at, names}
use Rattle.session_engine.proofs.engine.Engine.len.Goals as goal

pub returns-clause-named : goal.returns-clause-named
returns-clause-named g c = subst (λ (engine : EngineState). (at : ℕ) → at < length (names engine) → place engine (name_at engine at) ≡ Some at)
    (ap seen_engine c.self.view_is) c.self.invariant.named
