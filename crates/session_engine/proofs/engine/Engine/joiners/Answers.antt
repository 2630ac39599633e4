use Rattle.std.proofs.Common.{ap, subst}
use Rattle.std.specs.Prelude.{IfOk}
use Rattle.session_engine.proofs.Common.{EngineState, seen_engine}
use Rattle.session_engine.specs.Core.{AreJoinersOf}
use Rattle.session_engine.proofs.JoiningLemmas.{if_joiners}
use Rattle.session_engine.proofs.engine.Engine.joiners.Goals as goal

pub returns : goal.returns
returns g c = subst (λ (engine : EngineState). IfOk c.joiners.result (λ places. AreJoinersOf engine c.args.from.now places.items))
    (ap seen_engine c.self.view_is)
    (if_joiners _ c.args.from.now (λ places. places.items) c.joiners.result c.self.invariant c.joiners.ensures)
