use Rattle.std.proofs.Common.{ap, subst, true, ◌∙◌}
use Rattle.session_engine.proofs.Common.{EngineState, engine_state, place, seen_by_name, Fails}
use Rattle.session_engine.proofs.ChangedLemmas.{fails_now, whole_failed}
use Rattle.session_engine.proofs.engine.Core.give_up.Goals as goal

pub invariant_of-self : goal.invariant_of-self
invariant_of-self c = whole_failed _ c.give_up.new.self c.args.at c.requires.0 c.self.invariant
    (ap (λ engine. place engine c.requires.0) c.self.view_is ∙ c.requires.1) c.give_up.ensures

pub returns-clause-fails : goal.returns-clause-fails
returns-clause-fails c = λ name there.
    subst (λ (engine : EngineState). Fails (seen_by_name engine)
    (seen_by_name (engine_state c.self.inside.setup c.self.inside.names.keys c.give_up.new.self true)) name) c.self.view_is
    (fails_now _ c.give_up.new.self c.args.at name c.self.invariant
    (ap (λ engine. place engine name) c.self.view_is ∙ there) c.give_up.ensures)
