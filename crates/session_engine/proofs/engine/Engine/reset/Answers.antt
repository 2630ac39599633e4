use Rattle.std.proofs.Common.{ap, subst, ◌∙◌}
use Rattle.session_engine.proofs.Common.{EngineState, engine_state, place, seen_by_name, seen_engine}
use Rattle.session_engine.specs.Items.{BeginsAnew}
use Rattle.session_engine.proofs.ChangedLemmas.{begins_anew, whole_anew}
use Rattle.session_engine.proofs.engine.Engine.reset.Goals as goal

pub invariant_of-self : goal.invariant_of-self
invariant_of-self g c =
    whole_anew _ c.renew.new.self c.args.at c.requires.0 c.self.invariant
    (ap (λ engine. place engine c.requires.0) (ap seen_engine c.self.view_is) ∙ c.requires.1) c.renew.ensures

pub returns-clause-anew : goal.returns-clause-anew
returns-clause-anew g c = λ name there.
    subst (λ (engine : EngineState). BeginsAnew (seen_by_name engine)
    (seen_by_name (engine_state c.self.inside.0.0.setup c.self.inside.0.0.names.keys c.renew.new.self c.self.inside.0.0.memory_refused)) name)
    (ap seen_engine c.self.view_is)
    (begins_anew _ c.renew.new.self c.args.at name c.self.invariant (ap (λ engine. place engine name) (ap seen_engine c.self.view_is) ∙ there) c.renew.ensures)
