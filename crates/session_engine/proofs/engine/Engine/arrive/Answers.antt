use Rattle.std.proofs.Common.{ap, sym, subst, refl, true, ◌∙◌}
use Rattle.std.specs.Result.{result_ok}
use Rattle.session_engine.proofs.Common.{EngineState, engine_state, place, seen_by_name, HasArrived, seen_engine}
use Rattle.session_engine.proofs.ChangedLemmas.{has_arrived, on_err, on_err_found, on_ok, on_ok_failed, whole_arrived}
use Rattle.session_engine.proofs.engine.Engine.arrive.Goals as goal

pub invariant_of-self : goal.invariant_of-self
invariant_of-self g c =
    whole_arrived _ c.arrive-arrived.new.self true c.args.at c.requires.there.0 c.args.from.now c.args.post.now c.arrive-arrived.result c.self.invariant
    c.requires.right (ap (λ engine. place engine c.requires.there.0) (ap seen_engine c.self.view_is) ∙ c.requires.there.1)
    c.arrive-arrived.ensures.only c.arrive-arrived.ensures.ok c.arrive-arrived.ensures.err
    (on_ok_failed _ c.arrive-arrived.result (sym c.if-is_err.ensures.value)) (on_err c.arrive-arrived.result refl)

pub invariant_of-self-else-is_err : goal.invariant_of-self-else-is_err
invariant_of-self-else-is_err g c =
    whole_arrived _ c.arrive-arrived.new.self c.self.inside.0.0.memory_refused c.args.at c.requires.there.0 c.args.from.now c.args.post.now
    c.arrive-arrived.result c.self.invariant c.requires.right
    (ap (λ engine. place engine c.requires.there.0) (ap seen_engine c.self.view_is) ∙ c.requires.there.1)
    c.arrive-arrived.ensures.only c.arrive-arrived.ensures.ok c.arrive-arrived.ensures.err (on_ok c.arrive-arrived.result refl)
    (on_err_found _ c.arrive-arrived.result (sym c.if-is_err.ensures.value))

pub returns-then-is_err-clause-arrives : goal.returns-then-is_err-clause-arrives
returns-then-is_err-clause-arrives g c = λ name there.
    subst (λ (engine : EngineState). HasArrived (seen_by_name engine)
    (seen_by_name (engine_state c.self.inside.0.0.setup c.self.inside.0.0.names.keys c.arrive-arrived.new.self true)) name c.args.from.now c.args.post.now
    (result_ok c.arrive-arrived.result)) (ap seen_engine c.self.view_is)
    (has_arrived _ c.arrive-arrived.new.self true c.args.at name c.args.from.now c.args.post.now c.arrive-arrived.result c.self.invariant c.requires.right
    (ap (λ engine. place engine name) (ap seen_engine c.self.view_is) ∙ there)
    c.arrive-arrived.ensures.only c.arrive-arrived.ensures.ok c.arrive-arrived.ensures.err
    (on_ok_failed _ c.arrive-arrived.result (sym c.if-is_err.ensures.value)) (on_err c.arrive-arrived.result refl))

pub returns-else-is_err-clause-arrives : goal.returns-else-is_err-clause-arrives
returns-else-is_err-clause-arrives g c = λ name there.
    subst (λ (engine : EngineState). HasArrived (seen_by_name engine)
    (seen_by_name (engine_state c.self.inside.0.0.setup c.self.inside.0.0.names.keys c.arrive-arrived.new.self c.self.inside.0.0.memory_refused)) name
    c.args.from.now c.args.post.now (result_ok c.arrive-arrived.result)) (ap seen_engine c.self.view_is)
    (has_arrived _ c.arrive-arrived.new.self c.self.inside.0.0.memory_refused c.args.at name c.args.from.now c.args.post.now c.arrive-arrived.result
    c.self.invariant c.requires.right (ap (λ engine. place engine name) (ap seen_engine c.self.view_is) ∙ there)
    c.arrive-arrived.ensures.only c.arrive-arrived.ensures.ok c.arrive-arrived.ensures.err (on_ok c.arrive-arrived.result refl)
    (on_err_found _ c.arrive-arrived.result (sym c.if-is_err.ensures.value)))
