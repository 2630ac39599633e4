use Rattle.session_model.proofs.ForCallers.{asked_fits}
use Rattle.session_engine.proofs.CommandsLemmas.{done_answered, done_step, done_whole}
use Rattle.session_engine.proofs.engine.Core.command.Goals as goal

pub obey-requires-clause-known : goal.obey-requires-clause-known
obey-requires-clause-known g c = record { laid = c.self.invariant.laid; stored = (c.self.invariant.kept c.args.at).sound.sound.whole.objects }

pub invariant_of-self : goal.invariant_of-self
invariant_of-self g c =
    done_whole _ _ c.self.inside.tables c.obey.new.tables _ _ c.obey.result c.obey.ensures _
    c.args.self.now c.self.invariant (λ state. asked_fits _ state c.args.command.now)
    c.self.view_is c.in-Some.ensures.key c.requires.there.0 c.requires.there.1

pub returns-clause-step : goal.returns-clause-step
returns-clause-step g c = λ name there.
    done_step _ _ c.self.inside.tables c.obey.new.tables _ _ c.obey.result c.obey.ensures _
    c.args.self.now c.self.invariant (λ state. asked_fits _ state c.args.command.now) c.self.view_is c.in-Some.ensures.key name there

pub returns-clause-answered : goal.returns-clause-answered
returns-clause-answered g c = λ name there.
    done_answered _ _ c.self.inside.tables c.obey.new.tables _ _ c.obey.result c.obey.ensures _
    c.args.self.now c.self.invariant (λ state. asked_fits _ state c.args.command.now) c.self.view_is c.in-Some.ensures.key name there
