use Rattle.std.proofs.Common.{◌∙◌, None, ap, position, sym, subst}
use Rattle.std.specs.Prelude.{OnOk, bytes_eq}
use Rattle.session_engine.proofs.Common.{asked, seen_by_name, HasCome, item_of}
use Rattle.session_engine.specs.Items.{HasAdded}
use Rattle.session_engine.proofs.ItemsLemmas.{arrival_comes}
use Rattle.session_engine.proofs.StepLemmas.{step_fails}
use Rattle.session_engine.proofs.engine.Engine.come.Goals as goal

pub returns-in-Arrival-clause-ok : goal.returns-in-Arrival-clause-ok
returns-in-Arrival-clause-ok g c = λ name there.
    subst (λ item. OnOk c.arrive.result (HasAdded (seen_by_name c.args.self.now.core) (seen_by_name c.arrive.new.self.core) name
    (item_of item) c.args.told.now c.args.told.now)) (sym c.in-Arrival.is)
    (arrival_comes _ _ name _ _ c.args.told.now c.arrive.result (c.arrive.ensures.arrives name there))

pub returns-in-Ok-clause-ok : goal.returns-in-Ok-clause-ok
returns-in-Ok-clause-ok g c = λ name there.
    subst (λ item. HasAdded (seen_by_name c.args.self.now.core) (seen_by_name c.told.new.self.core) name (item_of item) c.args.told.now c.append.new.told)
    (sym c.in-Own.is)
    (c.in_ok-lines-in-Own.lines, c.in_ok-lines-in-Own.ensures.step name there, c.in-Ok.ensures)

pub returns-in_default-clause-err : goal.returns-in_default-clause-err
returns-in_default-clause-err g c = λ name there.
    subst (λ item. HasCome (seen_by_name c.args.self.now.core) (seen_by_name c.give_up.new.self.core) name (item_of item) None) (sym c.in-Own.is)
    (step_fails _ _ _ name (asked c.in-Own.command) _ (c.in_ok-lines-in-Own.ensures.step name there)
    (c.give_up.ensures.fails name (ap (λ names. position (bytes_eq name) names) c.in_ok-lines-in-Own.ensures.places.names ∙ there)))
