use Rattle.std.proofs.Common.{ap, sym, ◌∙◌}
use Rattle.session_engine.proofs.Common.{does_next, State, state_at, state_with, settings_of, told_items}
use Rattle.session_model.specs.declared.line.Answer.TheVariants as a
use Rattle.session_model.specs.Asked.{End}
use Rattle.session_model.specs.State.{without_group}
use Rattle.session_model.proofs.ForCallers.{performs_end, refusal_end}
use Rattle.session_engine.proofs.BindingsLemmas.{comes_at_end, group_ends}
use Rattle.session_engine.proofs.CommandsLemmas.{made_fault, quietly}
use Rattle.session_engine.proofs.ToldLemmas.{told_performs}
use Rattle.session_engine.proofs.bindings.end.Goals as goal

pub returns-in_err-left : goal.returns-in_err-left
returns-in_err-left g c = quietly c.requires.fresh
    (made_fault c.in_err-left.field-0.0 c.from_residual.ensures.1
    (refusal_end _ _ _) c.in_err-left.ensures.refusal c.in_err-left.ensures.refused c.end.ensures.keeps.only)

pub returns : goal.returns
returns g c =
    let caller = c.args.actor.now.caller in
    let old = c.args.tables.now in
    let middle = c.end.new.self in
    let is = state_with _ _ _ _ c.requires.placed c.in_ok-left.ensures.ok in
    let next = group_ends (settings_of caller.setup.now) (state_at old caller.place) (without_group (state_at old caller.place)) in
    told_performs caller End old middle c.tell-told.new.tables c.args.output.now c.tell-told.new.output
    (told_items (settings_of caller.setup.now) (state_at middle caller.place) 0 c.in_ok-left.changes) next
    (a.Number c.in_ok-left.left) c.requires.placed c.requires.fresh
    (refusal_end _ _ _ ∙ c.in_ok-left.ensures.refusal)
    (performs_end _ _ _ ∙ ap (λ (after : State). does_next (settings_of caller.setup.now) next (a.Number after.graph.depth)) (sym is)
    ∙ ap (λ depth. does_next (settings_of caller.setup.now) next (a.Number depth)) (sym c.in_ok-left.ensures.depth))
    (comes_at_end caller old middle _ c.in_ok-left.changes is c.in_ok-left.ensures.told)
    c.end.ensures.keeps c.tell-told.result _ c.reply.ensures c.tell-told.ensures
