use Rattle.std.proofs.Common.{Some, refl, ap, sym, ◌∙◌}
use Rattle.std.specs.Result.{result_err}
use Rattle.session_engine.proofs.Common.{does_next, state_at, state_with, settings_of, told_items}
use Rattle.session_model.specs.declared.line.Answer.TheVariants as a
use Rattle.session_model.specs.Asked.{Unbind}
use Rattle.session_model.proofs.ForCallers.{refusal_unbind, unbind_done}
use Rattle.session_engine.proofs.BindingsLemmas.{comes_found}
use Rattle.session_engine.proofs.CommandsLemmas.{quietly, starved, stopped}
use Rattle.session_engine.proofs.ToldLemmas.{told_performs}
use Rattle.session_engine.proofs.bindings.unbind.Goals as goal

pub returns-in_err-at : goal.returns-in_err-at
returns-in_err-at g c = quietly c.requires.fresh (stopped c.in_err-at.field-0.0 _ c.from_residual.ensures.1
    (refusal_unbind _ _ _ _ _ ∙ ap result_err (sym (rw c.as_str.ensures at c.in_err-at.ensures))) refl)

pub returns-in_err-changes : goal.returns-in_err-changes
returns-in_err-changes g c = quietly c.requires.fresh (starved _ c.from_residual-in_err-changes.ensures.1 c.unbind.ensures.keeps.only)

pub returns : goal.returns
returns g c =
    let caller = c.args.actor.now.caller in
    let old = c.args.tables.now in
    let middle = c.unbind.new.self in
    let found = sym (rw c.as_str.ensures at c.in_ok-at.ensures) in
    told_performs caller (Unbind c.args.object c.args.property.now) old middle c.tell-told.new.tables c.args.output.now c.tell-told.new.output
    (told_items (settings_of caller.setup.now) (state_at middle caller.place) 0 c.in_ok-changes.changes) _
    (a.Truth c.is_bound-was_bound.result) c.requires.placed c.requires.fresh
    (refusal_unbind _ _ _ _ _ ∙ ap result_err found)
    (unbind_done _ _ _ _ _ _ found ∙ ap (does_next (settings_of caller.setup.now) _) (ap a.Truth (sym c.is_bound-was_bound.ensures)))
    (comes_found caller old middle _ (Some c.in_ok-at.at) c.in_ok-changes.changes
    (state_with _ _ _ _ c.requires.placed c.in_ok-changes.ensures.ok) c.in_ok-changes.ensures.told)
    c.unbind.ensures.keeps c.tell-told.result _ c.reply.ensures c.tell-told.ensures
