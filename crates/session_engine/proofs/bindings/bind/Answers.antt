use Rattle.std.proofs.Common.{Ok, Some, true, refl, ap, ◌∙◌}
use Rattle.session_engine.proofs.Common.{view, ◌>>=◌, state_at, state_with, settings_of, told_items}
use Rattle.session_model.specs.declared.line.Answer.TheVariants as a
use Rattle.session_model.specs.Asked.{Bind}
use Rattle.session_model.specs.Binding.{binding_refusal}
use Rattle.session_model.proofs.ForCallers.{bind_done, bind_found, refusal_bind, may_be_bound}
use Rattle.session_engine.proofs.BindingsLemmas.{behind_property, behind_term, bound_found, bound_to, comes_found, unbindable, with_term}
use Rattle.session_engine.proofs.CommandsLemmas.{found_fault, made_fault, quietly, stopped}
use Rattle.session_engine.proofs.ToldLemmas.{told_performs}
use Rattle.session_engine.proofs.bindings.bind.Goals as goal

pub returns-in_err-at : goal.returns-in_err-at
returns-in_err-at g c =
    let state = state_at c.args.tables.now c.args.actor.now.caller.place in
    quietly c.requires.fresh (stopped c.in_err-at.field-0.0 _ c.from_residual.ensures.1
    (refusal_bind _ _ _ _ _ _ ∙ ap (binding_refusal state)
    (unbindable state c.args.object c.args.property.now (view c.args.to.now) _ (rw c.as_str.ensures at c.in_err-at.ensures))) refl)

-- what has none of the forms is refused behind a property that may not be bound
pub returns-in_err-expr : goal.returns-in_err-expr
returns-in_err-expr g c =
    let state = state_at c.args.tables.now c.args.actor.now.caller.place in
    quietly c.requires.fresh (found_fault
    (λ found. binding_refusal state (with_term state c.args.object c.in_ok-at.at found)) _ c.in_err-expr.field-0.0 c.from_residual-in_err-expr.ensures.1
    (refusal_bind _ _ _ _ _ _ ∙ ap (binding_refusal state)
    (behind_property state c.args.object c.args.property.now (view c.args.to.now) _ (rw c.as_str.ensures at c.in_ok-at.ensures)))
    (λ code. refl) c.in_err-expr.ensures.answers)

-- and what it reads behind that
pub returns-in_err-check_reads : goal.returns-in_err-check_reads
returns-in_err-check_reads g c =
    let state = state_at c.args.tables.now c.args.actor.now.caller.place in
    quietly c.requires.fresh (found_fault
    (λ found. binding_refusal state (found >>= λ _. Ok (bound_to c.in_ok-at.at c.in_ok-expr.expr))) _ c.in_err-check_reads.field-0.0
    c.from_residual-in_err-check_reads.ensures.1
    (refusal_bind _ _ _ _ _ _ ∙ ap (binding_refusal state)
    (behind_term state c.args.object c.args.property.now (view c.args.to.now) _ (rw c.as_str.ensures at c.in_ok-at.ensures) _ c.in_ok-expr.ensures.answers))
    (λ code. refl) c.in_err-check_reads.ensures)

pub bind-requires-clause-bindable : goal.bind-requires-clause-bindable
bind-requires-clause-bindable g c =
    let state = state_at c.args.tables.now c.args.actor.now.caller.place in
    (may_be_bound state c.args.object c.args.property.now (view c.args.to.now) _
    (bound_found state c.args.object c.args.property.now (view c.args.to.now) _
    (rw c.as_str.ensures at c.in_ok-at.ensures) _ c.in_ok-expr.ensures.answers c.in_ok-check_reads.ensures)).bindable

-- then comes the limit
pub returns-in_err-changes : goal.returns-in_err-changes
returns-in_err-changes g c =
    let state = state_at c.args.tables.now c.args.actor.now.caller.place in
    quietly c.requires.fresh (made_fault c.in_err-changes.field-0.0 c.from_residual-in_err-changes.ensures.1
    (bind_found _ _ _ _ _ _ _ (bound_found state c.args.object c.args.property.now (view c.args.to.now) _
    (rw c.as_str.ensures at c.in_ok-at.ensures) _ c.in_ok-expr.ensures.answers c.in_ok-check_reads.ensures))
    c.in_err-changes.ensures.refusal c.in_err-changes.ensures.refused c.bind.ensures.keeps.only)

pub returns : goal.returns
returns g c =
    let caller = c.args.actor.now.caller in
    let old = c.args.tables.now in
    let middle = c.bind.new.self in
    let found =
    bound_found (state_at old caller.place) c.args.object c.args.property.now (view c.args.to.now) _
    (rw c.as_str.ensures at c.in_ok-at.ensures) _ c.in_ok-expr.ensures.answers c.in_ok-check_reads.ensures in
    told_performs caller (Bind c.args.object c.args.property.now (view c.args.to.now)) old middle c.tell-told.new.tables
    c.args.output.now c.tell-told.new.output
    (told_items (settings_of caller.setup.now) (state_at middle caller.place) 0 c.in_ok-changes.changes) _ (a.Truth true) c.requires.placed c.requires.fresh
    (bind_found _ _ _ _ _ _ _ found ∙ c.in_ok-changes.ensures.refusal) (bind_done _ _ _ _ _ _ _ found)
    (comes_found caller old middle _ (Some c.in_ok-at.at) c.in_ok-changes.changes
    (state_with _ _ _ _ c.requires.placed c.in_ok-changes.ensures.ok) c.in_ok-changes.ensures.told)
    c.bind.ensures.keeps c.tell-told.result _ c.reply.ensures c.tell-told.ensures
