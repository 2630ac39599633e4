use Rattle.std.proofs.Common.{◌∙◌, ◌≤◌, sym, subst, arith, rules, codes}
use Rattle.serde_json.specs.Data.{depth, items_depth}
use Rattle.serde_json.specs.View.{view, items_view}
use Rattle.std.proofs.lemmas.Grind.{common_steps}
use Rattle.term_core.specs.Bodies.{action_in, acts_in}
use Rattle.term_core.proofs.Branches.{get_falls, item_within, acts_in_reads}
use Rattle.term_core.proofs.Concatenated.{concatenated_step, concatenated_refused}
use Rattle.term_core.proofs.body.+bodies.Goals as goal

pub action-actions-requires : goal.action-actions-requires
action-actions-requires t c =
    let smaller = get_falls (codes "then") (view c.args.json.now) (view c.in-Some-get.held.now) (sym c.in-Some-get.ensures) in
    search rules

pub action-actions-requires-in-Some-get-2 : goal.action-actions-requires-in-Some-get-2
action-actions-requires-in-Some-get-2 t c =
    let smaller = get_falls (codes "else") (view c.args.json.now) (view c.in-Some-get-2.failed.now) (sym c.in-Some-get-2.ensures) in
    search rules

pub actions_of-action-requires : goal.actions_of-action-requires
actions_of-action-requires t c =
    let xs = c.args.list.now in
    let smaller : depth (view c.json-item.result) ≤ items_depth (items_view xs) =
    subst (λ y. depth (view y) ≤ items_depth (items_view xs)) (sym c.json-item.is) (item_within xs c.loop-json.json-index _ (omega arith)) in
    search rules

pub actions_of-returns-in_err-action : goal.actions_of-returns-in_err-action
actions_of-returns-in_err-action t c =
    let scope = c.args.scope in
    let refused = concatenated_refused (action_in scope) (acts_in scope) (acts_in_reads scope) c.loop-json.found.items c.json-item.result
    c.args.list.now c.loop-json.json-index _ (omega arith) c.json-item.is c.loop-json.invariant c.in_err-action.field-0.0 c.in_err-action.ensures in
    search rules

pub actions_of-loop-json-preserved : goal.actions_of-loop-json-preserved
actions_of-loop-json-preserved t c =
    let scope = c.args.scope in
    rw c.in_ok-push.ensures.items (concatenated_step (action_in scope) (acts_in scope) (acts_in_reads scope) _ _ c.json-item.result
    c.args.list.now c.loop-json.json-index (omega arith) c.json-item.is c.in_ok-action.ensures ∙ c.loop-json.invariant)

pub actions_of-returns : goal.actions_of-returns
actions_of-returns t c = grind (arith, common_steps)
