use Rattle.std.proofs.Common.{◌∙◌, ◌++◌, ◌∷◌, ◌≤◌, [], filter, length, map, sym, ap, subst, arith}
use Rattle.binding_values.specs.declared.binding.Binding.{Binding}
use Rattle.session_effects.proofs.ForCallers.{item_at}
use Rattle.session_model.specs.BindingDescriptions.{follows, binding_description}
use Rattle.session_queries.specs.Views.{its_settings, its_state}
use Rattle.session_queries.proofs.BindingsLemmas.{listed_full, listed_none, listed_on, listed_whole}
use Rattle.session_queries.proofs.descriptions.bindings.binding_descriptions.Goals as goal

pub rows-init : goal.rows-init
rows-init c = listed_none c.new-listed.ensures

pub returns-then-len-eq-LISTED : goal.returns-then-len-eq-LISTED
returns-then-len-eq-LISTED c = listed_full c.rows.invariant (sym c.len.ensures ∙ c.if-len-eq-LISTED.true)

pub rows-preserved : goal.rows-preserved
rows-preserved c =
    let row = c.row-item.result in
    let tell = binding_description (its_settings c.args.session) (its_state c.args.session) in
    let few = c.rows.invariant.few in
    listed_on c.rows.invariant row
    (rw c.bindings-row-items.ensures at (item_at c.bindings-row-items.result.now c.rows.row-index row c.rows-test.true c.row-item.is))
    (c.in_ok-add_following.ensures
    ∙ ap (λ passed. c.rows.listed ++ map tell (filter (λ (binding : Binding). follows passed binding.at) (row ∷ []))) c.listed_after-passed.ensures)
    (omega (arith, few, c.len.ensures, c.if-len-eq-LISTED.false))

pub returns : goal.returns
returns c = listed_whole c.rows.invariant (subst (λ items. length items ≤ c.rows.row-index) c.bindings-row-items.ensures c.rows-test.false)
