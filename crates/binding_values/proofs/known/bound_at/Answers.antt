use Rattle.std.proofs.Common.{◌≡◌, ◌∙◌, Bool, true, false, cond, IfNone, Option, None, is_some, refl, subst, sym, ap}
use Rattle.property_store.specs.Table.{store_at}
use Rattle.term_core.specs.Term.{Term}
use Rattle.binding_values.specs.EvalResult.{IsUnbound}
use Rattle.binding_values.specs.Scene.{Cell, term_at}
use Rattle.binding_values.specs.Stored.{cell_in, scene_of}
use Rattle.binding_values.proofs.StoredLemmas.{term_there}
use Rattle.binding_values.proofs.known.bound_at.Goals as goal

nothing : (t : Bool) (o : Option Term) → o ≡ None → cond t o None ≡ None
nothing true o e = e
nothing false o e = refl

pub returns-in_err-expr-clause-none : goal.returns-in_err-expr-clause-none
returns-in_err-expr-clause-none c =
    let store = store_at c.args.stores.now.shelves c.args.place in
    subst (λ o. IfNone o (IsUnbound (scene_of store c.args.bindings.now) c.args.at)) (sym c.from_residual.ensures)
    (term_there store c.args.at c.args.bindings.now
    ∙ nothing (is_some (cell_in store c.args.at)) (term_at c.args.bindings.now c.args.at) (sym c.in_err-expr.ensures))

pub returns-in_err-kind-clause-none : goal.returns-in_err-kind-clause-none
returns-in_err-kind-clause-none c =
    let store = store_at c.args.stores.now.shelves c.args.place in
    subst (λ o. IfNone o (IsUnbound (scene_of store c.args.bindings.now) c.args.at)) (sym c.from_residual-in_err-kind.ensures)
    (term_there store c.args.at c.args.bindings.now
    ∙ ap (λ (cell : Option Cell). cond (is_some cell) (term_at c.args.bindings.now c.args.at) None) (sym c.in_err-kind.ensures))

pub returns-clause-some : goal.returns-clause-some
returns-clause-some c =
    let store = store_at c.args.stores.now.shelves c.args.place in (
      refl,
      record {
        cell = _;
        there = sym c.in_ok-kind.ensures;
        same = refl;
        term = term_there store c.args.at c.args.bindings.now
            ∙ (ap (λ (cell : Option Cell). cond (is_some cell) (term_at c.args.bindings.now c.args.at) None) (sym c.in_ok-kind.ensures)
            ∙ sym c.in_ok-expr.ensures);
      },
    )
