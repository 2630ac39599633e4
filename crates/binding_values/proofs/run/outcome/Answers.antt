use Rattle.std.proofs.Common.{◌≡◌, ◌∙◌, Result, Ok, Err, IfOk, [], ⊎_elim, refl, sym}
use Rattle.property_store.specs.Table.{store_at}
use Rattle.binding_values.specs.Scene.{Outcome}
use Rattle.binding_values.specs.Stored.{scene_of}
use Rattle.binding_values.proofs.KeptLemmas.{fresh_unbound}
use Rattle.binding_values.proofs.run.outcome.Goals as goal

carried : {E : Type 0} (r : Result Outcome E) (a b : Outcome) → a ≡ b → IfOk r (λ outcome. outcome ≡ a) → IfOk r (λ outcome. outcome ≡ b)
carried (Ok outcome) a b same h = h ∙ same
carried (Err e) a b same h = tt

pub returns-in-Some-clause-outcome : goal.returns-in-Some-clause-outcome
returns-in-Some-clause-outcome c =
    carried c.outcome_of.result _ _ (sym (c.in_ok-find.ensures.right c.args.at c.in-Some.kept.now (sym c.in-Some.ensures)).value) c.outcome_of.ensures

pub returns-in-None-clause-outcome : goal.returns-in-None-clause-outcome
returns-in-None-clause-outcome c =
    let store = store_at c.args.stores.now.shelves c.args.place in
    carried c.stored.result _ _ (⊎_elim
    (λ kept. absurd (let both = c.in-None.ensures ∙ kept.1 in cc))
    (λ unbound. sym (fresh_unbound (scene_of store c.args.bindings.now) [] c.args.at unbound refl))
    c.in_ok-find.ensures.settled) c.stored.ensures
