use Rattle.std.proofs.Common.{◌≡◌, ◌∙◌, All, subst}
use Rattle.property_store.specs.Table.{store_at}
use Rattle.binding_values.specs.EvalResult.{IsRight, IsWithin, Keeping, kept_of}
use Rattle.binding_values.specs.Run.{IsSettled}
use Rattle.binding_values.specs.Stored.{scene_of}
use Rattle.binding_values.proofs.SettlingLemmas.{all_kept}
use Rattle.binding_values.proofs.settling.refresh.Goals as goal

same : (c : goal.In_ok-keep_all) → kept_of c.evaluate_all.new.memory ≡ kept_of c.keep_all.new.self
same c = all_kept c.evaluate_all.new.memory c.into_parts-base.result.0 c.keep_all.new.self c.into_parts-base.result.1.items c.into_parts-base.ensures
    c.in_ok-keep_all.ensures

pub returns-clause-right : goal.returns-clause-right
returns-clause-right c =
    subst (IsRight (scene_of (store_at c.args.stores.now.shelves c.args.place) c.args.bindings.now)) (same c) c.in_ok-evaluate_all.ensures.right

pub returns-clause-within : goal.returns-clause-within
returns-clause-within c =
    let base : c.over-memory.result ≡ c.args.kept.now = c.over-memory.ensures ∙ c.replace-base.ensures.value in
    subst (IsWithin (kept_of c.args.kept.now)) (same c)
    (subst (λ rows. IsWithin (kept_of rows) (kept_of c.evaluate_all.new.memory)) base c.in_ok-evaluate_all.ensures.within)

pub returns-clause-settled : goal.returns-clause-settled
returns-clause-settled c =
    subst (λ (keeping : Keeping). All (IsSettled (scene_of (store_at c.args.stores.now.shelves c.args.place) c.args.bindings.now) keeping) c.args.touched.now)
    (same c) c.in_ok-evaluate_all.ensures.settled
