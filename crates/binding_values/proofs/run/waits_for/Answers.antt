use Rattle.std.proofs.Common.{◌≡◌, ◌∙◌, suc, ◌-◌, ◌<◌, ◌≤◌, List, Some, None, All, length, get_or, take, sym, ap, subst, inl, inr, ⊎_elim, take-suc}
use Rattle.std.proofs.Common.{length-take, get_or-take, arith}
use Rattle.std.proofs.lemmas.Bool.{cases_lt}
use Rattle.std.proofs.lemmas.List.{get_or_default, take_all}
use Rattle.term_core.specs.Term.{Term}
use Rattle.property_store.specs.declared.property.Property.{Property}
use Rattle.binding_values.specs.EvalResult.{Keeping, kept_of}
use Rattle.binding_values.specs.Looking.{scene_in}
use Rattle.term_evaluation.specs.Met.{EachButLast}
use Rattle.binding_values.specs.Run.{IsSettled, WaitsFor}
use Rattle.binding_values.specs.Scene.{Scene, term_at}
use Rattle.binding_values.proofs.MapLemmas.{not_there, there}
use Rattle.binding_values.proofs.run.waits_for.Goals as goal

all_from_last : (P : Property → Type 0) (xs : List Property) (x : Property) → P (get_or xs (length xs - 1) x) → EachButLast P xs → All P xs
all_from_last P xs x h but k d lt = ⊎_elim (λ less. but k d less) (λ more. subst P (last more) h) (cases_lt (suc k) (length xs))
  where
    last : length xs ≤ suc k → get_or xs (length xs - 1) x ≡ get_or xs k d
    last more = get_or_default xs (length xs - 1) x d (omega arith) ∙ ap (λ n. get_or xs n d) (let same : length xs - 1 ≡ k = omega arith in same)

waits : (scene : Scene) (keeping : Keeping) (xs : List Property) (x : Property) → 0 < length xs → EachButLast (IsSettled scene keeping) xs → (term : Term)
    → term_at scene.bindings (get_or xs (length xs - 1) x) ≡ Some term → keeping (get_or xs (length xs - 1) x) ≡ None
    → WaitsFor scene keeping xs (get_or xs (length xs - 1) x)
waits scene keeping xs x some but term bound absent = record {
  front = take (length xs - 1) xs;
  last = sym (take_all (suc (length xs - 1)) xs (omega arith)) ∙ take-suc xs (length xs - 1) x (omega arith);
  settled = λ k d lt. (let less : k < length xs - 1 = omega (arith, length-take (length xs - 1) xs) in subst (IsSettled scene keeping)
      (sym (get_or-take (length xs - 1) xs k d less)) (but k d (omega arith)));
  term = term;
  bound = bound;
  absent = absent;
}

pub returns-then-is_some-clause-settled : goal.returns-then-is_some-clause-settled
returns-then-is_some-clause-settled c =
    all_from_last (IsSettled (scene_in c.args.known.now) (kept_of c.args.known.now.done.now)) c.args.reads.now (record { object = 0; number = 0 })
    (inl (there _ c.at.result _ c.at.ensures (sym c.is_some.ensures ∙ c.if-is_some.true))) c.requires.but_last

pub returns-in-None-clause-settled : goal.returns-in-None-clause-settled
returns-in-None-clause-settled c =
    all_from_last (IsSettled (scene_in c.args.known.now) (kept_of c.args.known.now.done.now)) c.args.reads.now (record { object = 0; number = 0 })
    (inr c.in-None.ensures.none) c.requires.but_last

pub returns-in-Some-clause-next : goal.returns-in-Some-clause-next
returns-in-Some-clause-next c =
    let found = c.in-Some.ensures.some in
    waits (scene_in c.args.known.now) (kept_of c.args.known.now.done.now) c.args.reads.now (record { object = 0; number = 0 })
    (grind arith) c.requires.but_last c.in-Some.field-0.expr.now
    (ap (term_at (scene_in c.args.known.now).bindings) (sym found.0) ∙ found.1.term)
    (not_there _ c.at.result _ c.at.ensures (sym c.is_some.ensures ∙ c.if-is_some.false))
