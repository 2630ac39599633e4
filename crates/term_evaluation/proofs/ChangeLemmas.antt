-- Actions with each of their expressions changed: they are as many, what they set keeps its name, and what holds of
-- expressions, changed or not, holds of them.
use Rattle.std.proofs.Common.{◌≡◌, ◌∙◌, ◌&&◌, ℕ, List, [], ◌∷◌, map, nat_le, IsTrue, refl, ap, ap₂, arith}
use Rattle.std.specs.List.{All, list_all}
use Rattle.std.proofs.lemmas.Bool.{and_from, and_parts}
use Rattle.std.proofs.lemmas.List.Elements.{All-nil, All-cons, All-head, All-tail}
use Rattle.term_core.specs.declared.action.SingleAction.{SingleAction}
use Rattle.term_core.specs.declared.action.SingleAction.TheVariants as e
use Rattle.term_core.specs.Act.{Act, Acts, single_action, when, nothing, more, acts_of, count, counts, is_effect_limited, is_limited, are_limited}
use Rattle.term_core.specs.Act.{is_effect_named, is_named, are_named}
use Rattle.term_core.specs.Arguments.{TakesAtMost, EffectTakesAtMost, ActTakesAtMost, ActsTakeAtMost}
use Rattle.term_core.specs.Bodies.{is_body_limited}
use Rattle.term_core.specs.Forms.{is_within_limits}
use Rattle.term_core.specs.Term.{Term}
use Rattle.term_evaluation.specs.Unfolding.{effect_by, act_by, acts_by}
use Rattle.term_evaluation.proofs.Branches.{branch_changed}

module _ (change : Term → Term) where
  -- the arguments that they take

  module _ (m n : ℕ) (each : (term : Term) → TakesAtMost m term → TakesAtMost n (change term)) where
    terms_take : (terms : List Term) → All (TakesAtMost m) terms → All (TakesAtMost n) (map change terms)
    terms_take [] h = All-nil (TakesAtMost n)
    terms_take (term ∷ rest) h = All-cons (TakesAtMost n) (change term) (map change rest) (each term (All-head (TakesAtMost m) term rest h))
        (terms_take rest (All-tail (TakesAtMost m) term rest h))

    effect_takes : (plain : SingleAction) → EffectTakesAtMost m plain → EffectTakesAtMost n (effect_by change plain)
    effect_takes (e.Set of property value) h = each value h
    effect_takes (e.Emit of signal sent) h = terms_take sent h
    effect_takes other h = tt

    mutual
      act_takes : (action : Act) → ActTakesAtMost m action → ActTakesAtMost n (act_by change action)
      act_takes (single_action plain) h = effect_takes plain h
      act_takes (when test held failed) h = (each test h.0, (acts_take held h.1.0, acts_take failed h.1.1))

      acts_take : (actions : Acts) → ActsTakeAtMost m actions → ActsTakeAtMost n (acts_by change actions)
      acts_take nothing h = tt
      acts_take (more action rest) h = (act_takes action h.0, acts_take rest h.1)

    pub body_takes : (actions : List Act) → ActsTakeAtMost m (acts_of actions) → ActsTakeAtMost n (acts_of (map (act_by change) actions))
    body_takes actions within = rw branch_changed (acts_take (acts_of actions) within)

  -- how many they are

  mutual
    count_changed : (action : Act) → count (act_by change action) ≡ count action
    count_changed (single_action plain) = refl
    count_changed (when test held failed) = omega (arith, counts_changed held, counts_changed failed)

    counts_changed : (actions : Acts) → counts (acts_by change actions) ≡ counts actions
    counts_changed nothing = refl
    counts_changed (more action rest) = omega (arith, count_changed action, counts_changed rest)

  pub body_counts : (actions : List Act) → counts (acts_of (map (act_by change) actions)) ≡ counts (acts_of actions)
  body_counts actions = ap counts (branch_changed change actions) ∙ counts_changed (acts_of actions)

  -- the names of what they set

  effect_named : (plain : SingleAction) → is_effect_named (effect_by change plain) ≡ is_effect_named plain
  effect_named (e.Set of property value) = refl
  effect_named other = refl

  mutual
    act_named : (action : Act) → is_named (act_by change action) ≡ is_named action
    act_named (single_action plain) = effect_named plain
    act_named (when test held failed) = ap₂ (λ a b. a && b) (acts_named held) (acts_named failed)

    acts_named : (actions : Acts) → are_named (acts_by change actions) ≡ are_named actions
    acts_named nothing = refl
    acts_named (more action rest) = ap₂ (λ a b. a && b) (act_named action) (acts_named rest)

  pub body_named : (actions : List Act) → are_named (acts_of (map (act_by change) actions)) ≡ are_named (acts_of actions)
  body_named actions = ap are_named (branch_changed change actions) ∙ acts_named (acts_of actions)

  -- the limits

  module _ (each : (term : Term) → IsTrue (is_within_limits term) → IsTrue (is_within_limits (change term))) where
    terms_within : (terms : List Term) → IsTrue (list_all is_within_limits terms) → IsTrue (list_all is_within_limits (map change terms))
    terms_within [] h = refl
    terms_within (term ∷ rest) h =
        let parts = and_parts (is_within_limits term) (list_all is_within_limits rest) h in
        and_from _ _ (each term parts.0) (terms_within rest parts.1)

    effect_within : (plain : SingleAction) → IsTrue (is_effect_limited plain) → IsTrue (is_effect_limited (effect_by change plain))
    effect_within (e.Set of property value) h = each value h
    effect_within (e.Emit of signal sent) h = terms_within sent h
    effect_within other h = refl

    mutual
      act_within : (action : Act) → IsTrue (is_limited action) → IsTrue (is_limited (act_by change action))
      act_within (single_action plain) h = effect_within plain h
      act_within (when test held failed) h =
          let first = and_parts (is_within_limits test) (are_limited held && are_limited failed) h in
          let parts = and_parts (are_limited held) (are_limited failed) first.1 in
          and_from _ _ (each test first.0) (and_from _ _ (acts_within held parts.0) (acts_within failed parts.1))

      acts_within : (actions : Acts) → IsTrue (are_limited actions) → IsTrue (are_limited (acts_by change actions))
      acts_within nothing h = refl
      acts_within (more action rest) h =
          let parts = and_parts (is_limited action) (are_limited rest) h in
          and_from _ _ (act_within action parts.0) (acts_within rest parts.1)

    pub body_within : (actions : List Act) → IsTrue (is_body_limited actions) → IsTrue (is_body_limited (map (act_by change) actions))
    body_within actions h =
        let parts = and_parts (nat_le (counts (acts_of actions)) 32) (are_limited (acts_of actions)) h in
        and_from _ _ (ap (λ n. nat_le n 32) (body_counts actions) ∙ parts.0) (rw branch_changed (acts_within (acts_of actions) parts.1))

  -- where no expression is changed, no action is

  module _ (each : (term : Term) → change term ≡ term) where
    terms_same : (terms : List Term) → map change terms ≡ terms
    terms_same [] = refl
    terms_same (term ∷ rest) = ap₂ (λ term rest. term ∷ rest) (each term) (terms_same rest)

    effect_same : (plain : SingleAction) → effect_by change plain ≡ plain
    effect_same (e.Set of property value) = ap (e.Set of property) (each value)
    effect_same (e.Emit of signal sent) = ap (e.Emit of signal) (terms_same sent)
    effect_same other = refl

    mutual
      act_same : (action : Act) → act_by change action ≡ action
      act_same (single_action plain) = ap single_action (effect_same plain)
      act_same (when test held failed) =
          ap (λ test. when test (acts_by change held) (acts_by change failed)) (each test)
          ∙ ap₂ (when test) (acts_same held) (acts_same failed)

      acts_same : (actions : Acts) → acts_by change actions ≡ actions
      acts_same nothing = refl
      acts_same (more action rest) = ap₂ more (act_same action) (acts_same rest)

    pub body_same : (actions : List Act) → map (act_by change) actions ≡ actions
    body_same [] = refl
    body_same (action ∷ rest) = ap₂ (λ action rest. action ∷ rest) (act_same action) (body_same rest)

-- one change behind another

module _ (change next : Term → Term) where
  abbrev both_changes : Term → Term
  both_changes term = next (change term)

  terms_twice : (terms : List Term) → map next (map change terms) ≡ map both_changes terms
  terms_twice [] = refl
  terms_twice (term ∷ rest) = ap (λ rest. next (change term) ∷ rest) (terms_twice rest)

  effect_twice : (plain : SingleAction) → effect_by next (effect_by change plain) ≡ effect_by both_changes plain
  effect_twice (e.Set of property value) = refl
  effect_twice (e.Emit of signal sent) = ap (e.Emit of signal) (terms_twice sent)
  effect_twice other = refl

  mutual
    act_twice : (action : Act) → act_by next (act_by change action) ≡ act_by both_changes action
    act_twice (single_action plain) = ap single_action (effect_twice plain)
    act_twice (when test held failed) = ap₂ (when (next (change test))) (acts_twice held) (acts_twice failed)

    acts_twice : (actions : Acts) → acts_by next (acts_by change actions) ≡ acts_by both_changes actions
    acts_twice nothing = refl
    acts_twice (more action rest) = ap₂ more (act_twice action) (acts_twice rest)

  pub body_twice : (actions : List Act) → map (act_by next) (map (act_by change) actions) ≡ map (act_by both_changes) actions
  body_twice [] = refl
  body_twice (action ∷ rest) = ap₂ (λ action rest. action ∷ rest) (act_twice action) (body_twice rest)
