use Rattle.std.proofs.Common.{◌≡◌, ◌∙◌, List, [], ◌∷◌, length, refl, sym, ap, arith}
use Rattle.std.proofs.lemmas.Bool.{or_left, or_right}
use Rattle.binding_values.specs.Run.{ats}
use Rattle.property_store.specs.Property.{among, is_property}
use Rattle.binding_values.proofs.StackLemmas.{ended_at, looped_at, popped_at, pushed_at}
use Rattle.binding_values.proofs.run.step.Goals as goal
use Rattle.binding_values.proofs.run.step.Goals.{then-is_property-via-then-is_property, then-is_property-via-else-is_property+then-stands_in}

no_length : {X : Type 0} (xs : List X) → length xs ≡ 0 → xs ≡ []
no_length [] e = refl
no_length (x ∷ xs) e = absurd (omega arith)

pub returns-then-is_property : goal.returns-then-is_property
returns-then-is_property c =
    looped_at _ c.unstack.new.done [] (record { at = c.args.bound.at; kept = c.in_ok-kept.kept }) c.in-Some.next
    c.requires.running c.in_ok-kept.ensures.tried (rw c.in-Some.is at c.in_ok-kept.ensures.next)
    (elim c.then-is_property.branch [
      | then-is_property-via-then-is_property w ↦ or_left _ _
          (sym c.is_property.ensures ∙ w.if-is_property.true)
      | then-is_property-via-else-is_property+then-stands_in w ↦ or_right
          (is_property c.in-Some.next c.args.bound.at) _
          (ap (among c.in-Some.next) (ap ats (sym w.deref.ensures.value)) ∙ (sym w.stands_in.ensures ∙ w.if-stands_in.true))
    ])
    c.in_ok-push-in-Some.ensures.ok c.in_ok-unstack-in-Some.ensures.done

pub returns-in-None-pop : goal.returns-in-None-pop
returns-in-None-pop c =
    ended_at c.push.new.self [] (record { at = c.args.bound.at; kept = c.in_ok-kept.kept }) c.requires.running c.in_ok-kept.ensures.tried
    (rw c.in-None.is at c.in_ok-kept.ensures.settled)
    (no_length c.args.below.now.items (omega (arith, c.args.below.now.ok, c.in-None-pop.ensures.cases))) c.in_ok-push-in-None.ensures.ok

pub returns-in-Some-pop : goal.returns-in-Some-pop
returns-in-Some-pop c =
    popped_at c.push.new.self c.pop.new.self.items c.in-Some-pop.entry (record { at = c.args.bound.at; kept = c.in_ok-kept.kept })
    c.requires.running c.in_ok-kept.ensures.tried (rw c.in-None.is at c.in_ok-kept.ensures.settled) c.in-Some-pop.ensures.items
    c.in_ok-push-in-None.ensures.ok

pub returns-in_ok-push-in-Some-2 : goal.returns-in_ok-push-in-Some-2
returns-in_ok-push-in-Some-2 c =
    pushed_at c.push-in-Some.new.self.items (record { at = c.args.bound.at; kept = c.in_ok-kept.kept }) c.in-Some.next
    c.requires.running c.in_ok-kept.ensures.tried (rw c.in-Some.is at c.in_ok-kept.ensures.next) (sym c.is_property.ensures ∙ c.if-is_property.false)
    (ap (among c.in-Some.next) (ap ats (sym c.deref.ensures.value)) ∙ (sym c.stands_in.ensures ∙ c.if-stands_in.false)) c.in_ok-push-in-Some-2.ensures.items
