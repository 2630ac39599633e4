-- What is kept is right where no mark reaches it, and it is the value where all that is bound is kept.
use Rattle.std.proofs.Common.{◌≡◌, ◌∙◌, ◌⊎◌, Bool, true, false, cond, [], Option, Some, None, refl, sym, ap, inl, inr}
use Rattle.std.proofs.lemmas.Bool.{both_ways, false_from_ne_true}
use Rattle.property_store.specs.declared.property.Property.{Property}
use Rattle.property_store.specs.Marks.{Marks, is_marked, no_marks}
use Rattle.property_store.specs.Pending.{AreMore}
use Rattle.binding_values.specs.Scene.{Scene, plain}
use Rattle.binding_values.specs.declared.eval_result.EvalResult.{EvalResult}
use Rattle.binding_values.specs.EvalResult.{IsClosed, IsKept, IsRight, IsUnbound, IsWithin, Keeping, known}
use Rattle.binding_values.proofs.KeptLemmas.{fresh_unbound, hand_unbound, known_kept, known_none, known_unbound, none_some, right_with, unbound_unkept}
use Rattle.binding_values.specs.Right.{IsClear, IsComplete, IsRightBut, IsSpread, IsWhole, unmarked}

-- a part of what is kept that has read none but its own is right too

pub part_is_right : (scene : Scene) (less keeping : Keeping) → IsRight scene keeping → IsWithin less keeping → IsClosed scene less → IsRight scene less
part_is_right scene less keeping right within closed q kept is =
    right_with scene keeping less q kept (right q kept (within q kept is)) (λ k d lt. known_in _ (closed q kept is k d lt))
  where
    none_kept : (r : Property) → keeping r ≡ None → (o : Option EvalResult) → less r ≡ o → o ≡ None
    none_kept r none None e = refl
    none_kept r none (Some kept) e = absurd (none_some _ _ none (within r kept e))

    known_in : (r : Property) → IsKept less r ⊎ IsUnbound scene r → known scene less r ≡ known scene keeping r
    known_in r (inl (kept, e)) = known_kept scene less r kept e ∙ sym (known_kept scene keeping r kept (within r kept e))
    known_in r (inr unbound) =
        let none = unbound_unkept scene keeping right r unbound in
        (known_none scene less r (none_kept r none (less r) refl) ∙ hand_unbound scene r unbound) ∙ sym (known_unbound scene keeping right r unbound)

-- all that is bound is kept and right

pub complete_is_known : (scene : Scene) (keeping : Keeping) → IsComplete scene keeping → (q : Property) → known scene keeping q ≡ plain scene [] q
complete_is_known scene keeping complete q = by (complete.whole q)
  where
    by : IsKept keeping q ⊎ IsUnbound scene q → known scene keeping q ≡ plain scene [] q
    by (inl (kept, is)) = known_kept scene keeping q kept is ∙ sym (complete.right q kept is).value
    by (inr unbound) = known_unbound scene keeping complete.right q unbound ∙ sym (fresh_unbound scene [] q unbound refl)

pub unmarked_is_complete : (scene : Scene) (marks : Marks) (keeping : Keeping) → AreMore marks no_marks → IsRightBut scene marks keeping
    → IsWhole scene marks keeping → IsComplete scene keeping
unmarked_is_complete scene marks keeping none right whole = record
    { right = right keeping (λ q kept is. is) closed clear; closed = closed; whole = λ q. whole q (off q) }
  where
    off : (q : Property) → is_marked marks q ≡ false
    off q = false_from_ne_true (is_marked marks q) (λ on. both_ways false refl (none q on))

    closed : IsClosed scene keeping
    closed q kept is k d lt = whole _ (off _)

    clear : IsClear marks keeping
    clear q kept is = record { own = off q; reads = λ k d lt. off _ }

pub complete_is_right : (scene : Scene) (marks : Marks) (keeping : Keeping) → IsComplete scene keeping → IsRightBut scene marks keeping
complete_is_right scene marks keeping complete part within closed clear = part_is_right scene part keeping complete.right within closed

-- what is kept of the rest

pub rest_kept : (marks : Marks) (keeping : Keeping) (q : Property) (kept : EvalResult) → unmarked marks keeping q ≡ Some kept
    → (is_marked marks q ≡ false) × (keeping q ≡ Some kept)
rest_kept marks keeping q kept is = by (is_marked marks q) is
  where
    by : (b : Bool) → cond b None (keeping q) ≡ Some kept → (b ≡ false) × (keeping q ≡ Some kept)
    by true e = absurd (cc)
    by false e = (refl, e)

pub kept_of_rest : (marks : Marks) (keeping : Keeping) (q : Property) (kept : EvalResult) → is_marked marks q ≡ false → keeping q ≡ Some kept
    → unmarked marks keeping q ≡ Some kept
kept_of_rest marks keeping q kept off is = ap (λ b. cond b None (keeping q)) off ∙ is

pub rest_is_right : (scene : Scene) (marks : Marks) (keeping : Keeping) → IsRightBut scene marks keeping → IsSpread scene marks keeping
    → IsRight scene (unmarked marks keeping) × IsClosed scene (unmarked marks keeping)
rest_is_right scene marks keeping right spread = (right (unmarked marks keeping) (λ q kept is. (rest_kept marks keeping q kept is).1) closed clear, closed)
  where
    there : (r : Property) → is_marked marks r ≡ false → IsKept keeping r ⊎ IsUnbound scene r → IsKept (unmarked marks keeping) r ⊎ IsUnbound scene r
    there r off (inl (kept, e)) = inl (kept, kept_of_rest marks keeping r kept off e)
    there r off (inr unbound) = inr unbound

    closed : IsClosed scene (unmarked marks keeping)
    closed q kept is =
        let both = rest_kept marks keeping q kept is in
        λ k d lt. (let off = spread.read q kept both.1 both.0 k d lt in there _ off (spread.bound _ off))

    clear : IsClear marks (unmarked marks keeping)
    clear q kept is = let both = rest_kept marks keeping q kept is in record { own = both.0; reads = spread.read q kept both.1 both.0 }
