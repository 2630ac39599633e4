-- Where more was seen, a property has the same value or is a loop.
use Rattle.std.proofs.Common.{◌≡◌, ◌∙◌, ◌⊎◌, ℕ, Bool, true, false, List, [], ◌∷◌, ◌++◌, Option, Some, None, Err, IfSome, All, refl, sym, ap, inl, inr, ⊎_elim}
use Rattle.std.proofs.lemmas.Bool.{both_ways, or_cases, or_left, or_right}
use Rattle.signature_core.specs.declared.kind.Kind.{Kind}
use Rattle.term_core.specs.Term.{Term}
use Rattle.term_evaluation.specs.declared.reading.Read.{Read}
use Rattle.term_evaluation.specs.Evaluation.{eval_by}
use Rattle.term_evaluation.specs.Outcomes.{Answer, Cause, own}
use Rattle.property_store.specs.declared.property.Property.{Property}
use Rattle.binding_values.specs.declared.property.BindingError.{BindingError}
use Rattle.binding_values.specs.declared.property.BindingError.TheVariants.{BindingLoop}
use Rattle.term_evaluation.specs.Met.{met_by}
use Rattle.binding_values.specs.Scene.{Cell, Outcome, Scene, by_rule, choose, evaluated, met, passed_on, plain, reader, reading, settled, term_at}
use Rattle.property_store.specs.Property.{among, is_property}
use Rattle.binding_values.specs.Laws.{IsSubset}
use Rattle.term_evaluation.proofs.ForCallers.{Ended, Follows, follows}
use Rattle.binding_values.proofs.MapLemmas.{each_given}
use Rattle.binding_values.proofs.FuelLemmas.{by_unmet, plain_rule}

-- the fault of a loop
abbrev pub IsLoop : Cause BindingError → Type 0
IsLoop cause = cause ≡ own BindingLoop

abbrev pub IsSameOrLoop : Outcome → Outcome → Type 0
IsSameOrLoop more some = (more ≡ some) ⊎ (more ≡ Err BindingLoop)

pub turn : (one other : Property → Outcome) (o : Option Property) → IfSome o (λ r. IsSameOrLoop (other r) (one r))
    → (reading other o ≡ reading one o) ⊎ Ended IsLoop (reading other o)
turn one other None h = inl refl
turn one other (Some r) (inl e) = inl (ap passed_on e)
turn one other (Some r) (inr e) = inr (own BindingLoop, refl, ap passed_on e)

-- an evaluation in which each property that is read is the same or a loop
pub goes_as : (scene : Scene) (one other : Property → Outcome) (object : ℕ) (term : Term)
    → All (λ r. IsSameOrLoop (other r) (one r)) (met scene one object term)
    → Follows IsLoop (eval_by [] (reader scene one object) term) (met_by [] (reader scene one object) term) (eval_by [] (reader scene other object) term)
    (met_by [] (reader scene other object) term)
goes_as scene one other object term h =
    let each = each_given (λ (read : Read). scene.named object read.target read.name) (λ r. IsSameOrLoop (other r) (one r))
    (met_by [] (reader scene one object) term) h in
    follows IsLoop term [] (reader scene one object) (reader scene other object) (λ k d lt. turn one other _ (each k d lt))

pub settles_as : (kind : Kind) (r s : Answer BindingError) (q p : List Read) → Follows IsLoop r q s p → IsSameOrLoop (settled kind s) (settled kind r)
settles_as kind r s q p (inl (e, m)) = inl (ap (settled kind) e)
settles_as kind r s q p (inr ((cause, h, e), rest)) = inr (ap (settled kind) (e ∙ ap Err h))

pub met_before : (E : Cause BindingError → Type 0) (r s : Answer BindingError) (q p : List Read) → Follows E r q s p → (rest : List Read) × (q ≡ p ++ rest)
met_before E r s q p (inl (e, m)) = ([], sym m ∙ sym (nothing_more p))
  where
    nothing_more : (l : List Read) → l ++ [] ≡ l
    nothing_more [] = refl
    nothing_more (x ∷ xs) = ap (λ l. x ∷ l) (nothing_more xs)
met_before E r s q p (inr (ended, begins)) = begins

pub same_or_loop : (scene : Scene) (some more : List Property) → IsSubset some more → (q : Property) → IsSameOrLoop (plain scene more q) (plain scene some q)
same_or_loop scene some more subset q = by_unmet scene P step more some subset q
  where
    P : List Property → Type 0
    P more = (some : List Property) → IsSubset some more → (q : Property) → IsSameOrLoop (plain scene more q) (plain scene some q)

    step : (more : List Property) → ((q : Property) (term : Term) → term_at scene.bindings q ≡ Some term → among q more ≡ false → (some : List Property)
        → IsSubset some (q ∷ more) → (r : Property) → IsSameOrLoop (plain scene (q ∷ more) r) (plain scene some r)) → (some : List Property)
        → IsSubset some more → (q : Property) → IsSameOrLoop (plain scene more q) (plain scene some q)
    step more next some subset q = back (at (among q more) (among q some) (scene.cell_at q) (term_at scene.bindings q) refl refl refl)
      where
        grown : IsSubset (q ∷ some) (q ∷ more)
        grown r e = ⊎_elim (λ h. or_left (is_property r q) (among r more) h) (λ h. or_right (is_property r q) (among r more) (subset r h))
            (or_cases (is_property r q) (among r some) e)

        at : (b c : Bool) (cell : Option Cell) (term : Option Term) → among q more ≡ b → among q some ≡ c → term_at scene.bindings q ≡ term
            → IsSameOrLoop (choose b cell term (λ cell term. evaluated scene (plain scene (q ∷ more)) q.object cell.kind term))
            (choose c cell term (λ cell term. evaluated scene (plain scene (q ∷ some)) q.object cell.kind term))
        at true c cell term fresh seen bound = inr refl
        at false true cell term fresh seen bound = absurd (both_ways (among q more) fresh (subset q seen))
        at false false None term fresh seen bound = inl refl
        at false false (Some cell) None fresh seen bound = inl refl
        at false false (Some cell) (Some term) fresh seen bound =
            settles_as cell.kind _ _ _ _ (goes_as scene (plain scene (q ∷ some)) (plain scene (q ∷ more)) q.object term
            (λ k d lt. next q term bound fresh (q ∷ some) grown _))

        back : IsSameOrLoop (by_rule scene (plain scene) more q) (by_rule scene (plain scene) some q) → IsSameOrLoop (plain scene more q) (plain scene some q)
        back (inl e) = inl (plain_rule scene more q ∙ (e ∙ sym (plain_rule scene some q)))
        back (inr e) = inr (plain_rule scene more q ∙ e)
