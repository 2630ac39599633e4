-- Along a chain the last property has the value that it has with nothing seen.
use Rattle.std.proofs.Common.{◌≡◌, ◌∙◌, ℕ, Bool, true, false, List, [], ◌∷◌, Option, Some, None, Err, Contains, refl, sym, ap, subst, inl, inr, ⊎_elim}
use Rattle.std.proofs.lemmas.Bool.{both_ways, or_cases, or_left, or_right, or_parts, cases_Bool}
use Rattle.signature_core.specs.declared.kind.Kind.{Kind}
use Rattle.term_core.specs.Term.{Term}
use Rattle.term_evaluation.specs.declared.reading.Read.{Read}
use Rattle.term_evaluation.specs.Outcomes.{own}
use Rattle.property_store.specs.declared.property.Property.{Property}
use Rattle.binding_values.specs.declared.property.BindingError.TheVariants.{BindingLoop}
use Rattle.term_evaluation.specs.Met.{met_by}
use Rattle.binding_values.specs.Scene.{Cell, Outcome, Scene, choose, evaluated, met, passed_on, plain, reader, reading, settled, term_at}
use Rattle.property_store.specs.Property.{among, is_property}
use Rattle.binding_values.specs.Laws.{IsChain, IsSubset, ReallyReads}
use Rattle.term_evaluation.proofs.ForCallers.{fault_met}
use Rattle.binding_values.proofs.MapLemmas.{giver}
use Rattle.binding_values.proofs.FuelLemmas.{by_unmet, plain_rule, property_eq}
use Rattle.binding_values.proofs.ValueLemmas.{IsSameOrLoop, same_or_loop}

pub loop_where_seen : (scene : Scene) (seen : List Property) (q : Property) → among q seen ≡ true → plain scene seen q ≡ Err BindingLoop
loop_where_seen scene seen q e = plain_rule scene seen q ∙ ap
    (λ b. choose b (scene.cell_at q) (term_at scene.bindings q) (λ cell term. evaluated scene (plain scene (q ∷ seen)) q.object cell.kind term)) e

pub grown : (q : Property) (some more : List Property) → IsSubset some more → IsSubset (q ∷ some) (q ∷ more)
grown q some more subset r e = ⊎_elim (λ h. or_left (is_property r q) (among r more) h) (λ h. or_right (is_property r q) (among r more) (subset r h))
    (or_cases (is_property r q) (among r some) e)

pub with_one : (q : Property) (seen : List Property) → IsSubset seen (q ∷ seen)
with_one q seen r e = or_right (is_property r q) (among r seen) e

pub still_loop : (scene : Scene) (some more : List Property) → IsSubset some more → (q : Property) → plain scene some q ≡ Err BindingLoop
    → plain scene more q ≡ Err BindingLoop
still_loop scene some more subset q e = by (same_or_loop scene some more subset q)
  where
    by : IsSameOrLoop (plain scene more q) (plain scene some q) → plain scene more q ≡ Err BindingLoop
    by (inl same) = same ∙ e
    by (inr loop) = loop

-- to have seen loops too changes nothing
same_with_loops : (scene : Scene) (some more : List Property) → IsSubset some more
    → ((z : Property) → among z more ≡ true → among z some ≡ false → plain scene some z ≡ Err BindingLoop) → (q : Property)
    → plain scene more q ≡ plain scene some q
same_with_loops scene some more subset loops q = by_unmet scene P step more some subset loops q
  where
    P : List Property → Type 0
    P more = (some : List Property) → IsSubset some more → ((z : Property) → among z more ≡ true → among z some ≡ false → plain scene some z ≡ Err BindingLoop)
        → (q : Property) → plain scene more q ≡ plain scene some q

    step : (more : List Property) → ((q : Property) (term : Term) → term_at scene.bindings q ≡ Some term → among q more ≡ false → (some : List Property)
        → IsSubset some (q ∷ more) → ((z : Property) → among z (q ∷ more) ≡ true → among z some ≡ false → plain scene some z ≡ Err BindingLoop) → (r : Property)
        → plain scene (q ∷ more) r ≡ plain scene some r) → (some : List Property) → IsSubset some more
        → ((z : Property) → among z more ≡ true → among z some ≡ false → plain scene some z ≡ Err BindingLoop) → (q : Property)
        → plain scene more q ≡ plain scene some q
    step more next some subset loops q = ⊎_elim met fresh (cases_Bool (among q more))
      where
        met : among q more ≡ true → plain scene more q ≡ plain scene some q
        met e = loop_where_seen scene more q e ∙ sym (⊎_elim (loop_where_seen scene some q) (loops q e) (cases_Bool (among q some)))

        others : (z : Property) → among z (q ∷ more) ≡ true → among z (q ∷ some) ≡ false → plain scene (q ∷ some) z ≡ Err BindingLoop
        others z e f =
            let parts = or_parts (is_property z q) (among z some) f in
            ⊎_elim (λ h. absurd (both_ways (is_property z q) parts.0 h)) (λ h. still_loop scene some (q ∷ some) (with_one q some) z (loops z h parts.1))
            (or_cases (is_property z q) (among z more) e)

        at : (b c : Bool) (cell : Option Cell) (term : Option Term) → among q more ≡ b → among q some ≡ c → b ≡ false → term_at scene.bindings q ≡ term
            → choose b cell term (λ cell term. evaluated scene (plain scene (q ∷ more)) q.object cell.kind term)
            ≡ choose c cell term (λ cell term. evaluated scene (plain scene (q ∷ some)) q.object cell.kind term)
        at true c cell term m s off bound = absurd (cc)
        at false true cell term m s off bound = absurd (both_ways (among q more) m (subset q s))
        at false false None term m s off bound = refl
        at false false (Some cell) None m s off bound = refl
        at false false (Some cell) (Some term) m s off bound =
            ap (λ (value : Property → Outcome). evaluated scene value q.object cell.kind term)
            (λ i r. next q term bound m (q ∷ some) (grown q some more subset) others r i)

        fresh : among q more ≡ false → plain scene more q ≡ plain scene some q
        fresh e = plain_rule scene more q ∙ (at (among q more) (among q some) (scene.cell_at q) (term_at scene.bindings q) refl refl e refl
            ∙ sym (plain_rule scene some q))

-- a loop that is seen is the loop that it was
same_with_loop : (scene : Scene) (seen : List Property) (p : Property) → plain scene seen p ≡ Err BindingLoop → (q : Property)
    → plain scene (p ∷ seen) q ≡ plain scene seen q
same_with_loop scene seen p loop q = same_with_loops scene seen (p ∷ seen) (with_one p seen) loops q
  where
    loops : (z : Property) → among z (p ∷ seen) ≡ true → among z seen ≡ false → plain scene seen z ≡ Err BindingLoop
    loops z e f = ⊎_elim (λ h. subst (λ r. plain scene seen r ≡ Err BindingLoop) (sym (property_eq z p h)) loop) (λ h. absurd (both_ways (among z seen) f h))
        (or_cases (is_property z p) (among z seen) e)

-- what really reads a loop is one
pub passes_loop : (scene : Scene) (value : Property → Outcome) (object : ℕ) (kind : Kind) (term : Term) (q : Property)
    → Contains (met scene value object term) q → value q ≡ Err BindingLoop → evaluated scene value object kind term ≡ Err BindingLoop
passes_loop scene value object kind term q reads loop =
    let found = giver (λ (read : Read). scene.named object read.target read.name) (met_by [] (reader scene value object) term) q reads in
    ap (settled kind) (fault_met (own BindingLoop) found.0 term [] (reader scene value object) (ap (reading value) found.2 ∙ ap passed_on loop) found.1)

-- the value of a bound property that is there, where it was not seen
pub at_bound : (scene : Scene) (seen : List Property) (q : Property) (cell : Cell) (term : Term) → scene.cell_at q ≡ Some cell
    → term_at scene.bindings q ≡ Some term → plain scene seen q
    ≡ choose (among q seen) (Some cell) (Some term) (λ cell term. evaluated scene (plain scene (q ∷ seen)) q.object cell.kind term)
at_bound scene seen q cell term there bound =
    plain_rule scene seen q
    ∙ (ap (λ c. choose (among q seen) c (term_at scene.bindings q) (λ cell term. evaluated scene (plain scene (q ∷ seen)) q.object cell.kind term)) there
    ∙ ap (λ t. choose (among q seen) (Some cell) t (λ cell term. evaluated scene (plain scene (q ∷ seen)) q.object cell.kind term)) bound)

pub reads_loop : (scene : Scene) (before : List Property) (p q : Property) → ReallyReads scene before p q → plain scene (p ∷ before) q ≡ Err BindingLoop
    → plain scene before p ≡ Err BindingLoop
reads_loop scene before p q c loop = at_bound scene before p c.cell c.term c.there c.bound ∙ at (among p before)
  where
    at : (b : Bool) → choose b (Some c.cell) (Some c.term) (λ cell term. evaluated scene (plain scene (p ∷ before)) p.object cell.kind term) ≡ Err BindingLoop
    at true = refl
    at false = passes_loop scene (plain scene (p ∷ before)) p.object c.cell.kind c.term q c.reads loop

-- where the last but one of a chain is a loop, all before it are, and to have seen them changes nothing
as_with_nothing : (scene : Scene) (before : List Property) (p : Property) → IsChain scene before p → plain scene before p ≡ Err BindingLoop → (q : Property)
    → plain scene (p ∷ before) q ≡ plain scene [] q
as_with_nothing scene [] p chain loop q = same_with_loop scene [] p loop q
as_with_nothing scene (o ∷ before) p chain loop q = same_with_loop scene (o ∷ before) p loop q
    ∙ as_with_nothing scene before o chain.0 (reads_loop scene before o p chain.1 loop) q

pub chain_law : (scene : Scene) (before : List Property) (q : Property) → IsChain scene before q → plain scene before q ≡ plain scene [] q
chain_law scene [] q chain = refl
chain_law scene (p ∷ before) q chain = by (same_or_loop scene [] (p ∷ before) (λ r e. absurd (both_ways false refl e)) q)
  where
    by : IsSameOrLoop (plain scene (p ∷ before) q) (plain scene [] q) → plain scene (p ∷ before) q ≡ plain scene [] q
    by (inl same) = same
    by (inr loop) = as_with_nothing scene before p chain.0 (reads_loop scene before p q chain.1 loop) q
