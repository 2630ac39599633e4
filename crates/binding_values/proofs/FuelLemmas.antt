-- The number of bindings is fuel enough: the rule is the whole of a value's definition.
use Rattle.std.proofs.Common.{◌≡◌, ℕ, zero, suc, ◌<◌, ◌≤◌, ◌||◌, ◌==◌, Bool, true, false, cond, List, [], ◌∷◌, Option, Some, None, Err, find, option_map}
use Rattle.std.proofs.Common.{length, refl, ap, ap₂, subst, arith}
use Rattle.std.proofs.lemmas.Bool.{and_parts, eqb-true, eq-eqb, and_from}
use Rattle.term_core.specs.Term.{Term}
use Rattle.property_store.specs.declared.property.Property.{Property}
use Rattle.binding_values.specs.declared.property.BindingError.TheVariants.{BindingLoop}
use Rattle.binding_values.specs.declared.binding.Binding.{Binding}
use Rattle.binding_values.specs.Scene.{Cell, Outcome, Scene, by_rule, choose, evaluated, plain, term_at, unmet, within}
use Rattle.property_store.specs.Property.{among, is_property}

pub property_eq : (p q : Property) → is_property p q ≡ true → p ≡ q
property_eq p q e =
    let parts = and_parts (p.object == q.object) (p.number == q.number) e in
    ap₂ (λ object number. let made : Property = record { object = object; number = number } in made) (eqb-true p.object q.object parts.0)
    (eqb-true p.number q.number parts.1)

pub is_itself : (q : Property) → is_property q q ≡ true
is_itself q = and_from _ _ (eq-eqb q.object q.object refl) (eq-eqb q.number q.number refl)

unmet_few : (seen : List Property) (bs : List Binding) → unmet seen bs ≤ length bs
unfolding unmet
unmet_few seen [] = omega arith
unmet_few seen (b ∷ bs) = by (among b.at seen) (unmet_few seen bs)
  where
    by : (t : Bool) → unmet seen bs ≤ length bs → cond t (unmet seen bs) (suc (unmet seen bs)) ≤ suc (length bs)
    by true h = omega arith
    by false h = omega arith

unmet_falls : (q : Property) (seen : List Property) (bs : List Binding) → unmet (q ∷ seen) bs ≤ unmet seen bs
unfolding unmet
unmet_falls q seen [] = omega arith
unmet_falls q seen (b ∷ bs) = by (is_property b.at q) (among b.at seen) (unmet_falls q seen bs)
  where
    by : (t u : Bool) → unmet (q ∷ seen) bs ≤ unmet seen bs →
        cond (t || u) (unmet (q ∷ seen) bs) (suc (unmet (q ∷ seen) bs)) ≤ cond u (unmet seen bs) (suc (unmet seen bs))
    by true true h = omega arith
    by true false h = omega arith
    by false true h = omega arith
    by false false h = omega arith

pub unmet_less : (q : Property) (term : Term) (seen : List Property) (bs : List Binding) → term_at bs q ≡ Some term → among q seen ≡ false
    → unmet (q ∷ seen) bs < unmet seen bs
unfolding unmet
unmet_less q term seen [] bound fresh = absurd (cc)
unmet_less q term seen (b ∷ bs) bound fresh = by (is_property q b.at) refl bound (unmet_less q term seen bs)
  where
    later : (t u : Bool) → unmet (q ∷ seen) bs < unmet seen bs
        → cond (t || u) (unmet (q ∷ seen) bs) (suc (unmet (q ∷ seen) bs)) < cond u (unmet seen bs) (suc (unmet seen bs))
    later true true h = omega arith
    later true false h = omega arith
    later false true h = omega arith
    later false false h = omega arith

    here : (t u : Bool) → t ≡ true → u ≡ false → unmet (q ∷ seen) bs ≤ unmet seen bs
        → cond (t || u) (unmet (q ∷ seen) bs) (suc (unmet (q ∷ seen) bs)) < cond u (unmet seen bs) (suc (unmet seen bs))
    here true false e f h = omega arith
    here true true e f h = absurd (cc)
    here false u e f h = absurd (cc)

    by : (t : Bool) → is_property q b.at ≡ t → option_map (λ binding. binding.expr) (cond t (Some b) (find (λ binding. is_property q binding.at) bs))
        ≡ Some term → (term_at bs q ≡ Some term → among q seen ≡ false → unmet (q ∷ seen) bs < unmet seen bs)
        → cond (is_property b.at q || among b.at seen) (unmet (q ∷ seen) bs) (suc (unmet (q ∷ seen) bs)) < cond (among b.at seen) (unmet seen bs)
        (suc (unmet seen bs))
    by true e found rest =
        let same = property_eq q b.at e in
        here (is_property b.at q) (among b.at seen) (subst (λ p. is_property p q ≡ true) same (is_itself q)) (subst (λ p. among p seen ≡ false) same fresh)
        (unmet_falls q seen bs)
    by false e found rest = later (is_property b.at q) (among b.at seen) (rest found fresh)

-- the rule asks of others' values only with this property seen too, where it is bound and was not seen
pub by_rule_same : (scene : Scene) (one other : List Property → Property → Outcome) (seen : List Property) (q : Property)
    → ((term : Term) → term_at scene.bindings q ≡ Some term → among q seen ≡ false → (r : Property) → one (q ∷ seen) r ≡ other (q ∷ seen) r)
    → by_rule scene one seen q ≡ by_rule scene other seen q
by_rule_same scene one other seen q h = by (among q seen) (scene.cell_at q) (term_at scene.bindings q) refl refl
  where
    by : (b : Bool) (cell : Option Cell) (term : Option Term) → among q seen ≡ b → term_at scene.bindings q ≡ term
        → choose b cell term (λ cell term. evaluated scene (one (q ∷ seen)) q.object cell.kind term)
        ≡ choose b cell term (λ cell term. evaluated scene (other (q ∷ seen)) q.object cell.kind term)
    by true cell term e bound = refl
    by false None term e bound = refl
    by false (Some cell) None e bound = refl
    by false (Some cell) (Some term) e bound = ap (λ (value : Property → Outcome). evaluated scene value q.object cell.kind term) (λ i r. h term bound e r i)

abbrev none_met : List Property → Property → Outcome
none_met seen q = Err BindingLoop

stable : (scene : Scene) (n m : ℕ) (seen : List Property) → unmet seen scene.bindings ≤ n → unmet seen scene.bindings ≤ m → (q : Property)
    → within scene n seen q ≡ within scene m seen q
stable scene zero zero seen few enough q = refl
stable scene zero (suc m) seen few enough q = by_rule_same scene none_met (within scene m) seen q
    (λ term bound fresh r. absurd (let less = unmet_less q term seen scene.bindings bound fresh in omega arith))
stable scene (suc n) zero seen few enough q = by_rule_same scene (within scene n) none_met seen q
    (λ term bound fresh r. absurd (let less = unmet_less q term seen scene.bindings bound fresh in omega arith))
stable scene (suc n) (suc m) seen few enough q = by_rule_same scene (within scene n) (within scene m) seen q
    (λ term bound fresh r. let less = unmet_less q term seen scene.bindings bound fresh in stable scene n m (q ∷ seen) (omega arith) (omega arith) r)

enough_by : (scene : Scene) (n : ℕ) (seen : List Property) → unmet seen scene.bindings ≤ n → (q : Property)
    → within scene n seen q ≡ by_rule scene (within scene n) seen q
enough_by scene zero seen few q = by_rule_same scene none_met (within scene zero) seen q
    (λ term bound fresh r. absurd (let less = unmet_less q term seen scene.bindings bound fresh in omega arith))
enough_by scene (suc n) seen few q = by_rule_same scene (within scene n) (within scene (suc n)) seen q
    (λ term bound fresh r. let less = unmet_less q term seen scene.bindings bound fresh in stable scene n (suc n) (q ∷ seen) (omega arith) (omega arith) r)

pub plain_rule : (scene : Scene) (seen : List Property) (q : Property) → plain scene seen q ≡ by_rule scene (plain scene) seen q
unfolding plain
plain_rule scene seen q = enough_by scene (length scene.bindings) seen (unmet_few seen scene.bindings) q

-- what holds where it holds with one more bound property seen holds for every list of those that were seen
pub by_unmet : (scene : Scene) (P : List Property → Type 0) →
    ((seen : List Property) → ((q : Property) (term : Term) → term_at scene.bindings q ≡ Some term → among q seen ≡ false → P (q ∷ seen)) → P seen)
    → (seen : List Property) → P seen
by_unmet scene P step seen = go (length scene.bindings) seen (unmet_few seen scene.bindings)
  where
    go : (n : ℕ) (some : List Property) → unmet some scene.bindings ≤ n → P some
    go zero some few = step some (λ q term bound fresh. absurd (let less = unmet_less q term some scene.bindings bound fresh in omega arith))
    go (suc n) some few = step some (λ q term bound fresh. let less = unmet_less q term some scene.bindings bound fresh in go n (q ∷ some) (omega arith))
