-- What is kept stays right where nothing changed that it has read, and what is right is the value.
use Rattle.std.proofs.Common.{◌≡◌, ◌∙◌, ◌⊎◌, ℕ, true, false, List, [], ◌∷◌, ◌++◌, Option, Some, None, Ok, Err, IfSome, All, filter_map, option_map, refl, sym}
use Rattle.std.proofs.Common.{ap, ap₂, subst, inl, inr, ⊎_elim}
use Rattle.std.specs.List.{cons_option}
use Rattle.std.specs.Option.{option_map_or}
use Rattle.std.proofs.lemmas.Bool.{both_ways, or_cases, or_parts, cases_Bool}
use Rattle.std.proofs.lemmas.List.Elements.{All-head, All-tail}
use Rattle.term_core.specs.Term.{Term}
use Rattle.term_evaluation.specs.declared.reading.Read.{Read}
use Rattle.term_evaluation.specs.Evaluation.{eval_by}
use Rattle.term_evaluation.specs.Outcomes.{Answer, Cause}
use Rattle.property_store.specs.declared.property.Property.{Property}
use Rattle.binding_values.specs.declared.property.BindingError.{BindingError}
use Rattle.binding_values.specs.declared.property.BindingError.TheVariants.{BindingLoop, EvaluationError}
use Rattle.term_evaluation.specs.Met.{met_by}
use Rattle.binding_values.specs.Scene.{Cell, Outcome, Scene, choose, evaluated, met, passed_on, plain, reader, reading, settled, stored, term_at}
use Rattle.property_store.specs.Property.{among, is_property}
use Rattle.binding_values.specs.declared.eval_result.EvalResult.{EvalResult}
use Rattle.binding_values.specs.EvalResult.{at_hand, Agrees, IsClosed, IsKept, IsRight, IsRightAt, IsSteady, IsUnbound, IsWithin, Keeping, Knows, known}
use Rattle.binding_values.specs.Laws.{IsSubset}
use Rattle.term_evaluation.proofs.ForCallers.{Follows, Turn, first_part, follows}
use Rattle.binding_values.proofs.MapLemmas.{each_given}
use Rattle.binding_values.proofs.FuelLemmas.{by_unmet, plain_rule}
use Rattle.binding_values.proofs.ValueLemmas.{IsLoop, IsSameOrLoop, goes_as, met_before, same_or_loop}
use Rattle.binding_values.proofs.ChainLemmas.{at_bound, grown, loop_where_seen}

-- small facts of options

pub none_some : {X : Type 0} (o : Option X) (x : X) → o ≡ None → o ≡ Some x → ⊥
none_some o x e f = absurd (cc)

same_kind : (o : Option Cell) (c : Cell) → option_map (λ cell. cell.kind) (Some c) ≡ option_map (λ cell. cell.kind) o
    → (d : Cell) × (o ≡ Some d) × (c.kind ≡ d.kind)
same_kind None c e = absurd (cc)
same_kind (Some d) c e = (d, refl, cc)

-- another evaluation over the same answers

abbrev Never : Cause BindingError → Type 0
Never cause = ⊥

abbrev Same : Answer BindingError → List Read → Answer BindingError → List Read → Type 0
Same r q s p = (s ≡ r) × (p ≡ q)

never : (r s : Answer BindingError) (q p : List Read) → Follows Never r q s p → Same r q s p
never r s q p (inl same) = same
never r s q p (inr ((cause, h, e), rest)) = absurd h

same_given : {X Y : Type 0} (f g : X → Option Y) (xs : List X) → All (λ x. f x ≡ g x) xs → filter_map f xs ≡ filter_map g xs
same_given f g [] all = refl
same_given f g (x ∷ xs) all = ap₂ cons_option (All-head (λ x. f x ≡ g x) x xs all) (same_given f g xs (All-tail (λ x. f x ≡ g x) x xs all))

same_reading : (one other : Property → Outcome) (o p : Option Property) → o ≡ p → IfSome o (λ r. other r ≡ one r) → reading other p ≡ reading one o
same_reading one other None p e h = ap (reading other) (sym e)
same_reading one other (Some r) p e h = ap (reading other) (sym e) ∙ ap passed_on h

-- two evaluations at which names stand for the same properties, and these have the same values
pub record IsSame (a b : Scene) (one other : Property → Outcome) (object : ℕ) (term : Term) : Type 0 where
  pub value : eval_by [] (reader b other object) term ≡ eval_by [] (reader a one object) term
  pub reads : met b other object term ≡ met a one object term

pub same_evaluation : (a b : Scene) (one other : Property → Outcome) (object : ℕ) (term : Term)
    → All (λ read. a.named object read.target read.name ≡ b.named object read.target read.name) (met_by [] (reader a one object) term)
    → All (λ r. other r ≡ one r) (met a one object term) → IsSame a b one other object term
same_evaluation a b one other object term names values =
    let named_in_a : Read → Option Property = λ read. a.named object read.target read.name in
    let named_in_b : Read → Option Property = λ read. b.named object read.target read.name in
    let each = each_given named_in_a (λ r. other r ≡ one r) (met_by [] (reader a one object) term) values in
    let same = never _ _ _ _ (follows Never term [] (reader a one object) (reader b other object)
    (λ k d lt. inl (same_reading one other _ _ (names k d lt) (each k d lt)))) in
    record { value = same.0; reads = ap (filter_map named_in_b) same.1 ∙ sym (same_given named_in_a named_in_b (met_by [] (reader a one object) term) names) }

-- values of properties that were not seen

pub fresh_bound : (scene : Scene) (seen : List Property) (q : Property) (cell : Cell) (term : Term) → scene.cell_at q ≡ Some cell
    → term_at scene.bindings q ≡ Some term → among q seen ≡ false → plain scene seen q ≡ evaluated scene (plain scene (q ∷ seen)) q.object cell.kind term
fresh_bound scene seen q cell term there bound fresh = at_bound scene seen q cell term there bound
    ∙ ap (λ b. choose b (Some cell) (Some term) (λ cell term. evaluated scene (plain scene (q ∷ seen)) q.object cell.kind term)) fresh

pub fresh_unbound : (scene : Scene) (seen : List Property) (q : Property) → IsUnbound scene q → among q seen ≡ false → plain scene seen q ≡ stored scene q
fresh_unbound scene seen q unbound fresh =
    plain_rule scene seen q
    ∙ (ap (λ t. choose (among q seen) (scene.cell_at q) t (λ cell term. evaluated scene (plain scene (q ∷ seen)) q.object cell.kind term)) unbound
    ∙ (ap (λ b. choose b (scene.cell_at q) None (λ cell term. evaluated scene (plain scene (q ∷ seen)) q.object cell.kind term)) fresh ∙ at (scene.cell_at q)))
  where
    at : (o : Option Cell) → choose false o None (λ cell term. evaluated scene (plain scene (q ∷ seen)) q.object cell.kind term)
        ≡ option_map_or (λ cell. Ok cell.value) o (Err EvaluationError)
    at None = refl
    at (Some cell) = refl

same_or_loop_unbound : (scene : Scene) (seen : List Property) (q : Property) → IsUnbound scene q → IsSameOrLoop (plain scene seen q) (stored scene q)
same_or_loop_unbound scene seen q unbound = ⊎_elim (λ e. inr (loop_where_seen scene seen q e)) (λ e. inl (fresh_unbound scene seen q unbound e))
    (cases_Bool (among q seen))

-- what is kept, and what is known by it

pub known_kept : (scene : Scene) (keeping : Keeping) (q : Property) (kept : EvalResult) → keeping q ≡ Some kept → known scene keeping q ≡ kept.outcome
known_kept scene keeping q kept is = ap (λ o. option_map_or (λ (kept : EvalResult). kept.outcome) o (at_hand scene q)) is

pub hand_unbound : (scene : Scene) (q : Property) → IsUnbound scene q → at_hand scene q ≡ stored scene q
hand_unbound scene q unbound = ap (λ o. option_map_or (λ (term : Term). Err BindingLoop) o (stored scene q)) unbound

pub known_none : (scene : Scene) (keeping : Keeping) (q : Property) → keeping q ≡ None → known scene keeping q ≡ at_hand scene q
known_none scene keeping q none = ap (λ o. option_map_or (λ (kept : EvalResult). kept.outcome) o (at_hand scene q)) none

pub unbound_unkept : (scene : Scene) (keeping : Keeping) → IsRight scene keeping → (q : Property) → IsUnbound scene q → keeping q ≡ None
unbound_unkept scene keeping right q unbound = by (keeping q) refl
  where
    by : (o : Option EvalResult) → keeping q ≡ o → o ≡ None
    by None e = refl
    by (Some kept) e = absurd (none_some _ _ unbound (right q kept e).bound)

pub known_unbound : (scene : Scene) (keeping : Keeping) → IsRight scene keeping → (q : Property) → IsUnbound scene q → known scene keeping q ≡ stored scene q
known_unbound scene keeping right q unbound = known_none scene keeping q (unbound_unkept scene keeping right q unbound) ∙ hand_unbound scene q unbound

pub known_steady : (a b : Scene) (keeping : Keeping) → IsRight a keeping → (r : Property) → IsSteady a b keeping r → known b keeping r ≡ known a keeping r
known_steady a b keeping right r (inl (kept, is)) = known_kept b keeping r kept is ∙ sym (known_kept a keeping r kept is)
known_steady a b keeping right r (inr (in_a, in_b, same)) =
    (known_none b keeping r (unbound_unkept a keeping right r in_a) ∙ hand_unbound b r in_b) ∙ (sym same ∙ sym (known_unbound a keeping right r in_a))

-- what was seen beside is apart from what is kept
record IsBeside (b : Scene) (keeping : Keeping) (one more : List Property) : Type 0 where
  subset : IsSubset one more
  absent : (z : Property) → among z more ≡ true → among z one ≡ false → keeping z ≡ None
  bound : (z : Property) → among z more ≡ true → among z one ≡ false → IsUnbound b z → ⊥

module _ (a b : Scene) (keeping : Keeping) (right : IsRight a keeping) (agrees : Agrees a b keeping) where
  beside : (q : Property) (one more : List Property) → IsBeside b keeping one more → IsBeside b keeping (q ∷ one) (q ∷ more)
  beside q one more c = record { subset = grown q one more c.subset; absent = absent; bound = bound }
    where
      inner : (z : Property) → among z (q ∷ more) ≡ true → among z (q ∷ one) ≡ false → (among z more ≡ true) × (among z one ≡ false)
      inner z e f =
          let parts = or_parts (is_property z q) (among z one) f in
          ⊎_elim (λ h. absurd (both_ways (is_property z q) parts.0 h)) (λ h. (h, parts.1)) (or_cases (is_property z q) (among z more) e)

      absent : (z : Property) → among z (q ∷ more) ≡ true → among z (q ∷ one) ≡ false → keeping z ≡ None
      absent z e f = let both = inner z e f in c.absent z both.0 both.1

      bound : (z : Property) → among z (q ∷ more) ≡ true → among z (q ∷ one) ≡ false → IsUnbound b z → ⊥
      bound z e f = let both = inner z e f in c.bound z both.0 both.1

  -- a property that is kept has where more was seen, apart from what is kept, in the other scene the value
  -- that it has in the one
  abbrev Carried : List Property → Type 0
  Carried one = (more : List Property) → IsBeside b keeping one more → (q : Property) (kept : EvalResult) → keeping q ≡ Some kept
      → plain b more q ≡ plain a one q

  carried_read : (one : List Property) (more : List Property) → IsBeside b keeping one more
      → ((r : Property) (kept : EvalResult) → keeping r ≡ Some kept → plain b more r ≡ plain a one r) → (r : Property) → IsSteady a b keeping r
      → plain b more r ≡ plain a one r
  carried_read one more c next r (inl (kept, is)) = next r kept is
  carried_read one more c next r (inr (in_a, in_b, same)) = ⊎_elim seen fresh (cases_Bool (among r one))
    where
      seen : among r one ≡ true → plain b more r ≡ plain a one r
      seen e = loop_where_seen b more r (c.subset r e) ∙ sym (loop_where_seen a one r e)

      fresh : among r one ≡ false → plain b more r ≡ plain a one r
      fresh e = ⊎_elim (λ h. absurd (c.bound r h e in_b)) (λ h. fresh_unbound b more r in_b h ∙ (sym same ∙ sym (fresh_unbound a one r in_a e)))
          (cases_Bool (among r more))

  -- what is really read with properties seen is the first of what was read
  read_so_far : (one : List Property) (q : Property) (kept : EvalResult) → keeping q ≡ Some kept → (term : Term) → term_at a.bindings q ≡ Some term
      → (object : ℕ) → All (IsSteady a b keeping) (met a (known a keeping) object term)
      → (rest : List Read) × (met_by [] (reader a (known a keeping) object) term ≡ met_by [] (reader a (plain a one) object) term ++ rest)
  read_so_far one q kept is term bound object steady = met_before IsLoop _ _ _ _
      (goes_as a (known a keeping) (plain a one) object term (λ k d lt. each _ (steady k d lt)))
    where
      back : (r : Property) (k : EvalResult) → keeping r ≡ Some k → IsSameOrLoop (plain a one r) (plain a [] r)
          → IsSameOrLoop (plain a one r) (known a keeping r)
      back r k e (inl same) = inl (same ∙ ((right r k e).value ∙ sym (known_kept a keeping r k e)))
      back r k e (inr loop) = inr loop

      each : (r : Property) → IsSteady a b keeping r → IsSameOrLoop (plain a one r) (known a keeping r)
      each r (inl (k, e)) = back r k e (same_or_loop a [] one (λ z h. absurd (both_ways false refl h)) r)
      each r (inr (in_a, in_b, same)) = subst (IsSameOrLoop (plain a one r)) (sym (known_unbound a keeping right r in_a)) (same_or_loop_unbound a one r in_a)

  pub steady_reads : (q : Property) (kept : EvalResult) (is : keeping q ≡ Some kept)
      → All (IsSteady a b keeping) (met a (known a keeping) q.object (right q kept is).term)
  steady_reads q kept is = subst (All (IsSteady a b keeping)) (sym (right q kept is).reads) (agrees q kept is).reads

  same_value : (one more : List Property) → ((r : Property) → IsSteady a b keeping r → plain b more r ≡ plain a one r)
      → (q : Property) (kept : EvalResult) (is : keeping q ≡ Some kept)
      → eval_by [] (reader b (plain b more) q.object) (right q kept is).term ≡ eval_by [] (reader a (plain a one) q.object) (right q kept is).term
  same_value one more values q kept is =
      let r = right q kept is in
      let first = read_so_far one q kept is r.term r.bound q.object (steady_reads q kept is) in
      let each = each_given (λ (read : Read). a.named q.object read.target read.name) (IsSteady a b keeping)
      (met_by [] (reader a (known a keeping) q.object) r.term) (steady_reads q kept is) in
      let turns : All (Turn Never (reader a (plain a one) q.object) (reader b (plain b more) q.object))
      (met_by [] (reader a (known a keeping) q.object) r.term) =
      λ k d lt. inl (same_reading (plain a one) (plain b more) _ _ ((agrees q kept is).names r.term r.bound k d lt) (at _ (each k d lt))) in
      let now = first_part (Turn Never (reader a (plain a one) q.object) (reader b (plain b more) q.object))
      (met_by [] (reader a (plain a one) q.object) r.term) first.0
      (subst (All (Turn Never (reader a (plain a one) q.object) (reader b (plain b more) q.object))) first.1 turns) in
      (never _ _ _ _ (follows Never r.term [] (reader a (plain a one) q.object) (reader b (plain b more) q.object) now)).0
    where
      at : (o : Option Property) → IfSome o (IsSteady a b keeping) → IfSome o (λ r. plain b more r ≡ plain a one r)
      at None h = tt
      at (Some r) h = values r h

  pub cell_there : (q : Property) (kept : EvalResult) (is : keeping q ≡ Some kept)
      → (d : Cell) × (b.cell_at q ≡ Some d) × ((right q kept is).cell.kind ≡ d.kind)
  cell_there q kept is = same_kind (b.cell_at q) (right q kept is).cell
      (ap (option_map (λ cell. cell.kind)) (sym (right q kept is).there) ∙ (agrees q kept is).kind)

  carried : (one : List Property) → Carried one
  carried one = by_unmet a Carried step one
    where
      step : (one : List Property) → ((q : Property) (term : Term) → term_at a.bindings q ≡ Some term → among q one ≡ false → Carried (q ∷ one)) → Carried one
      step one next more c q kept is = ⊎_elim seen fresh (cases_Bool (among q one))
        where
          seen : among q one ≡ true → plain b more q ≡ plain a one q
          seen e = loop_where_seen b more q (c.subset q e) ∙ sym (loop_where_seen a one q e)

          evaluated_same : among q one ≡ false → among q more ≡ false → plain b more q ≡ plain a one q
          evaluated_same e f =
              let r = right q kept is in
              let there = cell_there q kept is in
              let value = same_value (q ∷ one) (q ∷ more)
              (carried_read (q ∷ one) (q ∷ more) (beside q one more c) (next q r.term r.bound e (q ∷ more) (beside q one more c))) q kept is in
              fresh_bound b more q there.0 r.term there.1 (sym (agrees q kept is).term ∙ r.bound) f
              ∙ (ap₂ settled (sym there.2) value ∙ sym (fresh_bound a one q r.cell r.term r.there r.bound e))

          fresh : among q one ≡ false → plain b more q ≡ plain a one q
          fresh e = ⊎_elim (λ h. absurd (none_some _ _ (c.absent q h e) is)) (evaluated_same e) (cases_Bool (among q more))

  pub knows : Knows b keeping
  knows q kept is seen apart = carried [] seen
      (record { subset = λ z h. absurd (both_ways false refl h); absent = λ z h e. apart.absent z h; bound = λ z h e. apart.bound z h }) q kept is
      ∙ (right q kept is).value

pub right_is_known : (scene : Scene) (keeping : Keeping) → IsRight scene keeping → IsClosed scene keeping → Knows scene keeping
right_is_known scene keeping right closed = knows scene scene keeping right agrees
  where
    steady : (r : Property) → IsKept keeping r ⊎ IsUnbound scene r → IsSteady scene scene keeping r
    steady r (inl kept) = inl kept
    steady r (inr unbound) = inr (unbound, unbound, refl)

    agrees : Agrees scene scene keeping
    agrees q kept is = record { kind = refl; term = refl; names = λ term bound k d lt. refl; reads = λ k d lt. steady _ (closed q kept is k d lt) }

-- a result is right by more of what is kept too, where all that it has read has the same value by that
pub right_with : (scene : Scene) (keeping more : Keeping) (q : Property) (kept : EvalResult) → IsRightAt scene keeping q kept
    → All (λ r. known scene more r ≡ known scene keeping r) kept.reads → IsRightAt scene more q kept
right_with scene keeping more q kept r reads =
    let same = same_evaluation scene scene (known scene keeping) (known scene more) q.object r.term (λ k d lt. refl)
    (subst (All (λ r. known scene more r ≡ known scene keeping r)) (sym r.reads) reads) in
    record {
      cell = r.cell;
      term = r.term;
      there = r.there;
      bound = r.bound;
      outcome = ap (settled r.cell.kind) same.value ∙ r.outcome;
      reads = same.reads ∙ r.reads;
      value = r.value;
    }

pub more_is_right : (scene : Scene) (keeping more : Keeping) → IsRight scene keeping → IsClosed scene keeping → IsWithin keeping more
    → ((q : Property) (kept : EvalResult) → more q ≡ Some kept → keeping q ≡ None → IsRightAt scene more q kept) → IsRight scene more
more_is_right scene keeping more right closed within rest q kept is = by (keeping q) refl
  where
    bound_unkept : (r : Property) → IsUnbound scene r → (o : Option EvalResult) → more r ≡ o → (p : Option EvalResult) → keeping r ≡ p → o ≡ None
    bound_unkept r unbound None e p f = refl
    bound_unkept r unbound (Some k) e None f = absurd (none_some _ _ unbound (rest r k e f).bound)
    bound_unkept r unbound (Some k) e (Some old) f = absurd (none_some _ _ unbound (right r old f).bound)

    known_in : (r : Property) → IsKept keeping r ⊎ IsUnbound scene r → known scene more r ≡ known scene keeping r
    known_in r (inl (k, e)) = known_kept scene more r k (within r k e) ∙ sym (known_kept scene keeping r k e)
    known_in r (inr unbound) =
        (known_none scene more r (bound_unkept r unbound (more r) refl (keeping r) refl) ∙ hand_unbound scene r unbound)
        ∙ sym (known_unbound scene keeping right r unbound)

    same_kept : (k : EvalResult) → keeping q ≡ Some k → k ≡ kept
    same_kept k e = let both : Some k ≡ Some kept = sym (within q k e) ∙ is in cc

    by : (o : Option EvalResult) → keeping q ≡ o → IsRightAt scene more q kept
    by None e = rest q kept is e
    by (Some k) e = subst (IsRightAt scene more q) (same_kept k e)
        (right_with scene keeping more q k (right q k e) (λ n d lt. known_in _ (closed q k e n d lt)))
