-- Values are found over a stack.
use Rattle.std.proofs.Common.{◌≡◌, ◌∙◌, ◌⊎◌, ℕ, ◌||◌, Bool, true, false, cond, List, [], ◌∷◌, ◌++◌, Option, Some, None, Ok, Err, IfSome, All, find, option_map}
use Rattle.std.proofs.Common.{Contains, get_or, refl, sym, ap, subst, inl, inr, ⊎_elim}
use Rattle.std.specs.Option.{option_map_or}
use Rattle.std.proofs.lemmas.Bool.{both_ways, or_cases, or_parts, false_from_ne_true}
use Rattle.std.proofs.lemmas.List.Elements.{All-append, All-cons, All-nil, Contains-get_or}
use Rattle.term_core.specs.Term.{Term}
use Rattle.term_evaluation.specs.declared.reading.Read.{Read}
use Rattle.term_evaluation.specs.Outcomes.{own}
use Rattle.binding_values.specs.declared.eval_result.CacheEntry.{CacheEntry}
use Rattle.binding_values.specs.declared.eval_result.EvalResult.{EvalResult}
use Rattle.property_store.specs.declared.property.Property.{Property}
use Rattle.binding_values.specs.declared.property.BindingError.TheVariants.{BindingLoop}
use Rattle.term_evaluation.specs.Met.{met_by}
use Rattle.binding_values.specs.Scene.{Scene, met, passed_on, plain, reader, reading, settled, stored, term_at}
use Rattle.property_store.specs.Property.{among, is_property}
use Rattle.binding_values.specs.EvalResult.{Apart, IsClosed, IsKept, IsRight, IsRightAt, IsUnbound, IsWithin, Keeping, kept_of, known}
use Rattle.term_evaluation.specs.Met.{EachButLast}
use Rattle.binding_values.specs.Run.{IsSettled, IsTried, Stacked, WaitsFor, ats, is_loop}
use Rattle.term_evaluation.proofs.ForCallers.{IsValue, goes_on}
use Rattle.binding_values.proofs.MapLemmas.{given_but_last}
use Rattle.binding_values.proofs.ChainLemmas.{passes_loop}
use Rattle.binding_values.proofs.FuelLemmas.{is_itself, property_eq}
use Rattle.binding_values.proofs.KeptLemmas.{fresh_bound, fresh_unbound, hand_unbound, known_kept, known_none, known_unbound, more_is_right, none_some}
use Rattle.binding_values.proofs.KeptLemmas.{right_is_known, right_with, same_evaluation, unbound_unkept}

-- what an evaluation over what is kept reads: all but the last is settled

no_value : (scene : Scene) (keeping : Keeping) (q : Property) (term : Term) → keeping q ≡ None → term_at scene.bindings q ≡ Some term
    → known scene keeping q ≡ Err BindingLoop
no_value scene keeping q term is bound = known_none scene keeping q is
    ∙ ap (λ o. option_map_or (λ (term : Term). Err BindingLoop) o (stored scene q)) bound

settled_by : (scene : Scene) (keeping : Keeping) (o : Option Property) → IsValue (reading (known scene keeping) o) → IfSome o (IsSettled scene keeping)
settled_by scene keeping None h = tt
settled_by scene keeping (Some q) (value, e) = by (keeping q) (term_at scene.bindings q) refl refl
  where
    by : (o : Option EvalResult) (term : Option Term) → keeping q ≡ o → term_at scene.bindings q ≡ term → IsSettled scene keeping q
    by (Some kept) term is bound = inl (kept, is)
    by None None is bound = inr bound
    by None (Some term) is bound =
        absurd (let both : Err (own BindingLoop) ≡ Ok value = sym (ap passed_on (no_value scene keeping q term is bound)) ∙ e in cc)

pub settled_but_last : (scene : Scene) (keeping : Keeping) (object : ℕ) (term : Term)
    → EachButLast (IsSettled scene keeping) (met scene (known scene keeping) object term)
settled_but_last scene keeping object term =
    given_but_last (λ (read : Read). scene.named object read.target read.name) (IsSettled scene keeping)
    (met_by [] (reader scene (known scene keeping) object) term)
    (λ k d lt. settled_by scene keeping _ (goes_on term [] (reader scene (known scene keeping) object) k d lt))

module _ (scene : Scene) (keeping : Keeping) (q : Property) (kept : EvalResult) (tried : IsTried scene keeping q kept) where
  pub tried_but_last : EachButLast (IsSettled scene keeping) kept.reads
  tried_but_last = subst (EachButLast (IsSettled scene keeping)) tried.reads (settled_but_last scene keeping q.object tried.term)

  -- an evaluation that is no loop has read only what is settled
  pub settled_unless_loop : is_loop kept.outcome ≡ false → All (IsSettled scene keeping) kept.reads
  settled_unless_loop none k d lt = by (keeping r) (term_at scene.bindings r) refl refl
    where
      r : Property
      r = get_or kept.reads k d

      read : Contains (met scene (known scene keeping) q.object tried.term) r
      read = subst (λ reads. Contains reads r) (sym tried.reads) (Contains-get_or kept.reads k d lt)

      by : (o : Option EvalResult) (term : Option Term) → keeping r ≡ o → term_at scene.bindings r ≡ term → IsSettled scene keeping r
      by (Some kept) term is bound = inl (kept, is)
      by None None is bound = inr bound
      by None (Some term) is bound =
          let loop : kept.outcome ≡ Err BindingLoop = sym tried.outcome
          ∙ passes_loop scene (known scene keeping) q.object tried.cell.kind tried.term r read (no_value scene keeping r term is bound) in
          absurd (both_ways (is_loop kept.outcome) none (ap is_loop loop))

-- rows

pub kept_append_some : (D E : List CacheEntry) (q : Property) (kept : EvalResult) → kept_of D q ≡ Some kept → kept_of (D ++ E) q ≡ Some kept
kept_append_some [] E q kept is = absurd (cc)
kept_append_some (row ∷ rest) E q kept is = by (is_property q row.at) is (kept_append_some rest E q kept)
  where
    by : (t : Bool) → option_map (λ (row : CacheEntry). row.kept) (cond t (Some row) (find (λ (row : CacheEntry). is_property q row.at) rest)) ≡ Some kept
        → (kept_of rest q ≡ Some kept → kept_of (rest ++ E) q ≡ Some kept)
        → option_map (λ (row : CacheEntry). row.kept) (cond t (Some row) (find (λ (row : CacheEntry). is_property q row.at) (rest ++ E))) ≡ Some kept
    by true e next = e
    by false e next = next e

pub kept_append_none : (D E : List CacheEntry) (q : Property) → kept_of D q ≡ None → kept_of (D ++ E) q ≡ kept_of E q
kept_append_none [] E q none = refl
kept_append_none (row ∷ rest) E q none = by (is_property q row.at) none (kept_append_none rest E q)
  where
    by : (t : Bool) → option_map (λ (row : CacheEntry). row.kept) (cond t (Some row) (find (λ (row : CacheEntry). is_property q row.at) rest)) ≡ None
        → (kept_of rest q ≡ None → kept_of (rest ++ E) q ≡ kept_of E q)
        → option_map (λ (row : CacheEntry). row.kept) (cond t (Some row) (find (λ (row : CacheEntry). is_property q row.at) (rest ++ E))) ≡ kept_of E q
    by true e next = absurd (cc)
    by false e next = next e

pub kept_within : (D E : List CacheEntry) → IsWithin (kept_of D) (kept_of (D ++ E))
kept_within D E q kept is = kept_append_some D E q kept is

-- what rows keep of a property that stands in them
pub kept_among : (rows : List CacheEntry) (q : Property) → among q (ats rows) ≡ true → IsKept (kept_of rows) q
kept_among [] q h = absurd (cc)
kept_among (row ∷ rest) q h = by (is_property q row.at) h (kept_among rest q)
  where
    by : (t : Bool) → (t || among q (ats rest)) ≡ true → (among q (ats rest) ≡ true → IsKept (kept_of rest) q)
        → (kept : EvalResult) × (option_map (λ (row : CacheEntry). row.kept) (cond t (Some row) (find (λ (row : CacheEntry). is_property q row.at) rest))
        ≡ Some kept)
    by true e next = (row.kept, refl)
    by false e next = next e

pub among_kept : (rows : List CacheEntry) (q : Property) (kept : EvalResult) → kept_of rows q ≡ Some kept → among q (ats rows) ≡ true
among_kept [] q kept is = absurd (cc)
among_kept (row ∷ rest) q kept is = by (is_property q row.at) is (among_kept rest q kept)
  where
    by : (t : Bool) → option_map (λ (row : CacheEntry). row.kept) (cond t (Some row) (find (λ (row : CacheEntry). is_property q row.at) rest)) ≡ Some kept
        → (kept_of rest q ≡ Some kept → among q (ats rest) ≡ true) → (t || among q (ats rest)) ≡ true
    by true e next = refl
    by false e next = next e

-- values of what is settled

pub settled_value : (scene : Scene) (keeping : Keeping) → IsRight scene keeping → IsClosed scene keeping → (seen : List Property) → Apart scene keeping seen
    → (r : Property) → IsSettled scene keeping r → plain scene seen r ≡ known scene keeping r
settled_value scene keeping right closed seen apart r (inl (kept, is)) = right_is_known scene keeping right closed r kept is seen apart
    ∙ sym (known_kept scene keeping r kept is)
settled_value scene keeping right closed seen apart r (inr unbound) =
    let fresh = false_from_ne_true (among r seen) (λ h. apart.bound r h unbound) in
    fresh_unbound scene seen r unbound fresh ∙ sym (known_unbound scene keeping right r unbound)

pub apart_one : (scene : Scene) (keeping : Keeping) (q : Property) (term : Term) → term_at scene.bindings q ≡ Some term → keeping q ≡ None
    → (seen : List Property) → Apart scene keeping seen → Apart scene keeping (q ∷ seen)
apart_one scene keeping q term bound absent seen apart = record {
  absent = λ r h. ⊎_elim (λ e. subst (λ z. keeping z ≡ None) (sym (property_eq r q e)) absent) (apart.absent r) (or_cases (is_property r q) (among r seen) h);
  bound = λ r h u. ⊎_elim (λ e. none_some _ _ u (ap (term_at scene.bindings) (property_eq r q e) ∙ bound)) (λ e. apart.bound r e u)
      (or_cases (is_property r q) (among r seen) h);
}

pub apart_none : (scene : Scene) (keeping : Keeping) → Apart scene keeping []
apart_none scene keeping = record { absent = λ r h. absurd (both_ways false refl h); bound = λ r h u. both_ways false refl h }

-- more is kept: each new row is right by what was kept before
pub record IsNew (scene : Scene) (keeping more : Keeping) (q : Property) (kept : EvalResult) : Type 0 where
  pub tried : IsTried scene keeping q kept
  pub same : All (λ r. known scene more r ≡ known scene keeping r) kept.reads
  pub value : plain scene [] q ≡ kept.outcome
  pub closed : All (λ r. IsKept more r ⊎ IsUnbound scene r) kept.reads

pub grows : (scene : Scene) (keeping more : Keeping) → IsRight scene keeping → IsClosed scene keeping → IsWithin keeping more
    → ((q : Property) (kept : EvalResult) → more q ≡ Some kept → keeping q ≡ None → IsNew scene keeping more q kept) → IsRight scene more × IsClosed scene more
grows scene keeping more right closed within new = (more_is_right scene keeping more right closed within rest, still_closed)
  where
    rest : (q : Property) (kept : EvalResult) → more q ≡ Some kept → keeping q ≡ None → IsRightAt scene more q kept
    rest q kept is none =
        let n = new q kept is none in
        let t = n.tried in
        right_with scene keeping more q kept
        (record { cell = t.cell; term = t.term; there = t.there; bound = t.bound; outcome = t.outcome; reads = t.reads; value = n.value }) n.same

    still_closed : IsClosed scene more
    still_closed q kept is = by (keeping q) refl
      where
        old : (k : EvalResult) → keeping q ≡ Some k → k ≡ kept → All (λ r. IsKept more r ⊎ IsUnbound scene r) kept.reads
        old k e same = subst (λ (k : EvalResult). All (λ r. IsKept more r ⊎ IsUnbound scene r) k.reads) same (λ n d lt. wider _ (closed q k e n d lt))
          where
            wider : (r : Property) → IsKept keeping r ⊎ IsUnbound scene r → IsKept more r ⊎ IsUnbound scene r
            wider r (inl (k', e')) = inl (k', within r k' e')
            wider r (inr unbound) = inr unbound

        by : (o : Option EvalResult) → keeping q ≡ o → All (λ r. IsKept more r ⊎ IsUnbound scene r) kept.reads
        by None e = (new q kept is e).closed
        by (Some k) e = old k e (let both : Some k ≡ Some kept = sym (within q k e) ∙ is in cc)

-- an evaluation that has come to nothing but what is settled is the value

finished_value : (scene : Scene) (keeping : Keeping) → IsRight scene keeping → IsClosed scene keeping → (q : Property) (kept : EvalResult)
    → IsTried scene keeping q kept → All (IsSettled scene keeping) kept.reads → plain scene [] q ≡ kept.outcome
finished_value scene keeping right closed q kept tried all =
    let apart = apart_one scene keeping q tried.term tried.bound tried.absent [] (apart_none scene keeping) in
    let same = same_evaluation scene scene (known scene keeping) (plain scene (q ∷ [])) q.object tried.term (λ k d lt. refl)
    (subst (All (λ r. plain scene (q ∷ []) r ≡ known scene keeping r)) (sym tried.reads)
    (λ k d lt. settled_value scene keeping right closed (q ∷ []) apart _ (all k d lt))) in
    fresh_bound scene [] q tried.cell tried.term tried.there tried.bound refl ∙ (ap (settled tried.cell.kind) same.value ∙ tried.outcome)

-- where a settled property stays as it was known
known_still : (scene : Scene) (keeping more : Keeping) → IsRight scene keeping → IsWithin keeping more → ((r : Property) → IsUnbound scene r → more r ≡ None)
    → (r : Property) → IsSettled scene keeping r → known scene more r ≡ known scene keeping r
known_still scene keeping more right within unbound_new r (inl (kept, is)) = known_kept scene more r kept (within r kept is)
    ∙ sym (known_kept scene keeping r kept is)
known_still scene keeping more right within unbound_new r (inr unbound) = known_none scene more r (unbound_new r unbound)
    ∙ (hand_unbound scene r unbound ∙ sym (known_unbound scene keeping right r unbound))

pub still_settled : (scene : Scene) (keeping more : Keeping) → IsWithin keeping more → (r : Property) → IsSettled scene keeping r → IsSettled scene more r
still_settled scene keeping more within r (inl (kept, is)) = inl (kept, within r kept is)
still_settled scene keeping more within r (inr unbound) = inr unbound

-- one row more

module _ (scene : Scene) (D : List CacheEntry) (row : CacheEntry) (right : IsRight scene (kept_of D)) (closed : IsClosed scene (kept_of D))
    (tried : IsTried scene (kept_of D) row.at row.kept) where
  More : List CacheEntry
  More = D ++ row ∷ []

  own_row : (q : Property) (kept : EvalResult) → kept_of D q ≡ None → kept_of (D ++ row ∷ []) q ≡ Some kept → (q ≡ row.at) × (row.kept ≡ kept)
  own_row q kept none is = by (is_property q row.at) refl (sym (kept_append_none D (row ∷ []) q none) ∙ is)
    where
      by : (t : Bool) → is_property q row.at ≡ t → option_map (λ (row : CacheEntry). row.kept) (cond t (Some row) None) ≡ Some kept
          → (q ≡ row.at) × (row.kept ≡ kept)
      by true e h = (property_eq q row.at e, cc)
      by false e h = absurd (cc)

  unbound_new : (r : Property) → IsUnbound scene r → kept_of (D ++ row ∷ []) r ≡ None
  unbound_new r unbound = by (kept_of (D ++ row ∷ []) r) refl
    where
      by : (o : Option EvalResult) → kept_of (D ++ row ∷ []) r ≡ o → o ≡ None
      by None e = refl
      by (Some kept) e =
          let own = own_row r kept (unbound_unkept scene (kept_of D) right r unbound) e in
          absurd (none_some _ _ unbound (ap (term_at scene.bindings) own.0 ∙ tried.bound))

  pub others_none : (z : Property) → kept_of D z ≡ None → is_property z row.at ≡ false → kept_of (D ++ row ∷ []) z ≡ None
  others_none z none off = kept_append_none D (row ∷ []) z none ∙ ap (λ t. option_map (λ (row : CacheEntry). row.kept) (cond t (Some row) None)) off

  -- a row whose reads are all settled
  pub finished : All (IsSettled scene (kept_of D)) row.kept.reads → IsRight scene (kept_of (D ++ row ∷ [])) × IsClosed scene (kept_of (D ++ row ∷ []))
  finished all = grows scene (kept_of D) (kept_of (D ++ row ∷ [])) right closed (kept_within D (row ∷ [])) new
    where
      at_row : IsNew scene (kept_of D) (kept_of (D ++ row ∷ [])) row.at row.kept
      at_row = record {
        tried = tried;
        same = λ k d lt. known_still scene (kept_of D) (kept_of (D ++ row ∷ [])) right (kept_within D (row ∷ [])) unbound_new _ (all k d lt);
        value = finished_value scene (kept_of D) right closed row.at row.kept tried all;
        closed = λ k d lt. still_settled scene (kept_of D) (kept_of (D ++ row ∷ [])) (kept_within D (row ∷ [])) _ (all k d lt);
      }

      new : (q : Property) (kept : EvalResult) → kept_of (D ++ row ∷ []) q ≡ Some kept → kept_of D q ≡ None
          → IsNew scene (kept_of D) (kept_of (D ++ row ∷ [])) q kept
      new q kept is none =
          let own = own_row q kept none is in
          subst (λ z. IsNew scene (kept_of D) (kept_of (D ++ row ∷ [])) z kept) (sym own.0)
          (subst (IsNew scene (kept_of D) (kept_of (D ++ row ∷ [])) row.at) own.1 at_row)

  -- what waits for another property waits for it still
  waits_still : (q : Property) (kept : EvalResult) (next : Property) → IsTried scene (kept_of D) q kept → WaitsFor scene (kept_of D) kept.reads next
      → is_property q row.at ≡ false → is_property next row.at ≡ false
      → IsTried scene (kept_of (D ++ row ∷ [])) q kept × WaitsFor scene (kept_of (D ++ row ∷ [])) kept.reads next
  waits_still q kept next t w off next_off =
      let within = kept_within D (row ∷ []) in
      let next_none = others_none next w.absent next_off in
      let at_next : known scene (kept_of (D ++ row ∷ [])) next ≡ known scene (kept_of D) next = known_none scene (kept_of (D ++ row ∷ [])) next next_none
      ∙ sym (known_none scene (kept_of D) next w.absent) in
      let front : All (λ r. known scene (kept_of (D ++ row ∷ [])) r ≡ known scene (kept_of D) r) w.front =
      λ k d lt. known_still scene (kept_of D) (kept_of (D ++ row ∷ [])) right within unbound_new _ (w.settled k d lt) in
      let all : All (λ r. known scene (kept_of (D ++ row ∷ [])) r ≡ known scene (kept_of D) r) kept.reads =
      subst (All (λ r. known scene (kept_of (D ++ row ∷ [])) r ≡ known scene (kept_of D) r)) (sym w.last)
      (All-append (λ r. known scene (kept_of (D ++ row ∷ [])) r ≡ known scene (kept_of D) r) w.front (next ∷ []) front
      (All-cons (λ r. known scene (kept_of (D ++ row ∷ [])) r ≡ known scene (kept_of D) r) next [] at_next
      (All-nil (λ r. known scene (kept_of (D ++ row ∷ [])) r ≡ known scene (kept_of D) r)))) in
      let same = same_evaluation scene scene (known scene (kept_of D)) (known scene (kept_of (D ++ row ∷ []))) q.object t.term (λ k d lt. refl)
      (subst (All (λ r. known scene (kept_of (D ++ row ∷ [])) r ≡ known scene (kept_of D) r)) (sym t.reads) all) in (
        record {
          cell = t.cell;
          term = t.term;
          there = t.there;
          bound = t.bound;
          absent = others_none q t.absent off;
          outcome = ap (settled t.cell.kind) same.value ∙ t.outcome;
          reads = same.reads ∙ t.reads;
        },
        record {
          front = w.front;
          last = w.last;
          settled = λ k d lt. still_settled scene (kept_of D) (kept_of (D ++ row ∷ [])) within _ (w.settled k d lt);
          term = w.term;
          bound = w.bound;
          absent = next_none;
        },
      )

  pub stacked_still : (rows : List CacheEntry) (top : Property) → Stacked scene (kept_of D) rows top → among row.at (top ∷ ats rows) ≡ false
      → Stacked scene (kept_of (D ++ row ∷ [])) rows top
  stacked_still [] top stack off = tt
  stacked_still (r ∷ rest) top stack off =
      let parts = or_parts (is_property row.at top) (among row.at (ats (r ∷ rest))) off in
      let inner = or_parts (is_property row.at r.at) (among row.at (ats rest)) parts.1 in
      let s = stack.0 in
      let still = waits_still r.at r.kept top s.tried s.waits (turned r.at inner.0) (turned top parts.0) in
      (record { tried = still.0; waits = still.1; reads = s.reads; fresh = s.fresh }, stacked_still rest r.at stack.1 parts.1)
    where
      turned : (z : Property) → is_property row.at z ≡ false → is_property z row.at ≡ false
      turned z e = false_from_ne_true (is_property z row.at)
          (λ h. both_ways (is_property row.at z) e (subst (λ y. is_property y z ≡ true) (property_eq z row.at h) (is_itself z)))
