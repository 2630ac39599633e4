-- The stack: what waits really reads, and where it waits for itself all of it is a loop.
use Rattle.std.proofs.Common.{◌≡◌, ◌∙◌, ◌⊎◌, Bool, true, false, cond, List, [], ◌∷◌, ◌++◌, Option, Some, None, Err, IfSome, All, Contains, filter_map, find}
use Rattle.std.proofs.Common.{option_map, refl, sym, ap, subst, inl, inr, ⊎_elim}
use Rattle.std.specs.Option.{option_map_or}
use Rattle.std.proofs.lemmas.Bool.{or_cases, or_left, or_right}
use Rattle.std.proofs.lemmas.List.Elements.{All-append, All-cons, All-nil, Contains-append_left, Contains-push, filter_map-append}
use Rattle.term_core.specs.Term.{Term}
use Rattle.term_evaluation.specs.declared.reading.Read.{Read}
use Rattle.binding_values.specs.declared.eval_result.CacheEntry.{CacheEntry}
use Rattle.binding_values.specs.declared.eval_result.EvalResult.{EvalResult}
use Rattle.property_store.specs.declared.property.Property.{Property}
use Rattle.binding_values.specs.declared.property.BindingError.TheVariants.{BindingLoop}
use Rattle.term_evaluation.specs.Met.{met_by}
use Rattle.binding_values.specs.Scene.{Scene, met, plain, reader, stored, term_at}
use Rattle.property_store.specs.Property.{among, is_property}
use Rattle.binding_values.specs.EvalResult.{at_hand, Apart, IsClosed, IsKept, IsRight, IsUnbound, Keeping, kept_of, known}
use Rattle.binding_values.specs.Laws.{IsChain, ReallyReads}
use Rattle.binding_values.specs.Run.{IsSettled, IsTried, Stacked, WaitsFor, ats}
use Rattle.term_evaluation.proofs.ForCallers.{follows_back}
use Rattle.binding_values.proofs.MapLemmas.{each_given}
use Rattle.binding_values.proofs.FuelLemmas.{is_itself, property_eq}
use Rattle.binding_values.proofs.ValueLemmas.{IsLoop, IsSameOrLoop, met_before, turn}
use Rattle.binding_values.proofs.ChainLemmas.{chain_law, loop_where_seen, passes_loop, reads_loop}
use Rattle.binding_values.proofs.KeptLemmas.{known_none}
use Rattle.binding_values.proofs.RunLemmas.{IsNew, among_kept, apart_none, apart_one, grows, kept_among, kept_append_none, kept_append_some, kept_within}
use Rattle.binding_values.proofs.RunLemmas.{settled_value}

-- a bound property of which nothing is kept counts as a loop
known_waiting : (scene : Scene) (keeping : Keeping) (q : Property) (term : Term) → term_at scene.bindings q ≡ Some term → keeping q ≡ None
    → known scene keeping q ≡ Err BindingLoop
known_waiting scene keeping q term bound none = known_none scene keeping q none
    ∙ ap (λ o. option_map_or (λ (term : Term). Err BindingLoop) o (stored scene q)) bound

module _ (scene : Scene) (keeping : Keeping) (right : IsRight scene keeping) (closed : IsClosed scene keeping) where
  -- what waits for a property really reads it, with what is below seen
  pub really_reads : (before : List Property) (q next : Property) (kept : EvalResult) → IsTried scene keeping q kept → WaitsFor scene keeping kept.reads next
      → Apart scene keeping before → ReallyReads scene before q next
  really_reads before q next kept t w apart =
      record {
        cell = t.cell;
        term = t.term;
        there = t.there;
        bound = t.bound;
        reads = subst (λ l. Contains l next) (sym whole)
            (Contains-append_left kept.reads rest next (subst (λ l. Contains l next) (sym w.last) (Contains-push w.front next)));
      }
    where
      seen : List Property
      seen = q ∷ before

      here : Apart scene keeping (q ∷ before)
      here = apart_one scene keeping q t.term t.bound t.absent before apart

      each : All (λ r. IsSameOrLoop (known scene keeping r) (plain scene (q ∷ before) r)) kept.reads
      each = subst (All (λ r. IsSameOrLoop (known scene keeping r) (plain scene (q ∷ before) r))) (sym w.last)
          (All-append (λ r. IsSameOrLoop (known scene keeping r) (plain scene (q ∷ before) r)) w.front (next ∷ [])
          (λ k d lt. inl (sym (settled_value scene keeping right closed (q ∷ before) here _ (w.settled k d lt))))
          (All-cons (λ r. IsSameOrLoop (known scene keeping r) (plain scene (q ∷ before) r)) next []
          (inr (known_waiting scene keeping next w.term w.bound w.absent))
          (All-nil (λ r. IsSameOrLoop (known scene keeping r) (plain scene (q ∷ before) r)))))

      given : All (λ (read : Read). IfSome (scene.named q.object read.target read.name)
          (λ r. IsSameOrLoop (known scene keeping r) (plain scene (q ∷ before) r))) (met_by [] (reader scene (known scene keeping) q.object) t.term)
      given = each_given (λ (read : Read). scene.named q.object read.target read.name) (λ r. IsSameOrLoop (known scene keeping r) (plain scene (q ∷ before) r))
          (met_by [] (reader scene (known scene keeping) q.object) t.term)
          (subst (All (λ r. IsSameOrLoop (known scene keeping r) (plain scene (q ∷ before) r))) (sym t.reads) each)

      first : (rest : List Read) × (met_by [] (reader scene (plain scene (q ∷ before)) q.object) t.term
          ≡ met_by [] (reader scene (known scene keeping) q.object) t.term ++ rest)
      first = met_before IsLoop _ _ _ _ (follows_back IsLoop t.term [] (reader scene (plain scene (q ∷ before)) q.object)
          (reader scene (known scene keeping) q.object) (λ k d lt. turn (plain scene (q ∷ before)) (known scene keeping) _ (given k d lt)))

      rest : List Property
      rest = filter_map (λ (read : Read). scene.named q.object read.target read.name) first.0

      whole : met scene (plain scene (q ∷ before)) q.object t.term ≡ kept.reads ++ rest
      whole = ap (filter_map (λ (read : Read). scene.named q.object read.target read.name)) first.1
          ∙ (filter_map-append (λ (read : Read). scene.named q.object read.target read.name)
          (met_by [] (reader scene (known scene keeping) q.object) t.term) first.0 ∙ ap (λ l. l ++ rest) t.reads)

  -- what is stacked is apart from what is kept, and a chain
  pub stacked_apart : (rows : List CacheEntry) (top : Property) → Stacked scene keeping rows top → Apart scene keeping (ats rows)
  stacked_apart [] top stack = apart_none scene keeping
  stacked_apart (row ∷ rest) top stack = apart_one scene keeping row.at stack.0.tried.term stack.0.tried.bound stack.0.tried.absent (ats rest)
      (stacked_apart rest row.at stack.1)

  pub stacked_chain : (rows : List CacheEntry) (top : Property) → Stacked scene keeping rows top → IsChain scene (ats rows) top
  stacked_chain [] top stack = tt
  stacked_chain (row ∷ rest) top stack = (stacked_chain rest row.at stack.1, stack.0.reads)

  -- where what is on top is a loop, all that is stacked is
  pub all_loops : (rows : List CacheEntry) (top : Property) → Stacked scene keeping rows top → plain scene (ats rows) top ≡ Err BindingLoop → (z : Property)
      → among z (top ∷ ats rows) ≡ true → plain scene [] z ≡ Err BindingLoop
  all_loops rows top stack loop z h = ⊎_elim own (below rows stack loop) (or_cases (is_property z top) (among z (ats rows)) h)
    where
      own : is_property z top ≡ true → plain scene [] z ≡ Err BindingLoop
      own e = ap (plain scene []) (property_eq z top e) ∙ (sym (chain_law scene (ats rows) top (stacked_chain rows top stack)) ∙ loop)

      below : (rows : List CacheEntry) → Stacked scene keeping rows top → plain scene (ats rows) top ≡ Err BindingLoop → among z (ats rows) ≡ true
          → plain scene [] z ≡ Err BindingLoop
      below rows stack loop e = further rows top stack loop e
        where
          further : (rows : List CacheEntry) (top : Property) → Stacked scene keeping rows top → plain scene (ats rows) top ≡ Err BindingLoop
              → among z (ats rows) ≡ true → plain scene [] z ≡ Err BindingLoop
          further [] top stack loop e = absurd (cc)
          further (row ∷ rest) top stack loop e =
              let here = reads_loop scene (ats rest) row.at top stack.0.reads loop in
              ⊎_elim (λ f. ap (plain scene []) (property_eq z row.at f) ∙ (sym (chain_law scene (ats rest) row.at (stacked_chain rest row.at stack.1)) ∙ here))
              (further rest row.at stack.1 here) (or_cases (is_property z row.at) (among z (ats rest)) e)

  -- what a row of the stack tells
  record IsWaiting (rows : List CacheEntry) (top q : Property) (kept : EvalResult) : Type 0 where
    tried : IsTried scene keeping q kept
    next : Property
    waits : WaitsFor scene keeping kept.reads next
    stands : among next (top ∷ ats rows) ≡ true

  in_stack : (rows : List CacheEntry) (top : Property) → Stacked scene keeping rows top → (q : Property) (kept : EvalResult) → kept_of rows q ≡ Some kept
      → IsWaiting rows top q kept
  in_stack [] top stack q kept is = absurd (cc)
  in_stack (row ∷ rest) top stack q kept is = by (is_property q row.at) refl is (in_stack rest row.at stack.1 q kept)
    where
      by : (t : Bool) → is_property q row.at ≡ t → option_map (λ (row : CacheEntry). row.kept)
          (cond t (Some row) (find (λ (row : CacheEntry). is_property q row.at) rest)) ≡ Some kept → (kept_of rest q ≡ Some kept → IsWaiting rest row.at q kept)
          → IsWaiting (row ∷ rest) top q kept
      by true e h later =
          let same : row.kept ≡ kept = cc in
          let one = property_eq q row.at e in
          record {
            tried = subst (λ z. IsTried scene keeping z kept) (sym one) (subst (IsTried scene keeping row.at) same stack.0.tried);
            next = top;
            waits = subst (λ (k : EvalResult). WaitsFor scene keeping k.reads top) same stack.0.waits;
            stands = or_left _ _ (is_itself top);
          }
      by false e h later = let w = later h in record { tried = w.tried; next = w.next; waits = w.waits; stands = or_right (is_property w.next top) _ w.stands }

  -- what waits for itself: the whole stack is a loop
  pub stack_loops : (row : CacheEntry) (rows : List CacheEntry) (next : Property) → IsTried scene keeping row.at row.kept
      → WaitsFor scene keeping row.kept.reads next → Stacked scene keeping rows row.at → among next (row.at ∷ ats rows) ≡ true → (z : Property)
      → among z (row.at ∷ ats rows) ≡ true → plain scene [] z ≡ Err BindingLoop
  stack_loops row rows next t w stack stands =
      let reads = really_reads (ats rows) row.at next row.kept t w (stacked_apart rows row.at stack) in
      all_loops rows row.at stack (reads_loop scene (ats rows) row.at next reads (loop_where_seen scene (row.at ∷ ats rows) next stands))

  -- its evaluation gave a loop
  gave_loop : (q : Property) (kept : EvalResult) (next : Property) → IsTried scene keeping q kept → WaitsFor scene keeping kept.reads next
      → kept.outcome ≡ Err BindingLoop
  gave_loop q kept next t w = sym t.outcome ∙ passes_loop scene (known scene keeping) q.object t.cell.kind t.term next
      (subst (λ l. Contains l next) (sym (t.reads ∙ w.last)) (Contains-push w.front next)) (known_waiting scene keeping next w.term w.bound w.absent)

-- all that is stacked is kept as a loop

pub looped : (scene : Scene) (D : List CacheEntry) (row : CacheEntry) (rows : List CacheEntry) (next : Property) → IsRight scene (kept_of D)
    → IsClosed scene (kept_of D) → IsTried scene (kept_of D) row.at row.kept → WaitsFor scene (kept_of D) row.kept.reads next
    → Stacked scene (kept_of D) rows row.at → among next (row.at ∷ ats rows) ≡ true
    → IsRight scene (kept_of (D ++ row ∷ rows)) × IsClosed scene (kept_of (D ++ row ∷ rows))
looped scene D row rows next right closed t w stack stands = grows scene (kept_of D) (kept_of (D ++ row ∷ rows)) right closed (kept_within D (row ∷ rows)) new
  where
    waiting : (q : Property) (kept : EvalResult) → kept_of (row ∷ rows) q ≡ Some kept → IsWaiting scene (kept_of D) right closed rows row.at q kept
    waiting q kept is = by (is_property q row.at) refl is
      where
        by : (b : Bool) → is_property q row.at ≡ b → option_map (λ (row : CacheEntry). row.kept)
            (cond b (Some row) (find (λ (row : CacheEntry). is_property q row.at) rows)) ≡ Some kept
            → IsWaiting scene (kept_of D) right closed rows row.at q kept
        by true e h =
            let same : row.kept ≡ kept = cc in
            let one = property_eq q row.at e in
            record {
              tried = subst (λ z. IsTried scene (kept_of D) z kept) (sym one) (subst (IsTried scene (kept_of D) row.at) same t);
              next = next;
              waits = subst (λ (k : EvalResult). WaitsFor scene (kept_of D) k.reads next) same w;
              stands = stands;
            }
        by false e h = in_stack scene (kept_of D) right closed rows row.at stack q kept h

    same : (r : Property) → known scene (kept_of (D ++ row ∷ rows)) r ≡ known scene (kept_of D) r
    same r = by (kept_of D r) refl
      where
        new_loop : kept_of D r ≡ None → (o : Option EvalResult) → kept_of (row ∷ rows) r ≡ o
            → known scene (kept_of (D ++ row ∷ rows)) r ≡ known scene (kept_of D) r
        new_loop none None e = ap (λ o. option_map_or (λ (kept : EvalResult). kept.outcome) o (at_hand scene r))
            ((kept_append_none D (row ∷ rows) r none ∙ e) ∙ sym none)
        new_loop none (Some kept) e =
            let s = waiting r kept e in
            ap (λ o. option_map_or (λ (kept : EvalResult). kept.outcome) o (at_hand scene r)) (kept_append_none D (row ∷ rows) r none ∙ e)
            ∙ (gave_loop scene (kept_of D) right closed r kept s.next s.tried s.waits ∙ sym (known_waiting scene (kept_of D) r s.tried.term s.tried.bound none))

        by : (o : Option EvalResult) → kept_of D r ≡ o → known scene (kept_of (D ++ row ∷ rows)) r ≡ known scene (kept_of D) r
        by (Some kept) e = ap (λ o. option_map_or (λ (kept : EvalResult). kept.outcome) o (at_hand scene r)) (kept_append_some D (row ∷ rows) r kept e ∙ sym e)
        by None e = new_loop e (kept_of (row ∷ rows) r) refl

    stacked_kept : (z : Property) → kept_of D z ≡ None → among z (row.at ∷ ats rows) ≡ true → IsKept (kept_of (D ++ row ∷ rows)) z
    stacked_kept z none h = let k = kept_among (row ∷ rows) z h in (k.0, kept_append_none D (row ∷ rows) z none ∙ k.1)

    wider : (r : Property) → IsSettled scene (kept_of D) r → IsKept (kept_of (D ++ row ∷ rows)) r ⊎ IsUnbound scene r
    wider r (inl (kept, is)) = inl (kept, kept_within D (row ∷ rows) r kept is)
    wider r (inr unbound) = inr unbound

    new : (q : Property) (kept : EvalResult) → kept_of (D ++ row ∷ rows) q ≡ Some kept → kept_of D q ≡ None
        → IsNew scene (kept_of D) (kept_of (D ++ row ∷ rows)) q kept
    new q kept is none =
        let found = sym (kept_append_none D (row ∷ rows) q none) ∙ is in
        let s = waiting q kept found in
        record {
          tried = s.tried;
          same = λ k d lt. same _;
          value = stack_loops scene (kept_of D) right closed row rows next t w stack stands q (among_kept (row ∷ rows) q kept found)
              ∙ sym (gave_loop scene (kept_of D) right closed q kept s.next s.tried s.waits);
          closed = subst (All (λ r. IsKept (kept_of (D ++ row ∷ rows)) r ⊎ IsUnbound scene r)) (sym s.waits.last)
              (All-append (λ r. IsKept (kept_of (D ++ row ∷ rows)) r ⊎ IsUnbound scene r) s.waits.front (s.next ∷ [])
              (λ k d lt. wider _ (s.waits.settled k d lt))
              (All-cons (λ r. IsKept (kept_of (D ++ row ∷ rows)) r ⊎ IsUnbound scene r) s.next [] (inl (stacked_kept s.next s.waits.absent s.stands))
              (All-nil (λ r. IsKept (kept_of (D ++ row ∷ rows)) r ⊎ IsUnbound scene r))));
        }
