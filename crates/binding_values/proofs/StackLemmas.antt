-- The steps of a run.
use Rattle.std.proofs.Common.{◌≡◌, ◌∙◌, suc, ◌<◌, ◌||◌, Bool, true, false, cond, List, [], ◌∷◌, ◌++◌, Option, Some, None, All, reverse, refl, sym, ap, ap₂}
use Rattle.std.proofs.Common.{subst, append_assoc, length-append, arith}
use Rattle.std.proofs.lemmas.Bool.{both_ways, or_left, or_right, false_from_ne_true}
use Rattle.std.proofs.lemmas.List.{reverse-append}
use Rattle.std.proofs.lemmas.List.Folds.{list_any-append}
use Rattle.term_core.specs.Term.{Term}
use Rattle.binding_values.specs.declared.binding.Binding.{Binding}
use Rattle.binding_values.specs.declared.eval_result.CacheEntry.{CacheEntry}
use Rattle.binding_values.specs.declared.eval_result.EvalResult.{EvalResult}
use Rattle.property_store.specs.declared.property.Property.{Property}
use Rattle.binding_values.specs.Scene.{Scene, term_at, unmet}
use Rattle.property_store.specs.Property.{among, is_property}
use Rattle.binding_values.specs.EvalResult.{IsClosed, IsKept, IsRight, kept_of}
use Rattle.binding_values.specs.Run.{IsRunning, IsSettled, IsTried, Stacked, Stepped, WaitsFor, ats, bottom, work}
use Rattle.binding_values.proofs.FuelLemmas.{is_itself, property_eq, unmet_less}
use Rattle.binding_values.proofs.KeptLemmas.{none_some}
use Rattle.binding_values.proofs.RunLemmas.{finished, kept_among, kept_append_none, kept_append_some, kept_within, others_none, stacked_still}
use Rattle.binding_values.proofs.LoopLemmas.{looped, really_reads, stacked_apart}

-- lists

last_first : {X : Type 0} (xs : List X) (x : X) → reverse (xs ++ x ∷ []) ≡ x ∷ reverse xs
last_first xs x = reverse-append xs (x ∷ [])

ats_append : (xs ys : List CacheEntry) → ats (xs ++ ys) ≡ ats xs ++ ats ys
ats_append [] ys = refl
ats_append (x ∷ xs) ys = ap (λ l. x.at ∷ l) (ats_append xs ys)

or_middle : (a b c : Bool) → (a || (b || c)) ≡ (b || (a || c))
or_middle true true c = refl
or_middle true false c = refl
or_middle false true c = refl
or_middle false false c = refl

or_end : (a b : Bool) → (a || (b || false)) ≡ (b || a)
or_end true true = refl
or_end true false = refl
or_end false true = refl
or_end false false = refl

pub among_reversed : (z : Property) (rows : List CacheEntry) → among z (ats (reverse rows)) ≡ among z (ats rows)
among_reversed z [] = refl
among_reversed z (row ∷ rest) =
    ap (λ l. among z (ats l)) (reverse-append (row ∷ []) rest)
    ∙ (ap (among z) (ats_append (reverse rest) (row ∷ []))
    ∙ (list_any-append (is_property z) (ats (reverse rest)) (row.at ∷ [])
    ∙ (or_end (among z (ats (reverse rest))) (is_property z row.at) ∙ ap (λ b. is_property z row.at || b) (among_reversed z rest))))

same_unmet : (one other : List Property) → ((z : Property) → among z one ≡ among z other) → (bs : List Binding) → unmet one bs ≡ unmet other bs
unfolding unmet
same_unmet one other same [] = refl
same_unmet one other same (b ∷ bs) = ap₂ (λ t n. cond t n (suc n)) (same b.at) (same_unmet one other same bs)

bottom_push : (B : List CacheEntry) (row : CacheEntry) (next : Property) → bottom (B ++ row ∷ []) next ≡ bottom B row.at
bottom_push [] row next = refl
bottom_push (b ∷ rest) row next = refl

bottom_stands : (B : List CacheEntry) (top : Property) → among (bottom B top) (top ∷ ats (reverse B)) ≡ true
bottom_stands [] top = or_left _ _ (is_itself top)
bottom_stands (b ∷ rest) top = or_right (is_property b.at top) _ (among_reversed b.at (b ∷ rest) ∙ or_left _ _ (is_itself b.at))

-- where nothing is kept, nothing stands
not_among : (D : List CacheEntry) (q : Property) → kept_of D q ≡ None → among q (ats D) ≡ false
not_among D q none = false_from_ne_true (among q (ats D)) (λ h. let k = kept_among D q h in none_some _ _ none k.1)

-- the stack grows

pub pushed : (scene : Scene) (D B : List CacheEntry) (row : CacheEntry) (next : Property) → IsRunning scene D B row.at
    → IsTried scene (kept_of D) row.at row.kept → WaitsFor scene (kept_of D) row.kept.reads next → among next (row.at ∷ ats (reverse B)) ≡ false
    → Stepped scene D B row.at D (B ++ row ∷ []) (Some next)
pushed scene D B row next running t w fresh = (now, (λ q kept is. is), bottom_push B row next, less)
  where
    now : IsRunning scene D (B ++ row ∷ []) next
    now = record {
      right = running.right;
      closed = running.closed;
      absent = w.absent;
      term = w.term;
      bound = w.bound;
      fresh = ap (λ l. among next (ats l)) (last_first B row) ∙ fresh;
      stacked = subst (λ l. Stacked scene (kept_of D) l next) (sym (last_first B row)) (
        record {
          tried = t;
          waits = w;
          reads = really_reads scene (kept_of D) running.right running.closed (ats (reverse B)) row.at next row.kept t w
              (stacked_apart scene (kept_of D) running.right running.closed (reverse B) row.at running.stacked);
          fresh = running.fresh;
        },
        running.stacked,
      );
    }

    below : List Property
    below = row.at ∷ ats (reverse B)

    fewer : unmet (ats D ++ next ∷ below) scene.bindings < unmet (ats D ++ below) scene.bindings
    fewer =
        let moved = same_unmet (ats D ++ next ∷ below) (next ∷ (ats D ++ below))
        (λ z. list_any-append (is_property z) (ats D) (next ∷ below) ∙
        (or_middle (among z (ats D)) (is_property z next) (among z below) ∙ ap (λ b. is_property z next || b)
        (sym (list_any-append (is_property z) (ats D) below))))
        scene.bindings in
        let unseen : among next (ats D ++ below) ≡ false = list_any-append (is_property next) (ats D) below
        ∙ (ap (λ b. b || among next below) (not_among D next w.absent) ∙ fresh) in
        let less = unmet_less next w.term (ats D ++ below) scene.bindings w.bound unseen in
        omega (arith, moved, less)

    less : work scene D (B ++ row ∷ []) next < work scene D B row.at
    less =
        let same : unmet (ats D ++ next ∷ ats (reverse (B ++ row ∷ []))) scene.bindings ≡ unmet (ats D ++ next ∷ below) scene.bindings =
        ap (λ l. unmet (ats D ++ next ∷ ats l) scene.bindings) (last_first B row) in
        omega (arith, same, fewer, length-append B (row ∷ []))

-- a property is finished

pub ended : (scene : Scene) (D : List CacheEntry) (row : CacheEntry) → IsRunning scene D [] row.at → IsTried scene (kept_of D) row.at row.kept
    → All (IsSettled scene (kept_of D)) row.kept.reads → Stepped scene D [] row.at (D ++ row ∷ []) [] None
ended scene D row running t all =
    let both = finished scene D row running.right running.closed t all in
    let own = kept_among (row ∷ []) row.at (or_left _ _ (is_itself row.at)) in
    (both.0, both.1, kept_within D (row ∷ []), (own.0, kept_append_none D (row ∷ []) row.at t.absent ∙ own.1))

pub popped : (scene : Scene) (D B : List CacheEntry) (entry row : CacheEntry) → IsRunning scene D (B ++ entry ∷ []) row.at
    → IsTried scene (kept_of D) row.at row.kept → All (IsSettled scene (kept_of D)) row.kept.reads
    → Stepped scene D (B ++ entry ∷ []) row.at (D ++ row ∷ []) B (Some entry.at)
popped scene D B entry row running t all = (now, kept_within D (row ∷ []), sym (bottom_push B entry row.at), less)
  where
    both : IsRight scene (kept_of (D ++ row ∷ [])) × IsClosed scene (kept_of (D ++ row ∷ []))
    both = finished scene D row running.right running.closed t all

    stack : Stacked scene (kept_of D) (entry ∷ reverse B) row.at
    stack = subst (λ l. Stacked scene (kept_of D) l row.at) (last_first B entry) running.stacked

    fresh : among row.at (entry.at ∷ ats (reverse B)) ≡ false
    fresh = ap (λ l. among row.at (ats l)) (sym (last_first B entry)) ∙ running.fresh

    turned : is_property entry.at row.at ≡ false
    turned = false_from_ne_true (is_property entry.at row.at)
        (λ h. both_ways (among row.at (entry.at ∷ ats (reverse B))) fresh
        (or_left (is_property row.at entry.at) (among row.at (ats (reverse B)))
        (subst (λ y. is_property y entry.at ≡ true) (property_eq entry.at row.at h) (is_itself entry.at))))

    now : IsRunning scene (D ++ row ∷ []) B entry.at
    now = record {
      right = both.0;
      closed = both.1;
      absent = others_none scene D row running.right running.closed t entry.at stack.0.tried.absent turned;
      term = stack.0.tried.term;
      bound = stack.0.tried.bound;
      fresh = stack.0.fresh;
      stacked = stacked_still scene D row running.right running.closed t (reverse B) entry.at stack.1 fresh;
    }

    less : work scene (D ++ row ∷ []) B entry.at < work scene D (B ++ entry ∷ []) row.at
    less =
        let seen : ats (D ++ row ∷ []) ++ entry.at ∷ ats (reverse B) ≡ ats D ++ row.at ∷ ats (reverse (B ++ entry ∷ [])) =
        ap (λ l. l ++ entry.at ∷ ats (reverse B)) (ats_append D (row ∷ []))
        ∙ (append_assoc (ats D) (row.at ∷ []) (entry.at ∷ ats (reverse B)) ∙ ap (λ l. ats D ++ row.at ∷ ats l) (sym (last_first B entry))) in
        let same = ap (λ l. unmet l scene.bindings) seen in
        omega (arith, same, length-append B (entry ∷ []))

-- a loop

pub all_looped : (scene : Scene) (D B : List CacheEntry) (row : CacheEntry) (next : Property) → IsRunning scene D B row.at
    → IsTried scene (kept_of D) row.at row.kept → WaitsFor scene (kept_of D) row.kept.reads next → among next (row.at ∷ ats (reverse B)) ≡ true
    → Stepped scene D B row.at (D ++ row ∷ reverse B) [] None
all_looped scene D B row next running t w stands =
    let both = looped scene D row (reverse B) next running.right running.closed t w running.stacked stands in
    (both.0, both.1, kept_within D (row ∷ reverse B), start (kept_of D (bottom B row.at)) refl)
  where
    start : (o : Option EvalResult) → kept_of D (bottom B row.at) ≡ o → IsKept (kept_of (D ++ row ∷ reverse B)) (bottom B row.at)
    start (Some kept) e = (kept, kept_append_some D (row ∷ reverse B) (bottom B row.at) kept e)
    start None e = let k = kept_among (row ∷ reverse B) (bottom B row.at) (bottom_stands B row.at) in
        (k.0, kept_append_none D (row ∷ reverse B) (bottom B row.at) e ∙ k.1)

-- the same, with what lists are told by equations

pub ended_at : {scene : Scene} {D B : List CacheEntry} (D' B' : List CacheEntry) (row : CacheEntry) → IsRunning scene D B row.at
    → IsTried scene (kept_of D) row.at row.kept
    → All (IsSettled scene (kept_of D)) row.kept.reads → B ≡ [] → D' ≡ D ++ row ∷ [] → Stepped scene D B row.at D' B' None
ended_at {scene} {D} {B} D' B' row running t all none more =
    subst (λ l. Stepped scene D l row.at D' B' None) (sym none)
    (subst (λ l. Stepped scene D [] row.at l B' None) (sym more) (ended scene D row (subst (λ l. IsRunning scene D l row.at) none running) t all))

pub popped_at : {scene : Scene} {D B : List CacheEntry} (D' B' : List CacheEntry) (entry row : CacheEntry) → IsRunning scene D B row.at
    → IsTried scene (kept_of D) row.at row.kept
    → All (IsSettled scene (kept_of D)) row.kept.reads → B ≡ B' ++ entry ∷ [] → D' ≡ D ++ row ∷ [] → Stepped scene D B row.at D' B' (Some entry.at)
popped_at {scene} {D} {B} D' B' entry row running t all less more =
    subst (λ l. Stepped scene D l row.at D' B' (Some entry.at)) (sym less)
    (subst (λ l. Stepped scene D (B' ++ entry ∷ []) row.at l B' (Some entry.at)) (sym more)
    (popped scene D B' entry row (subst (λ l. IsRunning scene D l row.at) less running) t all))

pub pushed_at : {scene : Scene} {D B : List CacheEntry} (B' : List CacheEntry) (row : CacheEntry) (next : Property) → IsRunning scene D B row.at
    → IsTried scene (kept_of D) row.at row.kept → WaitsFor scene (kept_of D) row.kept.reads next → is_property next row.at ≡ false → among next (ats B) ≡ false
    → B' ≡ B ++ row ∷ [] → Stepped scene D B row.at D B' (Some next)
pushed_at {scene} {D} {B} B' row next running t w own below more =
    subst (λ l. Stepped scene D B row.at D l (Some next)) (sym more)
    (pushed scene D B row next running t w (ap₂ (λ a b. a || b) own (among_reversed next B ∙ below)))

pub looped_at : {scene : Scene} {D B : List CacheEntry} (D' D'' B' : List CacheEntry) (row : CacheEntry) (next : Property) → IsRunning scene D B row.at
    → IsTried scene (kept_of D) row.at row.kept → WaitsFor scene (kept_of D) row.kept.reads next → (is_property next row.at || among next (ats B)) ≡ true
    → D' ≡ D ++ row ∷ [] → D'' ≡ D' ++ reverse B → Stepped scene D B row.at D'' B' None
looped_at {scene} {D} {B} D' D'' B' row next running t w stands one more =
    let whole : D'' ≡ D ++ row ∷ reverse B = more ∙ (ap (λ l. l ++ reverse B) one ∙ append_assoc D (row ∷ []) (reverse B)) in
    subst (λ l. Stepped scene D B row.at l B' None) (sym whole)
    (all_looped scene D B row next running t w (ap (λ b. is_property next row.at || b) (among_reversed next B) ∙ stands))

-- what was looked for is kept

pub begins : (scene : Scene) (D : List CacheEntry) (start : Property) (term : Term) → IsRight scene (kept_of D) → IsClosed scene (kept_of D)
    → term_at scene.bindings start ≡ Some term → kept_of D start ≡ None → IsRunning scene D [] start
begins scene D start term right closed bound absent =
    record { right = right; closed = closed; absent = absent; term = term; bound = bound; fresh = refl; stacked = tt }
