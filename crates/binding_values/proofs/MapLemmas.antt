-- What a map gives, where it gives something.
use Rattle.std.proofs.Common.{◌≡◌, ◌∙◌, zero, suc, List, [], ◌∷◌, ◌++◌, true, false, Option, Some, None, is_some, option_map, IfSome, filter_map, get_or, All}
use Rattle.std.proofs.Common.{Contains, refl, sym, ap, arith}
use Rattle.std.specs.List.{AllPairs, cons_option}
use Rattle.std.proofs.lemmas.List.Elements.{All-append, All-nil, All-cons, All-head, All-tail}
use Rattle.std.proofs.lemmas.List.Kept.{AllPairs-cons}
use Rattle.term_evaluation.specs.Met.{EachButLast}

nothing : {X : Type 0} (x : X) → Contains [] x → ⊥
nothing x (k, lt, e) = omega arith

pub given_but_last : {X Y : Type 0} (h : X → Option Y) (P : Y → Type 0) (xs : List X) → EachButLast (λ x. IfSome (h x) P) xs → EachButLast P (filter_map h xs)
given_but_last h P [] but = λ k d lt. absurd (omega arith)
given_but_last {X} h P (x ∷ []) but = one (h x)
  where
    one : (o : Option _) → EachButLast P (cons_option o [])
    one None = λ k d lt. absurd (omega arith)
    one (Some y) = λ k d lt. absurd (omega arith)
given_but_last {X} h P (x ∷ x' ∷ xs) but = by (h x) (but 0 x (omega arith)) (given_but_last h P (x' ∷ xs) (λ k d lt. but (suc k) d (omega arith)))
  where
    by : (o : Option _) → IfSome o P → EachButLast P (filter_map h (x' ∷ xs)) → EachButLast P (cons_option o (filter_map h (x' ∷ xs)))
    by None here rest = rest
    by (Some y) here rest = at
      where
        at : EachButLast P (y ∷ filter_map h (x' ∷ xs))
        at zero d lt = here
        at (suc k) d lt = rest k d (omega arith)

given : {Y : Type 0} (P : Y → Type 0) (o : Option Y) (ys : List Y) → All P (cons_option o ys) → IfSome o P × All P ys
given P None ys h = (tt, h)
given P (Some y) ys h = (All-head P y ys h, All-tail P y ys h)

pub each_given : {X Y : Type 0} (h : X → Option Y) (P : Y → Type 0) (xs : List X) → All P (filter_map h xs) → All (λ x. IfSome (h x) P) xs
each_given h P [] all = All-nil (λ x. IfSome (h x) P)
each_given h P (x ∷ xs) all =
    let parts = given P (h x) (filter_map h xs) all in
    All-cons (λ x. IfSome (h x) P) x xs parts.0 (each_given h P xs parts.1)

pub giver : {X Y : Type 0} (h : X → Option Y) (xs : List X) (y : Y) → Contains (filter_map h xs) y → (x : X) × Contains xs x × (h x ≡ Some y)
giver h [] y c = absurd (nothing y c)
giver {X} h (x ∷ xs) y c = at (h x) refl c (giver h xs y)
  where
    Giver : Type 0
    Giver = (x' : X) × Contains (x ∷ xs) x' × (h x' ≡ Some y)

    later : (x' : X) × Contains xs x' × (h x' ≡ Some y) → (x' : X) × Contains (x ∷ xs) x' × (h x' ≡ Some y)
    later (x', (k, lt, e), is) = (x', (suc k, omega arith, e), is)

    at : (o : Option _) → h x ≡ o → Contains (cons_option o (filter_map h xs)) y → (Contains (filter_map h xs) y → (x' : X) × Contains xs x' × (h x' ≡ Some y))
        → (x' : X) × Contains (x ∷ xs) x' × (h x' ≡ Some y)
    at None is d rest = later (rest d)
    at (Some z) is (zero, lt, e) rest = (x, (zero, omega arith, refl), is ∙ ap Some e)
    at (Some z) is (suc k, lt, e) rest = later (rest (k, omega arith, e))

-- what is there is there in another form

pub there : {A B : Type 0} (f : A → B) (o : Option A) (p : Option B) → option_map f o ≡ p → is_some o ≡ true → (b : B) × (p ≡ Some b)
there f None p e h = absurd (cc)
there f (Some a) p e h = (f a, sym e)

pub not_there : {A B : Type 0} (f : A → B) (o : Option A) (p : Option B) → option_map f o ≡ p → is_some o ≡ false → p ≡ None
not_there f None p e h = sym e
not_there f (Some a) p e h = absurd (cc)

pub some_kept : {A B : Type 0} (f : A → B) (o : Option A) (p : Option B) → option_map f o ≡ p → is_some o ≡ is_some p
some_kept f None p e = ap is_some e
some_kept f (Some a) p e = ap is_some e

-- what is true of all that a map gives

pub all_given : {X Y : Type 0} (h : X → Option Y) (P : Y → Type 0) (xs : List X) → All (λ x. (y : Y) → h x ≡ Some y → P y) xs → All P (filter_map h xs)
all_given h P [] all = All-nil P
all_given {X} {Y} h P (x ∷ xs) all = by (h x) refl (all_given h P xs (λ k d lt. all (suc k) d (omega arith)))
  where
    by : (o : Option Y) → h x ≡ o → All P (filter_map h xs) → All P (cons_option o (filter_map h xs))
    by None e rest = rest
    by (Some y) e rest = All-cons P y (filter_map h xs) (all 0 x (omega arith) y e) rest

pub pairs_given : {X Y : Type 0} (h : X → Option Y) (S : X → X → Type 0) (R : Y → Y → Type 0)
    → ((x x' : X) (y y' : Y) → S x x' → h x ≡ Some y → h x' ≡ Some y' → R y y') → (xs : List X) → AllPairs S xs → AllPairs R (filter_map h xs)
pairs_given h S R from [] pairs = λ i j d lt within. absurd (omega arith)
pairs_given {X} {Y} h S R from (x ∷ xs) pairs = by (h x) refl
    (pairs_given h S R from xs (λ i j d lt within. pairs (suc i) (suc j) d (omega arith) (omega arith)))
  where
    by : (o : Option Y) → h x ≡ o → AllPairs R (filter_map h xs) → AllPairs R (cons_option o (filter_map h xs))
    by None e rest = rest
    by (Some y) e rest = AllPairs-cons R y (filter_map h xs)
        (all_given h (R y) xs (λ k d lt y' f. from x (get_or xs k d) y y' (pairs 0 (suc k) d (omega arith) (omega arith)) e f)) rest

pub pairs_append : {X : Type 0} (R : X → X → Type 0) (xs ys : List X) → AllPairs R xs → AllPairs R ys → All (λ x. All (R x) ys) xs → AllPairs R (xs ++ ys)
pairs_append R [] ys first second across = second
pairs_append R (x ∷ xs) ys first second across =
    AllPairs-cons R x (xs ++ ys) (All-append (R x) xs ys (λ k d lt. first 0 (suc k) d (omega arith) (omega arith)) (across 0 x (omega arith)))
    (pairs_append R xs ys (λ i j d lt within. first (suc i) (suc j) d (omega arith) (omega arith)) second (λ k d lt. across (suc k) d (omega arith)))
