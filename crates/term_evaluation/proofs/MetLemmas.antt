-- An evaluation over two readers: it goes the same way as far as the other answers the same.
use Rattle.std.proofs.Common.{◌≡◌, ◌∙◌, ◌⊎◌, ℕ, zero, suc, ◌+◌, ◌-◌, ◌≤◌, Bool, true, false, List, [], ◌∷◌, ◌++◌, Option, Some, None, Ok, Err, length, get_or}
use Rattle.std.proofs.Common.{All, Contains, refl, sym, ap, subst, inl, inr, ⊎_elim, append_assoc, append-nil, length-append, arith}
use Rattle.std.proofs.lemmas.List.{get_or_append_left, get_or-append-add}
use Rattle.std.proofs.lemmas.List.Elements.{Contains-append_cases, Contains-get_or}
use Rattle.std.proofs.lemmas.Bool.{cases_lt}
use Rattle.variant_value.specs.declared.value.Value.{Value}
use Rattle.variant_value.specs.Values.{truth_in}
use Rattle.term_core.specs.declared.target.Target.{Target}
use Rattle.term_core.specs.Term.{Term, prop, binary, choice}
use Rattle.term_evaluation.specs.declared.reading.Read.{Read}
use Rattle.term_evaluation.specs.Evaluation.{eval_by, chosen}
use Rattle.term_evaluation.specs.Laws.{AgreeOn}
use Rattle.term_evaluation.specs.Operations.{applied}
use Rattle.term_evaluation.specs.Outcomes.{Answer, Cause, ◌>>=◌, answer}
use Rattle.term_evaluation.specs.Met.{EachButLast, behind, in_branch, met_by}

pub first_part : {X : Type 0} (P : X → Type 0) (xs ys : List X) → All P (xs ++ ys) → All P xs
first_part P xs ys h k d lt = subst P (get_or_append_left xs ys d k lt) (h k d (omega (arith, length-append xs ys)))

pub last_part : {X : Type 0} (P : X → Type 0) (xs ys : List X) → All P (xs ++ ys) → All P ys
last_part P xs ys h k d lt = subst P (get_or-append-add xs ys k d) (h (length xs + k) d (omega (arith, length-append xs ys)))

-- an answer is a fault of some sort
abbrev pub Ended : {O : Type 0} → (Cause O → Type 0) → Answer O → Type 0
Ended {O} E r = (cause : Cause O) × E cause × (r ≡ Err cause)

-- another evaluation ends the same and has come to the same; or it ends by such a fault, having come to the
-- first of what the one came to
abbrev pub Follows : {O : Type 0} → (Cause O → Type 0) → Answer O → List Read → Answer O → List Read → Type 0
Follows E r q s p = ((s ≡ r) × (p ≡ q)) ⊎ (Ended E s × ((rest : List Read) × (q ≡ p ++ rest)))

then_one : {O : Type 0} (E : Cause O → Type 0) (r s : Answer O) (q p : List Read) (f : Value → Answer O) → Follows E r q s p → Follows E (r >>= f) q (s >>= f) p
then_one E r s q p f (inl (e, m)) = inl (ap (λ a. a >>= f) e, m)
then_one E r s q p f (inr ((cause, h, e), rest)) = inr ((cause, h, ap (λ a. a >>= f) e), rest)

core : {O : Type 0} (E : Cause O → Type 0) (q : List Read) (r s : Answer O) (m n : List Read) → Follows E r m s n → Follows E r (q ++ m) s (q ++ n)
core E q r s m n (inl (e, same)) = inl (e, ap (λ l. q ++ l) same)
core E q r s m n (inr (ended, (rest, e))) = inr (ended, (rest, ap (λ l. q ++ l) e ∙ sym (append_assoc q n rest)))

ended_in_turn : {O : Type 0} (E : Cause O → Type 0) (r s : Answer O) (q p : List Read) (f f' : Value → Answer O) (g g' : Value → List Read)
    → Ended E s × ((rest : List Read) × (q ≡ p ++ rest)) → Follows E (r >>= f) (q ++ behind r g) (s >>= f') (p ++ behind s g')
ended_in_turn E r s q p f f' g g' ((cause, h, e), (rest, m)) =
    subst (λ a. Follows E (r >>= f) (q ++ behind r g) (a >>= f') (p ++ behind a g')) (sym e)
    (inr (
      (cause, h, refl),
      (
        rest ++ behind r g,
        ap (λ l. l ++ behind r g) m
            ∙ (append_assoc p rest (behind r g) ∙ ap (λ l. l ++ (rest ++ behind r g)) (sym (append-nil p))),
      ),
    ))

in_turn : {O : Type 0} (E : Cause O → Type 0) (r s : Answer O) (q p : List Read) (f f' : Value → Answer O) (g g' : Value → List Read) → Follows E r q s p
    → ((x : Value) → r ≡ Ok x → Follows E (f x) (g x) (f' x) (g' x)) → Follows E (r >>= f) (q ++ behind r g) (s >>= f') (p ++ behind s g')
in_turn E (Ok x) s q p f f' g g' (inl (e, m)) next =
    subst (λ a. Follows E (f x) (q ++ g x) (a >>= f') (p ++ behind a g')) (sym e)
    (subst (λ l. Follows E (f x) (q ++ g x) (f' x) (l ++ g' x)) (sym m) (core E q (f x) (f' x) (g x) (g' x) (next x refl)))
in_turn E (Err cause) s q p f f' g g' (inl (e, m)) next =
    subst (λ a. Follows E (Err cause) (q ++ []) (a >>= f') (p ++ behind a g')) (sym e) (inl (refl, ap (λ l. l ++ []) m))
in_turn E r s q p f f' g g' (inr ended) next = ended_in_turn E r s q p f f' g g' ended

-- the other reader answers the same at a property, or ends the evaluation there
abbrev pub Turn : {O : Type 0} → (Cause O → Type 0) → (Target → List ℕ → Answer O) → (Target → List ℕ → Answer O) → Read → Type 0
Turn E one other read = (other read.target read.name ≡ one read.target read.name) ⊎ Ended E (other read.target read.name)

at_branch : {O : Type 0} (E : Cause O → Type 0) (P : Read → Type 0) (truth : Option Bool) (a a' b b' : Answer O) (m m' k n n' l : List Read)
    → (All P k → Follows E a m a' m') → (All P l → Follows E b n b' n') → All P (in_branch truth k l)
    → Follows E (chosen truth a b) (in_branch truth m n) (chosen truth a' b') (in_branch truth m' n')
at_branch E P None a a' b b' m m' k n n' l f g h = inl (refl, refl)
at_branch E P (Some true) a a' b b' m m' k n n' l f g h = f h
at_branch E P (Some false) a a' b b' m m' k n n' l f g h = g h

at_property : {O : Type 0} (E : Cause O → Type 0) (one other : Target → List ℕ → Answer O) (read : Read) → Turn E one other read
    → Follows E (one read.target read.name) (read ∷ []) (other read.target read.name) (read ∷ [])
at_property E one other read (inl e) = inl (e, refl)
at_property E one other read (inr ended) = inr (ended, ([], refl))

pub follows : {O : Type 0} (E : Cause O → Type 0) (term : Term) (args : List Value) (one other : Target → List ℕ → Answer O)
    → All (Turn E one other) (met_by args one term) → Follows E (eval_by args one term) (met_by args one term) (eval_by args other term)
    (met_by args other term)
follows E (prop target name) args one other h =
    at_property E one other (record { target = target; name = name }) (h 0 (record { target = target; name = name }) (omega arith))
follows E (binary operator a b) args one other h =
    in_turn E (eval_by args one a) (eval_by args other a) (met_by args one a) (met_by args other a) _ _ _ _
    (follows E a args one other (first_part (Turn E one other) (met_by args one a) (behind (eval_by args one a) (λ x. met_by args one b)) h))
    (λ x e. then_one E _ _ _ _ _ (follows E b args one other
    (subst (λ r. All (Turn E one other) (behind r (λ x. met_by args one b))) e
    (last_part (Turn E one other) (met_by args one a) (behind (eval_by args one a) (λ x. met_by args one b)) h))))
follows E (choice test a b) args one other h =
    in_turn E (eval_by args one test) (eval_by args other test) (met_by args one test) (met_by args other test) _ _ _ _
    (follows E test args one other (first_part (Turn E one other) (met_by args one test)
    (behind (eval_by args one test) (λ t. in_branch (truth_in t) (met_by args one a) (met_by args one b))) h))
    (λ t e. at_branch E (Turn E one other) (truth_in t) _ _ _ _ _ _ _ _ _ _ (follows E a args one other) (follows E b args one other)
    (subst (λ r. All (Turn E one other) (behind r (λ t. in_branch (truth_in t) (met_by args one a) (met_by args one b)))) e
    (last_part (Turn E one other) (met_by args one test)
    (behind (eval_by args one test) (λ t. in_branch (truth_in t) (met_by args one a) (met_by args one b))) h)))
follows E leaf args one other h = inl (refl, refl)

-- a fault of what is really read is the evaluation's

nothing : {X : Type 0} (x : X) → Contains [] x → ⊥
nothing x (k, lt, e) = omega arith

alone : {X : Type 0} (x y : X) → Contains (x ∷ []) y → x ≡ y
alone x y (zero, lt, e) = e
alone x y (suc k, lt, e) = absurd (omega arith)

fault_in_turn : {O : Type 0} (cause : Cause O) (read : Read) (r : Answer O) (q : List Read) (f : Value → Answer O) (g : Value → List Read)
    → (Contains q read → r ≡ Err cause) → ((x : Value) → r ≡ Ok x → Contains (g x) read → f x ≡ Err cause) → Contains (q ++ behind r g) read
    → (r >>= f) ≡ Err cause
fault_in_turn cause read r q f g first next h = by (Contains-append_cases q (behind r g) read h)
  where
    later : (a : Answer _) → r ≡ a → Contains (behind a g) read → (a >>= f) ≡ Err cause
    later (Ok x) e c = next x e c
    later (Err other) e c = absurd (nothing read c)

    by : Contains q read ⊎ Contains (behind r g) read → (r >>= f) ≡ Err cause
    by (inl c) = ap (λ a. a >>= f) (first c)
    by (inr c) = later r refl c

fault_at_branch : {O : Type 0} (cause : Cause O) (read : Read) (truth : Option Bool) (a b : Answer O) (m n : List Read) → (Contains m read → a ≡ Err cause)
    → (Contains n read → b ≡ Err cause) → Contains (in_branch truth m n) read → chosen truth a b ≡ Err cause
fault_at_branch cause read None a b m n f g h = absurd (nothing read h)
fault_at_branch cause read (Some true) a b m n f g h = f h
fault_at_branch cause read (Some false) a b m n f g h = g h

pub fault_met : {O : Type 0} (cause : Cause O) (read : Read) (term : Term) (args : List Value) (one : Target → List ℕ → Answer O)
    → one read.target read.name ≡ Err cause → Contains (met_by args one term) read → eval_by args one term ≡ Err cause
fault_met cause read (prop target name) args one e h = ap (λ (r : Read). one r.target r.name) (alone _ read h) ∙ e
fault_met cause read (binary operator a b) args one e h =
    fault_in_turn cause read (eval_by args one a) (met_by args one a) _ _
    (fault_met cause read a args one e)
    (λ x is c. ap (λ r. r >>= λ y. answer (applied operator x y)) (fault_met cause read b args one e c))
    h
fault_met cause read (choice test a b) args one e h =
    fault_in_turn cause read (eval_by args one test) (met_by args one test) _ _
    (fault_met cause read test args one e)
    (λ t is c. fault_at_branch cause read (truth_in t) _ _ _ _ (fault_met cause read a args one e) (fault_met cause read b args one e) c)
    h
fault_met cause read leaf args one e h = absurd (nothing read h)

-- an evaluation goes on only behind a value

abbrev pub IsValue : {O : Type 0} → Answer O → Type 0
IsValue r = (value : Value) × (r ≡ Ok value)

values_met : {O : Type 0} (term : Term) (args : List Value) (one : Target → List ℕ → Answer O) (x : Value) → eval_by args one term ≡ Ok x
    → All (λ read. IsValue (one read.target read.name)) (met_by args one term)
values_met term args one x is k d lt = by (one read.target read.name) refl
  where
    read : Read
    read = get_or (met_by args one term) k d

    by : (r : Answer _) → one read.target read.name ≡ r → IsValue (one read.target read.name)
    by (Ok value) e = (value, e)
    by (Err cause) e = absurd (let both : Ok x ≡ Err cause = sym is ∙ fault_met cause read term args one e (Contains-get_or (met_by args one term) k d lt) in
        cc)

join_but_last : {X : Type 0} (P : X → Type 0) (xs ys : List X) → All P xs → EachButLast P ys → EachButLast P (xs ++ ys)
join_but_last P xs ys all but k d lt = ⊎_elim (λ h. subst P (sym (get_or_append_left xs ys d k h)) (all k d h)) later (cases_lt k (length xs))
  where
    later : length xs ≤ k → P (get_or (xs ++ ys) k d)
    later h =
        let place : length xs + (k - length xs) ≡ k = omega arith in
        subst (λ n. P (get_or (xs ++ ys) n d)) place
        (subst P (sym (get_or-append-add xs ys (k - length xs) d)) (but (k - length xs) d (omega (arith, length-append xs ys))))

goes_in_turn : {O : Type 0} (P : Read → Type 0) (r : Answer O) (q : List Read) (g : Value → List Read) → EachButLast P q
    → ((x : Value) → r ≡ Ok x → All P q × EachButLast P (g x)) → EachButLast P (q ++ behind r g)
goes_in_turn P (Ok x) q g first next = let both = next x refl in join_but_last P q (g x) both.0 both.1
goes_in_turn P (Err cause) q g first next = subst (EachButLast P) (sym (append-nil q)) first

goes_at_branch : (P : Read → Type 0) (truth : Option Bool) (m n : List Read) → EachButLast P m → EachButLast P n → EachButLast P (in_branch truth m n)
goes_at_branch P None m n f g = λ k d lt. absurd (omega arith)
goes_at_branch P (Some true) m n f g = f
goes_at_branch P (Some false) m n f g = g

pub goes_on : {O : Type 0} (term : Term) (args : List Value) (one : Target → List ℕ → Answer O)
    → EachButLast (λ read. IsValue (one read.target read.name)) (met_by args one term)
goes_on (binary operator a b) args one = goes_in_turn (λ read. IsValue (one read.target read.name)) (eval_by args one a) (met_by args one a) _
    (goes_on a args one) (λ x is. (values_met a args one x is, goes_on b args one))
goes_on (choice test a b) args one = goes_in_turn (λ read. IsValue (one read.target read.name)) (eval_by args one test) (met_by args one test) _
    (goes_on test args one) (λ t is. (
      values_met test args one t is,
      goes_at_branch (λ read. IsValue (one read.target read.name)) (truth_in t) _ _ (goes_on a args one) (goes_on b args one),
    ))
goes_on leaf args one = λ k d lt. absurd (omega arith)

-- an evaluation that the other ends: what the other came to is the first of what the one comes to

back_in_turn : {O : Type 0} (E : Cause O → Type 0) (P : Read → Type 0) (r s : Answer O) (q p : List Read) (f f' : Value → Answer O) (g g' : Value → List Read)
    → (All P p → Follows E r q s p) → ((x : Value) → All P (g' x) → Follows E (f x) (g x) (f' x) (g' x)) → All P (p ++ behind s g')
    → Follows E (r >>= f) (q ++ behind r g) (s >>= f') (p ++ behind s g')
back_in_turn E P r s q p f f' g g' first next h = by (first (first_part P p (behind s g') h))
  where
    rest : All P (behind s g')
    rest = last_part P p (behind s g') h

    by : Follows E r q s p → Follows E (r >>= f) (q ++ behind r g) (s >>= f') (p ++ behind s g')
    by (inl (e, m)) = in_turn E r s q p f f' g g' (inl (e, m)) (λ x is. next x (subst (λ a. All P (behind a g')) (e ∙ is) rest))
    by (inr ended) = ended_in_turn E r s q p f f' g g' ended

pub follows_back : {O : Type 0} (E : Cause O → Type 0) (term : Term) (args : List Value) (one other : Target → List ℕ → Answer O)
    → All (Turn E one other) (met_by args other term) → Follows E (eval_by args one term) (met_by args one term) (eval_by args other term)
    (met_by args other term)
follows_back E (prop target name) args one other h =
    at_property E one other (record { target = target; name = name }) (h 0 (record { target = target; name = name }) (omega arith))
follows_back E (binary operator a b) args one other h =
    back_in_turn E (Turn E one other) (eval_by args one a) (eval_by args other a) (met_by args one a) (met_by args other a) _ _ _ _
    (follows_back E a args one other)
    (λ x all. then_one E _ _ _ _ _ (follows_back E b args one other all))
    h
follows_back E (choice test a b) args one other h =
    back_in_turn E (Turn E one other) (eval_by args one test) (eval_by args other test) (met_by args one test) (met_by args other test) _ _ _ _
    (follows_back E test args one other)
    (λ t all. at_branch E (Turn E one other) (truth_in t) _ _ _ _ _ _ _ _ _ _ (follows_back E a args one other) (follows_back E b args one other) all)
    h
follows_back E leaf args one other h = inl (refl, refl)

-- with the same answers where it goes it goes the same way
pub same_met : {O : Type 0} (term : Term) (args : List Value) (one other : Target → List ℕ → Answer O) → AgreeOn (met_by args one term) one other
    → (eval_by args other term ≡ eval_by args one term) × (met_by args other term ≡ met_by args one term)
same_met {O} term args one other agree = by (follows never term args one other (λ k d lt. inl (sym (agree k d lt))))
  where
    never : Cause O → Type 0
    never cause = ⊥

    by : Follows never (eval_by args one term) (met_by args one term) (eval_by args other term) (met_by args other term)
        → (eval_by args other term ≡ eval_by args one term) × (met_by args other term ≡ met_by args one term)
    by (inl same) = same
    by (inr ((cause, none, e), rest)) = absurd none
