-- The test of influence computes the least set that is closed under joins.
use Rattle.std.proofs.Common.{◌≡◌, Bool, true, ◌&&◌, List, [], ◌∷◌, ◌++◌, map, refl, sym, ap, subst, ⊎_elim, ◌∙◌, arith}
use Rattle.std.proofs.lemmas.Bool.{cases_Bool, false_from_ne_true, both_ways, or_cases, or_left, or_right, and_parts}
use Rattle.isolation.specs.Machine.{Machine, IsLawful, Tagged}
use Rattle.isolation.specs.World.{after, is_in}
use Rattle.isolation.specs.Influence.{Reached, Self, Joined, reaches, accepted, joined, stood, Influences, influences, KnowsAll, IsClosed}
use Rattle.isolation.specs.Laws.{SecondHalf, InfluencedStates, InfluenceIsLeast, JoinsStood, InfluenceOfStanding}
use Rattle.isolation.proofs.Worlds.{after-own}
use Rattle.isolation.proofs.LeftOut.{joined-after, leaving_out, final_states}

-- one join is a chain
pub reaches_at_once : {Name : Type 0} (joins : Name → Name → Bool) (names : List Name) (r t : Name) → joins r t ≡ true → reaches joins names r t ≡ true
reaches_at_once joins [] r t h = h
reaches_at_once joins (by ∷ others) r t h = or_left _ _ (reaches_at_once joins others r t h)

-- chains through the first of the sessions in between join up
reaches_through_first : {Name : Type 0} (joins : Name → Name → Bool) (by : Name) (others : List Name) (r t : Name) → reaches joins (by ∷ others) r by ≡ true
    → reaches joins (by ∷ others) by t ≡ true → reaches joins (by ∷ others) r t ≡ true
reaches_through_first joins by others r t to from = grind (arith, to, from)

-- and through another, if they do without the first
reaches_through_other : {Name : Type 0} (joins : Name → Name → Bool) (by : Name) (others : List Name) (r x t : Name)
    → ((a b : Name) → reaches joins others a x ≡ true → reaches joins others x b ≡ true → reaches joins others a b ≡ true)
    → reaches joins (by ∷ others) r x ≡ true → reaches joins (by ∷ others) x t ≡ true → reaches joins (by ∷ others) r t ≡ true
reaches_through_other joins by others r x t rest to from =
    let straight = rest r t in
    let to_first = rest r by in
    let from_first = rest by t in
    grind (arith, straight, to_first, from_first, to, from)

-- two tests are one where each passes what the other does
same_truth : (one other : Bool) → (one ≡ true → other ≡ true) → (other ≡ true → one ≡ true) → one ≡ other
same_truth one other to from = ⊎_elim
    (λ passes. passes ∙ sym (to passes))
    (λ fails. fails ∙ sym (false_from_ne_true other (λ passes. both_ways one fails (from passes))))
    (cases_Bool one)

-- what a chain leads to is reached from where its begin is
pub Reached-reaches : {Name : Type 0} (joins : Name → Name → Bool) (s : Name) (names : List Name) (r t : Name) → reaches joins names r t ≡ true
    → Reached joins s r → Reached joins s t
Reached-reaches joins s [] r t h at_r = Joined t at_r h
Reached-reaches joins s (by ∷ others) r t h at_r = ⊎_elim
    (λ without. Reached-reaches joins s others r t without at_r)
    (λ with_it.
    let both = and_parts _ _ with_it in
    Reached-reaches joins s others by t both.1 (Reached-reaches joins s others r by both.0 at_r))
    (or_cases (reaches joins others r t) _ h)

-- with more joins no less is reached
pub Reached-more : {Name : Type 0} (joins more : Name → Name → Bool) → ((r t : Name) → joins r t ≡ true → more r t ≡ true) → (s t : Name) → Reached joins s t
    → Reached more s t
Reached-more joins more adds s t Self = Self
Reached-more joins more adds s t (Joined {r} u at_r h) = Joined u (Reached-more joins more adds s r at_r) (adds r u h)

-- a closed set that holds s holds all that is reached
pub Reached-least : {Name : Type 0} (joins : Name → Name → Bool) (s : Name) (keep : Name → Bool) → keep s ≡ true
    → ((r t : Name) → keep r ≡ true → joins r t ≡ true → keep t ≡ true) → (t : Name) → Reached joins s t → keep t ≡ true
Reached-least joins s keep passes closed t Self = passes
Reached-least joins s keep passes closed t (Joined {r} u at_r h) = closed r u (Reached-least joins s keep passes closed r at_r) h

module _ {Name State Command Line Post : Type 0} (m : Machine Name State Command Line Post) where
  -- a name in one of two lists is in both joined
  pub is_in-front : (name : Name) (xs ys : List Name) → is_in m name xs ≡ true → is_in m name (xs ++ ys) ≡ true
  is_in-front name [] ys h = absurd cc
  is_in-front name (x ∷ xs) ys h = ⊎_elim (λ here. or_left _ _ here) (λ later. or_right _ _ (is_in-front name xs ys later)) (or_cases (m.same name x) _ h)

  pub is_in-back : (name : Name) (xs ys : List Name) → is_in m name ys ≡ true → is_in m name (xs ++ ys) ≡ true
  is_in-back name [] ys h = h
  is_in-back name (x ∷ xs) ys h = or_right _ _ (is_in-back name xs ys h)

  -- a join is accepted only of a session with a command in the run
  pub is_in-accepted : (world : Name → State) (cs : List (Tagged Name Command)) (r t : Name) → accepted m world cs r t ≡ true
      → is_in m r (map (λ c. c.session) cs) ≡ true
  is_in-accepted world [] r t h = absurd cc
  is_in-accepted world (c ∷ cs) r t h = ⊎_elim
      (λ here. let both = and_parts (m.same r c.session) (m.accepts r (world r) c.command t) here in or_left _ _ both.0)
      (λ later. or_right (m.same r c.session) _ (is_in-accepted (after m world c) cs r t later))
      (or_cases (m.same r c.session && m.accepts r (world r) c.command t) _ h)

  -- so every session with a join is known or is one of the run
  pub is_in-joined : (world : Name → State) (known : List Name) (cs : List (Tagged Name Command)) → KnowsAll m world known → (r t : Name)
      → joined m world cs r t ≡ true → is_in m r (known ++ map (λ c. c.session) cs) ≡ true
  is_in-joined world known cs knows r t h = ⊎_elim
      (λ stands. is_in-front r known _ (knows r t stands))
      (λ made. is_in-back r known _ (is_in-accepted world cs r t made))
      (or_cases (m.names (world r) t) _ h)

  module _ (lawful : IsLawful m) where
    -- chains through a listed session join up
    pub reaches_through : (joins : Name → Name → Bool) (names : List Name) (r x t : Name) → is_in m x names ≡ true → reaches joins names r x ≡ true
        → reaches joins names x t ≡ true → reaches joins names r t ≡ true
    reaches_through joins [] r x t listed to from = absurd cc
    reaches_through joins (by ∷ others) r x t listed to from = ⊎_elim
        (λ here. reaches_through_first joins by others r t
        (subst (λ n. reaches joins (by ∷ others) r n ≡ true) (lawful.equal x by here) to)
        (subst (λ n. reaches joins (by ∷ others) n t ≡ true) (lawful.equal x by here) from))
        (λ later. reaches_through_other joins by others r x t (λ a b. reaches_through joins others a x b later) to from)
        (or_cases (m.same x by) _ listed)

    -- one more join after a chain
    influences_more : (world : Name → State) (known : List Name) (cs : List (Tagged Name Command)) → KnowsAll m world known → (s r t : Name)
        → influences m world known cs s r ≡ true → joined m world cs r t ≡ true → influences m world known cs s t ≡ true
    influences_more world known cs knows s r t h joins =
        let names = known ++ map (λ c. c.session) cs in
        let once = reaches_at_once (joined m world cs) names r t joins in
        or_right _ _ (⊎_elim
        (λ same. subst (λ n. reaches (joined m world cs) names n t ≡ true) (sym (lawful.equal s r same)) once)
        (λ chain. reaches_through (joined m world cs) names s r t (is_in-joined world known cs knows r t joins) chain once)
        (or_cases (m.same s r) _ h))

    -- whatever influences s passes the test
    influences-Reached : (world : Name → State) (known : List Name) (cs : List (Tagged Name Command)) → KnowsAll m world known → (s t : Name)
        → Influences m world cs s t → influences m world known cs s t ≡ true
    influences-Reached world known cs knows s t h = Reached-least (joined m world cs) s (influences m world known cs s) (or_left _ _ (lawful.itself s))
        (influences_more world known cs knows s) t h

    -- and nothing else does
    Influences-influences : (world : Name → State) (known : List Name) (cs : List (Tagged Name Command)) (s t : Name) → influences m world known cs s t ≡ true
        → Influences m world cs s t
    Influences-influences world known cs s t h = ⊎_elim
        (λ same. subst (λ n. Reached (joined m world cs) s n) (lawful.equal s t same) Self)
        (λ chain. Reached-reaches (joined m world cs) s (known ++ map (λ c. c.session) cs) s t chain Self)
        (or_cases (m.same s t) _ h)

    -- the test passes s, and is closed under joins
    pub influences-self : (world : Name → State) (known : List Name) (cs : List (Tagged Name Command)) (s : Name) → influences m world known cs s s ≡ true
    influences-self world known cs s = or_left _ _ (lawful.itself s)

    pub IsClosed-influences : (world : Name → State) (known : List Name) (cs : List (Tagged Name Command)) → KnowsAll m world known → (s : Name)
        → IsClosed m (influences m world known cs s) world cs
    IsClosed-influences world known cs knows s = influences_more world known cs knows s

    pub influence_is_least : InfluenceIsLeast m
    influence_is_least world known ts knows s = record {
      exact = λ t. (Influences-influences world known ts s t, influences-Reached world known ts knows s t);
      closed = IsClosed-influences world known ts knows s;
      least = λ keep passes closed t h. Reached-least (joined m world ts) s keep passes closed t (Influences-influences world known ts s t h);
    }

    pub second_half : SecondHalf m
    second_half world known ts knows s = leaving_out m lawful (influences m world known ts s) world world ts (IsClosed-influences world known ts knows s)
        (λ name passes. refl) s (influences-self world known ts s)

    pub influenced_states : InfluencedStates m
    influenced_states world other known ts knows s agree = final_states m lawful (influences m world known ts s) world other ts
        (IsClosed-influences world known ts knows s) agree

    -- a join that is accepted stands after its command
    names-accepted : (world : Name → State) (c : Tagged Name Command) (r t : Name) → (m.same r c.session && m.accepts r (world r) c.command t) ≡ true
        → m.names (after m world c r) t ≡ true
    names-accepted world c r t h =
        let both = and_parts (m.same r c.session) (m.accepts r (world r) c.command t) h in
        let accepts_here : m.accepts c.session (world c.session) c.command t ≡ true =
        subst (λ n. m.accepts n (world n) c.command t ≡ true) (lawful.equal r c.session both.0) both.1 in
        ap (λ state. m.names state t) (after-own m lawful world c r both.0) ∙ lawful.stands c.session (world c.session) c.command t accepts_here

    stood-now : (world : Name → State) (cs : List (Tagged Name Command)) (r t : Name) → m.names (world r) t ≡ true → stood m world cs r t ≡ true
    stood-now world [] r t h = h
    stood-now world (c ∷ cs) r t h = or_left _ _ h

    stood-accepted : (world : Name → State) (cs : List (Tagged Name Command)) (r t : Name) → accepted m world cs r t ≡ true → stood m world cs r t ≡ true
    stood-accepted world [] r t h = absurd cc
    stood-accepted world (c ∷ cs) r t h = or_right (m.names (world r) t) _ (⊎_elim
        (λ here. stood-now (after m world c) cs r t (names-accepted world c r t here))
        (λ later. stood-accepted (after m world c) cs r t later)
        (or_cases (m.same r c.session && m.accepts r (world r) c.command t) _ h))

    stood-joined : (world : Name → State) (cs : List (Tagged Name Command)) (r t : Name) → joined m world cs r t ≡ true → stood m world cs r t ≡ true
    stood-joined world cs r t h = ⊎_elim (stood-now world cs r t) (stood-accepted world cs r t) (or_cases (m.names (world r) t) _ h)

    joined-stood : (world : Name → State) (cs : List (Tagged Name Command)) (r t : Name) → stood m world cs r t ≡ true → joined m world cs r t ≡ true
    joined-stood world [] r t h = or_left _ _ h
    joined-stood world (c ∷ cs) r t h = ⊎_elim
        (λ now. or_left _ _ now)
        (λ later. joined-after m lawful world c cs r t (joined-stood (after m world c) cs r t later))
        (or_cases (m.names (world r) t) _ h)

    pub joins_stood : JoinsStood m
    joins_stood world ts r t = same_truth _ _ (stood-joined world ts r t) (joined-stood world ts r t)

    pub influence_of_standing : InfluenceOfStanding m
    influence_of_standing world ts s t = (
      Reached-more (joined m world ts) (stood m world ts) (stood-joined world ts) s t,
      Reached-more (stood m world ts) (joined m world ts) (joined-stood world ts) s t,
    )
