-- What a command leaves of its own session and of others.
use Rattle.std.proofs.Common.{◌≡◌, Bool, true, false, List, [], ◌∷◌, ◌++◌, length, refl, sym, ap, ◌∙◌, arith}
use Rattle.std.proofs.lemmas.Bool.{cond-true, cond-false, both_ways, false_from_ne_true}
use Rattle.isolation.specs.Machine.{Machine, IsLawful, Tagged}
use Rattle.isolation.specs.World.{effect, all_arrive, after, world_lines}

module _ {Name State Command Line Post : Type 0} (m : Machine Name State Command Line Post) where
  -- posts in two lists, one after another
  pub all_arrive-append : (state : State) (from : Name) (xs ys : List Post)
      → all_arrive m state from (xs ++ ys) ≡ all_arrive m (all_arrive m state from xs) from ys
  all_arrive-append state from [] ys = refl
  all_arrive-append state from (x ∷ xs) ys = all_arrive-append (m.arrives state from x) from xs ys

  -- one entry for each command
  pub length-world_lines : (world : Name → State) (ts : List (Tagged Name Command)) → length (world_lines m world ts) ≡ length ts
  length-world_lines world [] = refl
  length-world_lines world (t ∷ ts) = let rest = length-world_lines (after m world t) ts in omega arith

  -- another session has the posts, in order
  pub after-other : (world : Name → State) (t : Tagged Name Command) (name : Name) → m.same name t.session ≡ false
      → after m world t name ≡ all_arrive m (world name) t.session (effect m world t).posts
  after-other world t name other = cond-false (m.same name t.session) _ _ other

  module _ (lawful : IsLawful m) where
    -- the session of a command has its new state
    pub after-own : (world : Name → State) (t : Tagged Name Command) (name : Name) → m.same name t.session ≡ true
        → after m world t name ≡ (effect m world t).state
    after-own world t name own = cond-true (m.same name t.session) _ _ own

    -- a session that passes a test is not one that fails it
    pub other_session : (keep : Name → Bool) (one other : Name) → keep one ≡ true → keep other ≡ false → m.same one other ≡ false
    other_session keep one other passes fails = false_from_ne_true _
        (λ e. both_ways (keep other) fails (ap keep (sym (lawful.equal one other e)) ∙ passes))

    -- posts of a session that no join names leave a state unchanged
    pub all_arrive-stranger : (state : State) (from : Name) (posts : List Post) → m.names state from ≡ false → all_arrive m state from posts ≡ state
    all_arrive-stranger state from [] unknown = refl
    all_arrive-stranger state from (post ∷ posts) unknown =
        let passed = lawful.stranger state from post unknown in
        ap (λ s. all_arrive m s from posts) passed ∙ all_arrive-stranger state from posts unknown

    pub strangers : (world : Name → State) (t : Tagged Name Command) (name : Name) → m.same name t.session ≡ false → m.names (world name) t.session ≡ false
        → after m world t name ≡ world name
    strangers world t name other unknown = after-other world t name other ∙ all_arrive-stranger (world name) t.session (effect m world t).posts unknown

    -- posts add no join
    pub names-all_arrive : (state : State) (from : Name) (posts : List Post) (name : Name) → m.names (all_arrive m state from posts) name ≡ true
        → m.names state name ≡ true
    names-all_arrive state from [] name h = h
    names-all_arrive state from (post ∷ posts) name h = lawful.arrived state from post name (names-all_arrive (m.arrives state from post) from posts name h)
