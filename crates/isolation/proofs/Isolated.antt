-- Each session of a run is as if alone.
use Rattle.std.proofs.Common.{◌≡◌, true, false, List, [], ◌∷◌, ◌++◌, map, refl, sym, ap, ◌∙◌, ⊎_elim, arith, append_assoc}
use Rattle.std.proofs.lemmas.Bool.{cases_Bool}
use Rattle.isolation.specs.Machine.{Machine, IsLawful, Tagged}
use Rattle.isolation.specs.World.{effect, all_arrive, after}
use Rattle.isolation.specs.Alone.{Item, Own, Arrival, items, alone_after, alone_lines, alone_posts}
use Rattle.isolation.specs.Laws.{IsAlone, FirstHalf}
use Rattle.isolation.proofs.Worlds.{after-other, after-own}

module _ {Name State Command Line Post : Type 0} (m : Machine Name State Command Line Post) where
  -- items in two lists, one after another
  pub alone_after-append : (s : Name) (state : State) (xs ys : List (Item Name Command Post))
      → alone_after m s state (xs ++ ys) ≡ alone_after m s (alone_after m s state xs) ys
  alone_after-append s state [] ys = refl
  alone_after-append s state (Own command ∷ xs) ys = alone_after-append s (m.does s state command).state xs ys
  alone_after-append s state (Arrival from post ∷ xs) ys = alone_after-append s (m.arrives state from post) xs ys

  pub alone_lines-append : (s : Name) (state : State) (xs ys : List (Item Name Command Post))
      → alone_lines m s state (xs ++ ys) ≡ alone_lines m s state xs ++ alone_lines m s (alone_after m s state xs) ys
  alone_lines-append s state [] ys = refl
  alone_lines-append s state (Own command ∷ xs) ys = ap (λ lines. (m.does s state command).lines ∷ lines)
      (alone_lines-append s (m.does s state command).state xs ys)
  alone_lines-append s state (Arrival from post ∷ xs) ys = alone_lines-append s (m.arrives state from post) xs ys

  pub alone_posts-append : (s : Name) (state : State) (xs ys : List (Item Name Command Post))
      → alone_posts m s state (xs ++ ys) ≡ alone_posts m s state xs ++ alone_posts m s (alone_after m s state xs) ys
  alone_posts-append s state [] ys = refl
  alone_posts-append s state (Own command ∷ xs) ys =
      ap (λ posts. (m.does s state command).posts ++ posts) (alone_posts-append s (m.does s state command).state xs ys)
      ∙ sym (append_assoc (m.does s state command).posts _ _)
  alone_posts-append s state (Arrival from post ∷ xs) ys = alone_posts-append s (m.arrives state from post) xs ys

  -- what is made of items is made of those after the posts of another session
  after-posts : {A : Type 0} (made : State → List (Item Name Command Post) → A)
      → ((state : State) (from : Name) (post : Post) (rest : List (Item Name Command Post))
      → made state (Arrival from post ∷ rest) ≡ made (m.arrives state from post) rest)
      → (state : State) (from : Name) (posts : List Post) (rest : List (Item Name Command Post))
      → made state (map (Arrival from) posts ++ rest) ≡ made (all_arrive m state from posts) rest
  after-posts made one state from [] rest = refl
  after-posts made one state from (post ∷ posts) rest = one state from post _ ∙ after-posts made one (m.arrives state from post) from posts rest

  module _ (lawful : IsLawful m) where
    -- a command of s itself
    own_step : (s : Name) (world : Name → State) (t : Tagged Name Command) (ts : List (Tagged Name Command)) → m.same s t.session ≡ true
        → IsAlone m s (after m world t) ts → IsAlone m s world (t ∷ ts)
    own_step s world t ts own rest =
        let e : s ≡ t.session = lawful.equal s t.session own in
        let now : after m world t s ≡ (effect m world t).state = after-own m lawful world t s own in
        let does_same : m.does s (world s) t.command ≡ effect m world t = ap (λ name. m.does name (world name) t.command) e in
        record {
          lines = grind (arith, rest.lines, own, now, does_same);
          posts = grind (arith, rest.posts, own, now, does_same);
          state = grind (arith, rest.state, own, now, does_same);
        }

    -- a command of another session
    other_step : (s : Name) (world : Name → State) (t : Tagged Name Command) (ts : List (Tagged Name Command)) → m.same s t.session ≡ false
        → IsAlone m s (after m world t) ts → IsAlone m s world (t ∷ ts)
    other_step s world t ts other rest =
        let now : after m world t s ≡ all_arrive m (world s) t.session (effect m world t).posts = after-other m world t s other in
        let posts = (effect m world t).posts in
        let later = items m s (after m world t) ts in
        record {
          lines = grind (arith, rest.lines, other, now, after-posts (alone_lines m s) (λ state from post rest. refl) (world s) t.session posts later);
          posts = grind (arith, rest.posts, other, now, after-posts (alone_posts m s) (λ state from post rest. refl) (world s) t.session posts later);
          state = grind (arith, rest.state, other, now, after-posts (alone_after m s) (λ state from post rest. refl) (world s) t.session posts later);
        }

    pub first_half : FirstHalf m
    first_half s world [] = record { lines = refl; posts = refl; state = refl }
    first_half s world (t ∷ ts) =
        let rest = first_half s (after m world t) ts in
        ⊎_elim (λ own. own_step s world t ts own rest) (λ other. other_step s world t ts other rest) (cases_Bool (m.same s t.session))
