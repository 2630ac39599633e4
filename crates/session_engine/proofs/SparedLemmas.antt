-- Items of a session that finds memory for each of them, whatever other sessions do not find.
use Rattle.std.proofs.Common.{◌≡◌, ◌⊎◌, inl, inr, ℕ, Bool, true, false, not, ◌&&◌, List, [], ◌∷◌, ◌++◌, Option, Some, None, IsTrue, IsFalse, refl, sym, ap, ap₂}
use Rattle.std.proofs.Common.{subst, ◌∙◌}
use Rattle.std.specs.Prelude.{bytes_eq, if◌then◌else◌}
use Rattle.std.proofs.lemmas.Bool.{cond-true}
use Rattle.session_engine.proofs.Common.{Class, SessionFailed, Line, Post, Asked, unless, machine, refusal, State, performs, ReceivesPosts, after_posts}
use Rattle.session_engine.proofs.Common.{Session, Coming, HasArrived, HasCome, HaveCome, IsStep, Sessions, is_reset, is_shut, session_does}
use Rattle.isolation.specs.Alone as theory
use Rattle.isolation.specs.Alone.{alone_after, alone_lines, alone_posts}
use Rattle.isolation.specs.Machine.{Effect}
use Rattle.session_model.specs.Thread.{Settings, arrives, does}
use Rattle.session_tables.proofs.ForCallers.{after_posts-append, after_posts-none}
use Rattle.session_engine.specs.Items.{SparesItsSession, all_lines}
use Rattle.session_engine.specs.Sessions.{states_of}

-- what one item does to a session alone
abbrev lines_of : Settings → List ℕ → State → Coming → List Line
lines_of settings name state (theory.Own asked) = (does settings name state asked).lines
lines_of settings name state (theory.Arrival from post) = []

abbrev after_of : Settings → List ℕ → State → Coming → State
after_of settings name state (theory.Own asked) = (does settings name state asked).state
after_of settings name state (theory.Arrival from post) = arrives settings.classes state from post

abbrev posts_of : Settings → List ℕ → State → Coming → List Post
posts_of settings name state (theory.Own asked) = (does settings name state asked).posts
posts_of settings name state (theory.Arrival from post) = []

-- every other session has heard these posts, or has failed
abbrev OthersHear : Sessions → Sessions → List ℕ → List Post → Type 0
OthersHear old new name posts = (other : List ℕ) → IsFalse (bytes_eq other name)
    → (new.session other ≡ after_posts old.settings.classes name posts (old.session other)) ⊎ IsTrue (new.session other).failed

-- one item that found memory, in a session that had not failed
record DoesOne (old new : Sessions) (name : List ℕ) (item : Coming) (told : List Line) : Type 0 where
  lines : told ≡ lines_of old.settings name (states_of old name) item
  own : new.session name ≡ record { state = after_of old.settings name (states_of old name) item; failed = false }
  others : OthersHear old new name (posts_of old.settings name (states_of old name) item)
  settings : new.settings ≡ old.settings

-- a session that has not failed is shut for no command
ajar : (session : Session) (asked : Asked) → IsFalse session.failed → is_shut session asked ≡ false
ajar session asked well = ap (λ failed. failed && not (is_reset asked)) well

does_ajar : (settings : Settings) (name : List ℕ) (session : Session) (asked : Asked) → IsFalse session.failed
    → session_does settings name session asked ≡ does settings name session.state asked
unfolding does
does_ajar settings name session asked well =
    ap (λ b. unless (if b then Some SessionFailed else refusal settings name session.state asked) session.state (performs settings name session.state asked))
    (ajar session asked well)

-- a session that has failed by posts has failed
hears_or_fails : (classes : List Class) (from : List ℕ) (posts : List Post) (one other : Session) → ReceivesPosts classes from posts one other
    → (other ≡ after_posts classes from posts one) ⊎ IsTrue other.failed
hears_or_fails classes from posts one other (inl hears) = inl hears
hears_or_fails classes from posts one other (inr fails) = inr (ap (λ (session : Session). session.failed) fails.2)

does_own : (old new : Sessions) (name : List ℕ) (asked : Asked) (told : List Line) → IsFalse (old.session name).failed → IsStep old new name asked (Some told)
    → DoesOne old new name (theory.Own asked) told
does_own old new name asked told well step =
    let same = does_ajar old.settings name (old.session name) asked well in
    record {
      lines = step.tells ∙ ap (λ (effect : Effect State Line Post). effect.lines) same;
      own = step.leaves ∙ ap₂ (λ (state : State) (failed : Bool). record { state = state; failed = failed })
          (ap (λ (effect : Effect State Line Post). effect.state) same) (ajar (old.session name) asked well);
      others = λ other elsewhere.
          hears_or_fails old.settings.classes name _ (old.session other) (new.session other)
          (subst (λ posts. ReceivesPosts old.settings.classes name posts (old.session other) (new.session other))
          (step.posted ∙ ap (λ (effect : Effect State Line Post). effect.posts) same) (step.others other elsewhere));
      settings = step.settings;
    }

after_posts_well : (classes : List Class) (from : List ℕ) (post : Post) (state : State) (failed : Bool) → IsFalse failed
    → after_posts classes from (post ∷ []) (record { state = state; failed = failed }) ≡ record { state = arrives classes state from post; failed = false }
after_posts_well classes from post state true well = absurd (cc well)
after_posts_well classes from post state false well = refl

does_arrival : (old new : Sessions) (name from : List ℕ) (post : Post) (told : List Line) → IsFalse (old.session name).failed
    → HasArrived old new name from post (Some told) → told ≡ [] → DoesOne old new name (theory.Arrival from post) told
does_arrival old new name from post told well has none = record {
  lines = none;
  own = has.hears ∙ after_posts_well old.settings.classes from post (old.session name).state (old.session name).failed well;
  others = λ other elsewhere. inl (has.others other elsewhere ∙ sym (after_posts-none old.settings.classes name (old.session other)));
  settings = has.settings;
}

does_one : (old new : Sessions) (name : List ℕ) (item : Coming) (told : List Line) → IsFalse (old.session name).failed → HasCome old new name item (Some told)
    → DoesOne old new name item told
does_one old new name (theory.Own asked) told well step = does_own old new name asked told well step
does_one old new name (theory.Arrival from post) told well (has, none) = does_arrival old new name from post told well has none

-- posts that others have heard, and then more of them
others_then : (old middle new : Sessions) (name : List ℕ) (posts more : List Post) → middle.settings ≡ old.settings → OthersHear old middle name posts
    → OthersHear middle new name more → OthersHear old new name (posts ++ more)
others_then old middle new name posts more same first second = λ other elsewhere. by other (first other elsewhere) (second other elsewhere)
  where
    classes : Settings → List Class
    classes settings = settings.classes

    by : (other : List ℕ) → (middle.session other ≡ after_posts old.settings.classes name posts (old.session other)) ⊎ IsTrue (middle.session other).failed
        → (new.session other ≡ after_posts middle.settings.classes name more (middle.session other)) ⊎ IsTrue (new.session other).failed
        → (new.session other ≡ after_posts old.settings.classes name (posts ++ more) (old.session other)) ⊎ IsTrue (new.session other).failed
    by other one (inr fails) = inr fails
    by other (inl hears) (inl later) =
        inl (later ∙ ap (λ (settings : Settings). after_posts settings.classes name more (middle.session other)) same
        ∙ ap (after_posts old.settings.classes name more) hears
        ∙ sym (after_posts-append old.settings.classes name posts more (old.session other)))
    by other (inr fails) (inl later) =
        inr (ap (λ (session : Session). session.failed) (later ∙ cond-true (middle.session other).failed (middle.session other) _ fails) ∙ fails)

session_is : (session : Session) → IsFalse session.failed → session ≡ record { state = session.state; failed = false }
session_is session well = ap (λ failed. record { state = session.state; failed = failed }) well

-- items behind one that leaves the session in this state, told from the settings before that one
rest_spared : (settings : Settings) (state : State) (middle new : Sessions) (name : List ℕ) (items : List Coming) (more : List Line)
    → middle.settings ≡ settings → states_of middle name ≡ state → SparesItsSession middle new name items more
    → (more ≡ all_lines (alone_lines (machine settings) name state items))
    × (new.session name ≡ record { state = alone_after (machine settings) name state items; failed = false })
    × OthersHear middle new name (alone_posts (machine settings) name state items)
rest_spared settings state middle new name items more same is rest = (
  rest.lines ∙ ap₂ (λ (settings : Settings) (state : State). all_lines (alone_lines (machine settings) name state items)) same is,
  rest.own ∙ ap₂ (λ (settings : Settings) (state : State). record { state = alone_after (machine settings) name state items; failed = false }) same is,
  subst (OthersHear middle new name) (ap₂ (λ (settings : Settings) (state : State). alone_posts (machine settings) name state items) same is) rest.others,
)

-- one item, and then those behind it
spared_then : (old middle new : Sessions) (name : List ℕ) (item : Coming) (items : List Coming) (lines more : List Line)
    → DoesOne old middle name item lines → SparesItsSession middle new name items more → SparesItsSession old new name (item ∷ items) (lines ++ more)
spared_then old middle new name (theory.Own asked) items lines more one rest =
    let after = after_of old.settings name (states_of old name) (theory.Own asked) in
    let (its_lines, its_own, hear) = rest_spared old.settings after middle new name items more one.settings
    (ap (λ (session : Session). session.state) one.own) rest in
    record {
      lines = ap₂ (λ xs ys. xs ++ ys) one.lines its_lines;
      own = its_own;
      others = others_then old middle new name (posts_of old.settings name (states_of old name) (theory.Own asked))
          (alone_posts (machine old.settings) name after items) one.settings one.others hear;
    }
spared_then old middle new name (theory.Arrival from post) items lines more one rest =
    let after = after_of old.settings name (states_of old name) (theory.Arrival from post) in
    let (its_lines, its_own, hear) = rest_spared old.settings after middle new name items more one.settings
    (ap (λ (session : Session). session.state) one.own) rest in
    record {
      lines = ap₂ (λ xs ys. xs ++ ys) one.lines its_lines;
      own = its_own;
      others = others_then old middle new name [] (alone_posts (machine old.settings) name after items) one.settings one.others hear;
    }

pub spared_items : (old new : Sessions) (name : List ℕ) (items : List Coming) (told : Option (List Line)) (lines : List Line)
    → IsFalse (old.session name).failed → told ≡ Some lines
    → HaveCome old new name items told → SparesItsSession old new name items lines
spared_items old new name [] told lines well is (same, none) =
    let nothing : lines ≡ [] = cc in
    record {
      lines = nothing;
      own = ap (λ (sessions : Sessions). sessions.session name) same ∙ session_is (old.session name) well;
      others = λ other elsewhere. inl (ap (λ (sessions : Sessions). sessions.session other) same
          ∙ sym (after_posts-none old.settings.classes name (old.session other)));
    }
spared_items old new name (item ∷ items) told lines well is (inl (came, none)) = absurd (cc)
spared_items old new name (item ∷ items) told lines well is (inr (between, first, None, came, others, all)) = absurd (cc)
spared_items old new name (item ∷ items) told lines well is (inr (between, first, Some more, came, others, all)) =
    let whole : lines ≡ first ++ more = cc in
    let one = does_one old between name item first well came in
    subst (SparesItsSession old new name (item ∷ items)) (sym whole)
    (spared_then old between new name item items first more one
    (spared_items between new name items (Some more) more (ap (λ (session : Session). session.failed) one.own) refl others))
