-- What items make of a session and of all others, one after another.
use Rattle.std.proofs.Common.{◌≡◌, ◌⊎◌, inl, inr, ℕ, suc, ◌+◌, ◌<◌, Bool, true, false, List, [], ◌∷◌, ◌++◌, append-nil, append_assoc, length, map, take, drop}
use Rattle.std.proofs.Common.{get_or, add-one, Option, Some, None, IfSome, Result, Ok, Err, OnOk, IsErr, IsTrue, IsFalse, refl, sym, ap, subst, ◌∙◌, ⊎_elim}
use Rattle.std.specs.Prelude.{bytes_eq}
use Rattle.std.specs.Option.{option_map}
use Rattle.std.specs.Result.{result_ok}
use Rattle.std.proofs.Math.Seq.{drop-cons, take-suc}
use Rattle.std.proofs.lemmas.Bool.{cases_Bool, both_ways, cond-true}
use Rattle.std.proofs.lemmas.List.{map-append, take-append-drop}
use Rattle.std.proofs.lemmas.Slice.Eq.{bytes_eq-Decides}
use Rattle.session_engine.proofs.Common.{all_arrive, Class, Line, Post, Asked, machine, ReceivesPosts, after_posts, Session, Coming, HasArrived, HasCome}
use Rattle.session_engine.proofs.Common.{HaveCome, item_of, AreSound, IsStep, Sessions}
use Rattle.isolation.specs.Alone as theory
use Rattle.isolation.specs.Alone.{alone_after, alone_lines, alone_posts}
use Rattle.isolation.proofs.ForCallers.{alone_after-append, alone_lines-append, alone_posts-append, after-other, after-own, all_arrive-append}
use Rattle.session_model.specs.Thread.{arrive_all}
use Rattle.session_model.proofs.ForCallers.{lawful}
use Rattle.session_engine.specs.declared.item.Item.{Item}
use Rattle.session_engine.specs.Items.{HasAdded, RunsAlone, SparesItsSession, all_lines}
use Rattle.session_engine.proofs.SparedLemmas.{spared_items}
use Rattle.session_engine.specs.Sessions.{AnotherFails, given_by, states_of}

-- what was found after was found before
found_before : (was now : Bool) → (IsTrue was → IsTrue now) → IsFalse now → IsFalse was
found_before was now keeps found = ⊎_elim (λ refused. absurd (both_ways _ found (keeps refused))) (λ fine. fine) (cases_Bool was)

all_lines-append : (xs ys : List (List Line)) → all_lines (xs ++ ys) ≡ all_lines xs ++ all_lines ys
all_lines-append [] ys = refl
all_lines-append (x ∷ xs) ys = ap (λ lines. x ++ lines) (all_lines-append xs ys) ∙ sym (append_assoc x (all_lines xs) (all_lines ys))

-- a session that has failed hears nothing
deaf : (classes : List Class) (from : List ℕ) (posts : List Post) (old new : Session) → IsTrue old.failed → ReceivesPosts classes from posts old new → new ≡ old
deaf classes from posts old new failed (inl after_posts) = after_posts
    ∙ cond-true old.failed old (record { state = arrive_all classes old.state from posts; failed = false }) failed
deaf classes from posts old new failed (inr (fine, taken, failed_session)) = absurd (both_ways _ fine failed)

-- what follows of items that have come, whatever they are: where memory was never refused, what a session alone
-- is told and how it is left; who has failed, and why memory was refused
record Follows (old new : Sessions) (name : List ℕ) (items : List Coming) (told : Option (List Line)) : Type 0 where
  lines : IsFalse new.memory_refused → told ≡ Some (all_lines (alone_lines (machine old.settings) name (states_of old name) items))
  own : IsFalse new.memory_refused → states_of new name ≡ alone_after (machine old.settings) name (states_of old name) items
  others : IsFalse new.memory_refused → (other : List ℕ) → IsFalse (bytes_eq other name)
      → states_of new other ≡ all_arrive (machine old.settings) (states_of old other) name (alone_posts (machine old.settings) name (states_of old name) items)
  settings : new.settings ≡ old.settings
  stay : (other : List ℕ) → IsFalse (bytes_eq other name) → IsTrue (old.session other).failed → new.session other ≡ old.session other
  kept : IsTrue old.memory_refused → IsTrue new.memory_refused
  memory : told ≡ None → IsTrue new.memory_refused
  blame : IsFalse old.memory_refused → IsTrue new.memory_refused → (told ≡ None) ⊎ AnotherFails old new name

-- nothing has come yet
follows_nothing : (sessions : Sessions) (name : List ℕ) → Follows sessions sessions name [] (Some [])
follows_nothing sessions name = record {
  lines = λ found. refl;
  own = λ found. refl;
  others = λ found other elsewhere. refl;
  settings = refl;
  stay = λ other elsewhere failed. refl;
  kept = λ was. was;
  memory = λ nothing. absurd (cc);
  blame = λ was now. absurd (both_ways _ was now);
}

pub none_of_err : {T E : Type 0} (result : Result T E) → IsErr result → result_ok result ≡ None
none_of_err (Ok value) h = absurd (cc)
none_of_err (Err error) h = refl

module _ (old new : Sessions) (name : List ℕ) where
  -- a command of its own
  follows_own : (asked : Asked) (told : Option (List Line)) → IsStep old new name asked told → Follows old new name (theory.Own asked ∷ []) told
  follows_own asked told step =
      let m = machine old.settings in
      let itself : bytes_eq name name ≡ true = (bytes_eq-Decides name name).1 refl in
      record {
        lines = λ found. step.lines found ∙ ap Some (sym (append-nil (m.does name (states_of old name) asked).lines));
        own = λ found. ap (λ states. states name) (step.states found) ∙ after-own m (lawful old.settings) (states_of old) (given_by name asked) name itself;
        others = λ found other elsewhere. ap (λ states. states other) (step.states found) ∙ after-other m (states_of old) (given_by name asked) other elsewhere
            ∙ ap (all_arrive m (states_of old other) name) (sym (append-nil (m.does name (states_of old name) asked).posts));
        settings = step.settings;
        stay = λ other elsewhere failed. deaf old.settings.classes name step.posts (old.session other) (new.session other) failed (step.others other elsewhere);
        kept = step.kept;
        memory = step.memory;
        blame = step.blame;
      }

  -- a post of another session, or one for which memory was wanted
  follows_arrival : (from : List ℕ) (post : Post) (told : Option (List Line)) → HasArrived old new name from post told → IfSome told (λ lines. lines ≡ [])
      → Follows old new name (theory.Arrival from post ∷ []) told
  follows_arrival from post (Some lines) has none = record {
    lines = λ found. ap Some none;
    own = has.state;
    others = λ found other elsewhere. ap (λ (session : Session). session.state) (has.others other elsewhere);
    settings = has.settings;
    stay = λ other elsewhere failed. has.others other elsewhere;
    kept = λ was. has.found ∙ was;
    memory = λ nothing. absurd (cc);
    blame = λ was now. absurd (both_ways _ was (sym has.found ∙ now));
  }
  follows_arrival from post None has none = record {
    lines = λ found. absurd (both_ways _ found has.memory);
    own = λ found. absurd (both_ways _ found has.memory);
    others = λ found. absurd (both_ways _ found has.memory);
    settings = has.settings;
    stay = λ other elsewhere failed. has.others other elsewhere;
    kept = λ was. has.memory;
    memory = λ nothing. has.memory;
    blame = λ was now. inl refl;
  }

  follows_one : (item : Coming) (told : Option (List Line)) → HasCome old new name item told → Follows old new name (item ∷ []) told
  follows_one (theory.Own asked) told step = follows_own asked told step
  follows_one (theory.Arrival from post) told (has, none) = follows_arrival from post told has none

  one_sound : (item : Coming) (told : Option (List Line)) → HasCome old new name item told → AreSound new
  one_sound (theory.Own asked) told step = step.sound
  one_sound (theory.Arrival from post) told (has, none) = has.sound

-- the rest does not come any more
follows_stop : (old new : Sessions) (name : List ℕ) (some all : List Coming) → Follows old new name some None → Follows old new name all None
follows_stop old new name some all runs =
    let refused = runs.memory refl in
    record {
      lines = λ found. absurd (both_ways _ found refused);
      own = λ found. absurd (both_ways _ found refused);
      others = λ found. absurd (both_ways _ found refused);
      settings = runs.settings;
      stay = runs.stay;
      kept = runs.kept;
      memory = runs.memory;
      blame = runs.blame;
    }

-- items after other items
module _ (old middle new : Sessions) (name : List ℕ) (xs ys : List Coming) (before : List Line) (told : Option (List Line))
    (first : Follows old middle name xs (Some before)) (second : Follows middle new name ys told) where
  found_middle : IsFalse new.memory_refused → IsFalse middle.memory_refused
  found_middle found = found_before middle.memory_refused new.memory_refused second.kept found

  follows_then : Follows old new name (xs ++ ys) (option_map (λ lines. before ++ lines) told)
  follows_then =
      let m = machine old.settings in
      let start = states_of old name in
      record {
        lines = λ found.
            ap (option_map (λ lines. before ++ lines)) (second.lines found)
            ∙ (λ i. Some (some_is (first.lines (found_middle found)) i
            ++ all_lines (alone_lines (machine (first.settings i)) name (first.own (found_middle found) i) ys)))
            ∙ ap Some (sym (ap all_lines (alone_lines-append m name start xs ys)
            ∙ all_lines-append (alone_lines m name start xs) (alone_lines m name (alone_after m name start xs) ys)));
        own = λ found.
            second.own found
            ∙ (λ i. alone_after (machine (first.settings i)) name (first.own (found_middle found) i) ys)
            ∙ sym (alone_after-append m name start xs ys);
        others = λ found other elsewhere.
            second.others found other elsewhere
            ∙ (λ i. all_arrive (machine (first.settings i)) (first.others (found_middle found) other elsewhere i) name
            (alone_posts (machine (first.settings i)) name (first.own (found_middle found) i) ys))
            ∙ sym (ap (all_arrive m (states_of old other) name) (alone_posts-append m name start xs ys)
            ∙ all_arrive-append m (states_of old other) name (alone_posts m name start xs) (alone_posts m name (alone_after m name start xs) ys));
        settings = second.settings ∙ first.settings;
        stay = λ other elsewhere failed.
            let still = first.stay other elsewhere failed in
            second.stay other elsewhere (ap (λ (session : Session). session.failed) still ∙ failed) ∙ still;
        kept = λ was. second.kept (first.kept was);
        memory = λ nothing. second.memory (none_of told nothing);
        blame = λ was now. ⊎_elim
            (λ refused. ⊎_elim (λ nothing. absurd (some_none nothing)) (λ another. inr (failed_still another)) (first.blame was refused))
            (λ fine. ⊎_elim (λ nothing. inl (ap (option_map (λ lines. before ++ lines)) nothing)) (λ another. inr (failed_first another))
            (second.blame fine now))
            (cases_Bool middle.memory_refused);
      }
    where
      some_is : {a b : List Line} → Some a ≡ Some b → a ≡ b
      some_is e = cc

      some_none : {a : List Line} → Some a ≡ None → ⊥
      some_none e = cc

      none_of : (told : Option (List Line)) → option_map (λ lines. before ++ lines) told ≡ None → told ≡ None
      none_of (Some lines) e = absurd (cc)
      none_of None e = refl

      failed_still : AnotherFails old middle name → AnotherFails old new name
      failed_still (other, elsewhere, was, now) = (other, elsewhere, was, ap (λ (session : Session). session.failed) (second.stay other elsewhere now) ∙ now)

      failed_first : AnotherFails middle new name → AnotherFails old new name
      failed_first (other, elsewhere, was, now) = (
        other,
        elsewhere,
        ⊎_elim (λ failed. absurd
            (both_ways _ was (ap (λ (session : Session). session.failed) (first.stay other elsewhere failed) ∙ failed))) (λ fine. fine)
            (cases_Bool (old.session other).failed),
        now,
      )

-- so of all that have come, one after another
follows : (old new : Sessions) (name : List ℕ) (items : List Coming) (told : Option (List Line)) → HaveCome old new name items told
    → Follows old new name items told
follows old new name [] told (same, none) =
    subst (λ (end : Sessions). Follows old end name [] told) (sym same) (subst (Follows old old name []) (sym none) (follows_nothing old name))
follows old new name (item ∷ items) told (inl (came, none)) =
    subst (Follows old new name (item ∷ items)) (sym none) (follows_stop old new name (item ∷ []) (item ∷ items) (follows_one old new name item None came))
follows old new name (item ∷ items) told (inr (between, lines, rest, came, others, is)) =
    subst (Follows old new name (item ∷ items)) (sym is)
    (follows_then old between new name (item ∷ []) items lines rest (follows_one old between name item (Some lines) came)
    (follows between new name items rest others))

come_sound : (old new : Sessions) (name : List ℕ) (items : List Coming) (told : Option (List Line)) → HaveCome old new name items told → AreSound old
    → AreSound new
come_sound old new name [] told (same, none) sound = subst AreSound (sym same) sound
come_sound old new name (item ∷ items) told (inl (came, none)) sound = one_sound old new name item None came
come_sound old new name (item ∷ items) told (inr (between, lines, rest, came, others, is)) sound =
    come_sound between new name items rest others (one_sound old between name item (Some lines) came)

pub runs_alone : (old new : Sessions) (name : List ℕ) (items : List Coming) (told : Option (List Line)) → AreSound old → HaveCome old new name items told
    → RunsAlone old new name items told
runs_alone old new name items told sound come =
    let it = follows old new name items told come in
    record {
      come = come;
      lines = it.lines;
      own = it.own;
      others = it.others;
      spared = λ well. some_spared told well come;
      blame = it.blame;
      sound = come_sound old new name items told come sound;
    }
  where
    some_spared : (told : Option (List Line)) → IsFalse (old.session name).failed → HaveCome old new name items told
        → IfSome told (SparesItsSession old new name items)
    some_spared (Some lines) well come = spared_items old new name items (Some lines) lines well refl come
    some_spared None well come = tt

-- a post has come as an item, of which nothing is told
pub arrival_comes : {T E : Type 0} (old new : Sessions) (name from : List ℕ) (post : Post) (before : List Line) (result : Result T E)
    → HasArrived old new name from post (result_ok result) → OnOk result (HasAdded old new name (theory.Arrival from post) before before)
arrival_comes old new name from post before (Ok done) has = (
  [],
  (
    record {
      state = has.state;
      hears = has.hears;
      fails = tt;
      others = has.others;
      settings = has.settings;
      found = has.found;
      memory = tt;
      sound = has.sound;
    },
    refl,
  ),
  sym (append-nil before),
)
arrival_comes old new name from post before (Err error) has = tt

-- one more item behind those that have come
pub come_more : (old now next : Sessions) (name : List ℕ) (items : List Coming) (item : Coming) (before lines : List Line)
    → HaveCome old now name items (Some before) → HasCome now next name item (Some lines) → HaveCome old next name (items ++ item ∷ []) (Some (before ++ lines))
come_more old now next name [] item before lines (same, none) came =
    let start : before ≡ [] = cc in
    inr (
      next,
      lines,
      Some [],
      subst (λ (begin : Sessions). HasCome begin next name item (Some lines)) same came,
      (refl, refl),
      ap (λ before. Some (before ++ lines)) start ∙ ap Some (sym (append-nil lines)),
    )
come_more old now next name (first ∷ items) item before lines (inl (came_first, none)) came = absurd (cc)
come_more old now next name (first ∷ items) item before lines (inr (between, its, None, came_first, others, is)) came = absurd (cc)
come_more old now next name (first ∷ items) item before lines (inr (between, its, Some more, came_first, others, is)) came =
    let all : before ≡ its ++ more = cc in
    inr (
      between,
      its,
      Some (more ++ lines),
      came_first,
      come_more between now next name items item more lines others came,
      ap (λ before. Some (before ++ lines)) all ∙ ap Some (append_assoc its more lines),
    )

-- or one for which memory was wanted, and the rest does not come any more
pub come_last : (old now new : Sessions) (name : List ℕ) (items : List Coming) (item : Coming) (rest : List Coming) (before : List Line)
    → HaveCome old now name items (Some before) → HasCome now new name item None → HaveCome old new name (items ++ item ∷ rest) None
come_last old now new name [] item rest before (same, none) came = inl (subst (λ (begin : Sessions). HasCome begin new name item None) same came, refl)
come_last old now new name (first ∷ items) item rest before (inl (came_first, none)) came = absurd (cc)
come_last old now new name (first ∷ items) item rest before (inr (between, its, None, came_first, others, is)) came = absurd (cc)
come_last old now new name (first ∷ items) item rest before (inr (between, its, Some more, came_first, others, is)) came =
    inr (between, its, None, came_first, come_last between now new name items item rest more others came, refl)

-- the items so far, the next, and the rest
pub items_split : (list : List Item) (i : ℕ) (item : Item) → i < length list → item ≡ get_or list i item
    → map item_of list ≡ map item_of (take i list) ++ item_of item ∷ map item_of (drop (suc i) list)
items_split list i item within is =
    ap (map item_of) (sym (take-append-drop i list)) ∙ map-append item_of (take i list) (drop i list)
    ∙ ap (λ rest. map item_of (take i list) ++ map item_of rest) (drop-cons list i item within)
    ∙ ap (λ item. map item_of (take i list) ++ item_of item ∷ map item_of (drop (suc i) list)) (sym is)

-- the items so far, with the next
pub items_more : (list : List Item) (i : ℕ) (item : Item) → i < length list → item ≡ get_or list i item
    → map item_of (take (i + 1) list) ≡ map item_of (take i list) ++ item_of item ∷ []
items_more list i item within is =
    ap (λ n. map item_of (take n list)) (add-one i) ∙ ap (map item_of) (take-suc list i item within) ∙ map-append item_of (take i list) _
    ∙ ap (λ item. map item_of (take i list) ++ item_of item ∷ []) (sym is)
