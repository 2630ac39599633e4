-- What a command of one session makes of an engine, by names.
use Rattle.std.proofs.Common.{◌≡◌, ◌<◌, ◌≤◌, ◌⊎◌, inl, inr, ℕ, Bool, true, false, true≢false, eqb, ltb, List, [], length, position, get_or, All, Option, Some}
use Rattle.std.proofs.Common.{None, is_some, IfSome, IsSome, OnSome, IsFalse, IsTrue, refl, sym, ap, subst, ◌∙◌, ⊎_elim, arith}
use Rattle.std.specs.Prelude.{bytes_eq}
use Rattle.std.proofs.Math.Path.{fun_ext}
use Rattle.std.specs.Option.{option_map_or}
use Rattle.std.proofs.lemmas.Bool.{cases_Bool, both_ways}
use Rattle.std.proofs.lemmas.Bool.Decides.{nat_tests}
use Rattle.std.proofs.lemmas.Slice.Eq.{bytes_eq-Decides}
use Rattle.session_engine.proofs.Common.{Class, fields_in, all_arrive, Line, Asked, AreSettings, IsFittingAsked, IsRightPost, machine, Post, State, Session}
use Rattle.session_engine.proofs.Common.{fresh, failed_session, ReceivesPosts, after_posts, IsPlaced, session_at, session_past, IsPrefix, front_same}
use Rattle.session_engine.proofs.Common.{EngineState, IsKept, IsWhole, place, seen_by_name, sessions, states, Fails, IsStep, Sessions, session_after}
use Rattle.session_engine.proofs.Common.{session_does, session_refusal}
use Rattle.isolation.specs.World.{after}
use Rattle.isolation.proofs.ForCallers.{after-other, after-own}
use Rattle.session_model.specs.Named.{AreNamed, IsNamedAsked}
use Rattle.session_model.specs.State.{fields_of}
use Rattle.session_model.specs.Thread.{Settings}
use Rattle.session_model.proofs.ForCallers.{lawful, keeps_named}
use Rattle.session_tables.specs.Tables.{AreEven}
use Rattle.session_tables.proofs.ForCallers.{after_posts_stranger, placed_by}
use Rattle.session_engine.specs.Commands.{OthersHear}
use Rattle.session_engine.specs.Sessions.{AllAreNamed, AnotherFails, given_by}
use Rattle.session_engine.proofs.EngineLemmas.{kept_by_name, one_name, placed, sessions-place, sound_by_name}
use Rattle.session_engine.proofs.SessionLemmas.{does_fine, after_posts_state, kept_fresh, kept_gone, kept_after_posts, named_after, named_hears, not_shut}
use Rattle.session_engine.proofs.SessionLemmas.{right_front, right_posts, sound_after}

some_if : {T : Type 0} (P : T → Type 0) (value : Option T) (x : T) → value ≡ Some x → P x → IfSome value P
some_if P value x e h = subst (λ value. IfSome value P) (sym e) h

none_if : {T : Type 0} (P : T → Type 0) (value : Option T) → value ≡ None → IfSome value P
none_if P value e = subst (λ value. IfSome value P) (sym e) tt

on_some : {T P : Type 0} (value : Option T) → P → OnSome value P
on_some (Some x) h = h
on_some None h = tt

on_none : {T : Type 0} (P : Type 0) (value : Option T) → value ≡ None → OnSome value P
on_none P value e = subst (λ value. OnSome value P) (sym e) tt

some_none : {T : Type 0} (x : T) → Some x ≡ None → ⊥
some_none x e = cc

-- what is refused is no value
pub some_none_of : {T P : Type 0} (refusal : Option T) → refusal ≡ None → IsSome refusal → P
some_none_of (Some code) none some = absurd (cc)
some_none_of None none some = absurd (cc)

-- the mark that memory was refused: it stays where none was wanted and no other session has failed, and is set else
pub data Marks (was now failing : Bool) (told : Option (List Line)) : Type 0 where
  Quiet : failing ≡ false → is_some told ≡ true → now ≡ was → Marks was now failing told
  Loud : (told ≡ None) ⊎ (failing ≡ true) → now ≡ true → Marks was now failing told

-- what became of the session itself: it was told what it does with the command and is left so, with these posts; or
-- memory was wanted, and these are the first of them
pub data Own (settings : Settings) (name : List ℕ) (asked : Asked) (told : Option (List Line)) (posts : List Post) (old new : Session) : Type 0 where
  Told : told ≡ Some (session_does settings name old asked).lines → new ≡ session_after settings name old asked
      → posts ≡ (session_does settings name old asked).posts → Own settings name asked told posts old new
  GaveUp : told ≡ None → new ≡ failed_session → IsPrefix posts (session_does settings name old asked).posts → Own settings name asked told posts old new

-- what became of a command of the session at a place
pub record Ended (old new : EngineState) (at : ℕ) (name : List ℕ) (asked : Asked) (told : Option (List Line)) (failing : Bool) : Type 0 where
  pub settings : new.settings ≡ old.settings
  pub names : new.names ≡ old.names
  pub posts : List Post
  pub others : OthersHear old.settings.classes name at posts old.tables new.tables failing
  pub mark : Marks old.memory_refused new.memory_refused failing told
  pub own : Own old.settings name asked told posts (session_at old.tables at) (session_at new.tables at)
  pub stays : IsSome (session_refusal old.settings name (session_at old.tables at) asked) → OnSome told (new.tables ≡ old.tables)

-- a session that has had no command hears nothing
after_posts_fresh : (classes : List Class) (from : List ℕ) (posts : List Post) → fresh ≡ after_posts classes from posts fresh
after_posts_fresh classes from posts = sym (after_posts_stranger classes from posts fresh refl)

module _ (old new : EngineState) (at : ℕ) (name : List ℕ) (asked : Asked) (told : Option (List Line)) (failing : Bool) (whole : IsWhole old)
    (named : (state : State) → IsFittingAsked old.settings state asked) (there : place old name ≡ Some at)
    (ended : Ended old new at name asked told failing) where
  -- the session at the place, before and after
  abbrev was_there : Session
  was_there = session_at old.tables at

  abbrev now_there : Session
  now_there = session_at new.tables at

  abbrev ItsOwn : Type 0
  ItsOwn = Own old.settings name asked told ended.posts was_there now_there

  abbrev ItsMark : Type 0
  ItsMark = Marks old.memory_refused new.memory_refused failing told

  abbrev StaysKept : Session → Type 0
  StaysKept = IsKept old.settings new.memory_refused

  own : sessions old name ≡ was_there
  own = sessions-place old name at there

  now_own : sessions new name ≡ now_there
  now_own = sessions-place new name at (ap (position (bytes_eq name)) ended.names ∙ there)

  -- by name: this one, or any other
  each : (P : List ℕ → Type 0) → P name → ((other : List ℕ) → bytes_eq other name ≡ false → P other) → (other : List ℕ) → P other
  each P here elsewhere other = ⊎_elim
      (λ same. subst P (sym ((bytes_eq-Decides other name).0 same)) here)
      (elsewhere other)
      (cases_Bool (bytes_eq other name))

  -- what holds of every other place holds of every other name
  by_name : (P : Session → Session → Type 0) → P fresh fresh →
      ((other : ℕ) → IsFalse (eqb other at) → IsPlaced old.tables other → P (session_at old.tables other) (session_at new.tables other))
      → (other : List ℕ) → bytes_eq other name ≡ false → P (sessions old other) (sessions new other)
  by_name P none some other differ = by (place old other) refl
    where
      moved : (found : Option ℕ) → place old other ≡ found → sessions new other ≡ option_map_or (session_at new.tables) found fresh
      moved found e = ap (λ found. option_map_or (session_at new.tables) found fresh) (ap (position (bytes_eq other)) ended.names ∙ e)

      stood : (found : Option ℕ) → place old other ≡ found → sessions old other ≡ option_map_or (session_at old.tables) found fresh
      stood found e = ap (λ found. option_map_or (session_at old.tables) found fresh) e

      by : (found : Option ℕ) → place old other ≡ found → P (sessions old other) (sessions new other)
      by None e = subst (λ (session : Session). P session (sessions new other)) (sym (stood None e)) (subst (P fresh) (sym (moved None e)) none)
      by (Some other') e =
          let apart : eqb other' at ≡ false = apart_of other' e in
          subst (λ (session : Session). P session (sessions new other)) (sym (stood (Some other') e))
          (subst (P (session_at old.tables other')) (sym (moved (Some other') e)) (some other' apart (placed old other other' whole e)))
        where
          apart_of : (other' : ℕ) → place old other ≡ Some other' → eqb other' at ≡ false
          apart_of other' e = ⊎_elim
              (λ same. let is : other' ≡ at = grind (arith, same) in absurd
              (both_ways _ differ ((bytes_eq-Decides other name).1 (sym (one_name old name other at there (e ∙ ap Some is))))))
              (λ apart. apart)
              (cases_Bool (eqb other' at))

  hears_other : (other : List ℕ) → bytes_eq other name ≡ false → ReceivesPosts old.settings.classes name ended.posts (sessions old other) (sessions new other)
  hears_other = by_name (ReceivesPosts old.settings.classes name ended.posts) (inl (after_posts_fresh old.settings.classes name ended.posts)) ended.others.hear

  after_posts_other : failing ≡ false → (other : List ℕ) → bytes_eq other name ≡ false
      → sessions new other ≡ after_posts old.settings.classes name ended.posts (sessions old other)
  after_posts_other none = by_name (λ was now. now ≡ after_posts old.settings.classes name ended.posts was)
      (after_posts_fresh old.settings.classes name ended.posts) (ended.others.all none)

  -- the mark falls from what was found
  less : IsFalse new.memory_refused → IsFalse old.memory_refused
  less found = by ended.mark
    where
      by : ItsMark → IsFalse old.memory_refused
      by (Quiet none some e) = sym e ∙ found
      by (Loud either e) = absurd (both_ways _ found e)

  kept_own : StaysKept now_there
  kept_own = by ended.own ended.mark
    where
      by : ItsOwn → ItsMark → StaysKept now_there
      by (Told lines e posts) mark = subst StaysKept (sym e)
          (record {
            well = λ found. not_shut old.settings name was_there asked ((whole.kept at).well (less found));
            sound = sound_after old.settings name was_there asked whole.settings (named was_there.state)
                (whole.kept at).sound;
          })
      by (GaveUp nothing e front) (Quiet none some f) = let no : false ≡ true = ap is_some (sym nothing) ∙ some in absurd (true≢false (sym no))
      by (GaveUp nothing e front) (Loud either f) = subst (λ mark. IsKept old.settings mark now_there) (sym f)
          (subst (IsKept old.settings true) (sym e) (kept_gone old.settings))

  -- what it has posted is right
  right : All IsRightPost ended.posts
  right = by ended.own
    where
      own_front : (posts : List Post) → IsPrefix posts (session_does old.settings name was_there asked).posts → All IsRightPost posts
      own_front = right_front old.settings name was_there asked whole.settings (named was_there.state) (whole.kept at).sound

      by : ItsOwn → All IsRightPost ended.posts
      by (Told lines e posts) = subst (All IsRightPost) (sym posts)
          (right_posts old.settings name was_there asked whole.settings (named was_there.state) (whole.kept at).sound)
      by (GaveUp nothing e front) = own_front ended.posts front

  kept_other : (other : ℕ) → eqb other at ≡ false → IsPlaced old.tables other → StaysKept (session_at new.tables other)
  kept_other other apart placed = by ended.mark
    where
      after_posts_one : StaysKept (after_posts old.settings.classes name ended.posts (session_at old.tables other))
      after_posts_one = kept_after_posts old.settings old.memory_refused new.memory_refused name ended.posts (session_at old.tables other) less right
          (whole.kept other)

      by : ItsMark → StaysKept (session_at new.tables other)
      by (Quiet none some e) = subst StaysKept (sym (ended.others.all none other apart placed)) after_posts_one
      by (Loud either e) = either_way (ended.others.hear other apart placed)
        where
          either_way : ReceivesPosts old.settings.classes name ended.posts (session_at old.tables other) (session_at new.tables other)
              → StaysKept (session_at new.tables other)
          either_way (inl f) = subst StaysKept (sym f) after_posts_one
          either_way (inr f) = subst (λ mark. IsKept old.settings mark (session_at new.tables other)) (sym e)
              (subst (IsKept old.settings true) (sym f.2) (kept_gone old.settings))

  pub whole_after : IsWhole new
  whole_after = record {
    settings = subst AreSettings (sym ended.settings) whole.settings;
    even = even;
    paired = ap length ended.names ∙ whole.paired ∙ sym ended.others.shape.places;
    named = subst (λ (names : List (List ℕ)). (at : ℕ) → at < length names → position (bytes_eq (get_or names at [])) names ≡ Some at)
        (sym ended.names) whole.named;
    laid = λ class. ap (λ layouts. fields_in layouts class) ended.others.shape.layouts ∙ whole.laid class
        ∙ ap (λ (settings : Settings). fields_of settings.classes class) (sym ended.settings);
    kept = λ other. subst (λ (settings : Settings). IsKept settings new.memory_refused (session_at new.tables other)) (sym ended.settings) (kept other);
  }
    where
      even : AreEven new.tables
      even = ended.others.shape.even whole.even

      kept : (other : ℕ) → StaysKept (session_at new.tables other)
      kept other = by (eqb other at) (ltb other (length new.tables.failed.places)) refl refl
        where
          by : (same within : Bool) → eqb other at ≡ same → ltb other (length new.tables.failed.places) ≡ within
              → StaysKept (session_at new.tables other)
          by true within e f = let is : at ≡ other = grind (arith, nat_tests, e) in subst (λ other. StaysKept (session_at new.tables other)) is kept_own
          by false true e f = let less : other < length old.tables.failed.places = grind (arith, nat_tests, f, ended.others.shape.places) in kept_other other e
              (placed_by old.tables other whole.even less)
          by false false e f = let past : length new.tables.failed.places ≤ other = grind (arith, nat_tests, f) in
              subst StaysKept (sym (session_past new.tables other even past)) (kept_fresh old.settings new.memory_refused)

  -- where memory was never refused no session had failed
  fine : IsFalse new.memory_refused → (other : List ℕ) → (sessions old other).failed ≡ false
  fine found other = (kept_by_name old other whole).well (less found)

  quiet : IsFalse new.memory_refused → failing ≡ false
  quiet found = by ended.mark
    where
      by : ItsMark → failing ≡ false
      by (Quiet none some e) = none
      by (Loud either e) = absurd (both_ways _ found e)

  -- what every session holds stays called by names
  named_all : IsNamedAsked asked → AllAreNamed (seen_by_name old) → AllAreNamed (seen_by_name new)
  named_all is all = each (λ other. AreNamed (sessions new other).state) (subst (λ (session : Session). AreNamed session.state) (sym now_own) (by ended.own))
      (λ other elsewhere. named_hears old.settings.classes name ended.posts (sessions old other) (sessions new other) (hears_other other elsewhere) (all other))
    where
      by : ItsOwn → AreNamed now_there.state
      by (Told lines e posts) = subst (λ (session : Session). AreNamed session.state) (sym e)
          (named_after old.settings name was_there asked whole.settings is
          (subst (λ (session : Session). AreNamed session.state) own (all name)))
      by (GaveUp nothing e front) = subst (λ (session : Session). AreNamed session.state) (sym e) keeps_named.at_first

  pub step_of : IsStep (seen_by_name old) (seen_by_name new) name asked told
  step_of = by ended.own ended.mark
    where
      kept_mark : ItsMark → IsTrue old.memory_refused → IsTrue new.memory_refused
      kept_mark (Quiet none some e) was = e ∙ was
      kept_mark (Loud either e) was = e

      on_same : (told : Option (List Line)) → OnSome told (new.tables ≡ old.tables) → OnSome told (sessions new ≡ sessions old)
      on_same None same = tt
      on_same (Some lines) same = fun_ext (λ other.
          λ i. option_map_or (session_at (same i)) (position (bytes_eq other) (ended.names i)) fresh)

      another : failing ≡ true → AnotherFails (seen_by_name old) (seen_by_name new) name
      another some =
          let it = ended.others.one some in
          let within : it.0 < length old.names = omega (arith, whole.paired, it.2.4) in
          let other = get_or old.names it.0 [] in
          let found = whole.named it.0 within in (
            other,
            apart_of other it.0 found it.1,
            ap (λ (session : Session). session.failed) (sessions-place old other it.0 found) ∙ it.3,
            ap (λ (session : Session). session.failed) (sessions-place new other it.0 (ap (position (bytes_eq other)) ended.names ∙ found)) ∙ it.4,
          )
        where
          apart_of : (other : List ℕ) (at' : ℕ) → place old other ≡ Some at' → eqb at' at ≡ false → bytes_eq other name ≡ false
          apart_of other at' found apart = ⊎_elim
              (λ same. let two : Some at' ≡ Some at = sym found ∙ ap (place old) ((bytes_eq-Decides other name).0 same) ∙ there in let is : at' ≡ at = cc in
              absurd (grind (arith, nat_tests, is, apart)))
              (λ differ. differ)
              (cases_Bool (bytes_eq other name))

      blames : ItsMark → IsFalse old.memory_refused → IsTrue new.memory_refused
          → (told ≡ None) ⊎ AnotherFails (seen_by_name old) (seen_by_name new) name
      blames (Quiet none some e) was now = absurd (both_ways _ was (sym e ∙ now))
      blames (Loud (inl nothing) e) was now = inl nothing
      blames (Loud (inr some) e) was now = inr (another some)

      by : ItsOwn → ItsMark → IsStep (seen_by_name old) (seen_by_name new) name asked told
      by (Told lines e posts) mark =
          let left : sessions new name ≡ session_after old.settings name (sessions old name) asked = now_own ∙ e
          ∙ ap (λ session. session_after old.settings name session asked) (sym own) in
          let made : ended.posts ≡ (session_does old.settings name (sessions old name) asked).posts = posts
          ∙ ap (λ session. (session_does old.settings name session asked).posts) (sym own) in
          record {
            lines = λ found. lines ∙ ap (λ session. Some (session_does old.settings name session asked).lines) (sym own)
                ∙ ap (λ effect. Some effect.lines) (does_fine old.settings name (sessions old name) asked (fine found name));
            states = λ found. fun_ext (each (λ other. states new other ≡ after (machine old.settings) (states old) (given_by name asked) other)
                (ap (λ session. session.state) left ∙ ap (λ effect. effect.state) (does_fine old.settings name (sessions old name) asked (fine found name))
                ∙ sym (after-own (machine old.settings) (lawful old.settings) (states old) (given_by name asked) name ((bytes_eq-Decides name name).1 refl)))
                (λ other elsewhere.
                ap (λ session. session.state) (after_posts_other (quiet found) other elsewhere)
                ∙ after_posts_state old.settings name ended.posts (sessions old other) (fine found other)
                ∙ ap (all_arrive (machine old.settings) (states old other) name)
                (made ∙ ap (λ effect. effect.posts) (does_fine old.settings name (sessions old name) asked (fine found name)))
                ∙ sym (after-other (machine old.settings) (states old) (given_by name asked) other elsewhere)));
            tells = some_if _ told _ lines (ap (λ session. (session_does old.settings name session asked).lines) (sym own));
            leaves = on_some told left;
            refused = λ refused. on_same told (ended.stays (subst (λ session. IsSome (session_refusal old.settings name session asked)) own refused));
            posts = ended.posts;
            posted = on_some told made;
            front = λ none. absurd (some_none _ (sym lines ∙ none));
            others = hears_other;
            settings = ended.settings;
            kept = kept_mark mark;
            memory = λ none. absurd (some_none _ (sym lines ∙ none));
            blame = λ was now. blames mark was now;
            well = λ found other. (kept_by_name old other whole).well found;
            sound = sound_by_name new whole_after;
            named = named_all;
          }
      by (GaveUp nothing e front) mark =
          let flag : new.memory_refused ≡ true = loud mark in
          record {
            lines = λ found. absurd (both_ways _ found flag);
            states = λ found. absurd (both_ways _ found flag);
            tells = none_if _ told nothing;
            leaves = on_none _ told nothing;
            refused = λ refused. on_none _ told nothing;
            posts = ended.posts;
            posted = on_none _ told nothing;
            front = λ none. subst (λ session. IsPrefix ended.posts (session_does old.settings name session asked).posts) (sym own) front;
            others = hears_other;
            settings = ended.settings;
            kept = kept_mark mark;
            memory = λ none. flag;
            blame = λ was now. inl nothing;
            well = λ found other. (kept_by_name old other whole).well found;
            sound = sound_by_name new whole_after;
            named = named_all;
          }
        where
          loud : ItsMark → new.memory_refused ≡ true
          loud (Quiet none some f) = let no : false ≡ true = ap is_some (sym nothing) ∙ some in absurd (true≢false (sym no))
          loud (Loud either f) = f

-- what a command has posted is a front of what it says
step_front : (old new : Sessions) (name : List ℕ) (asked : Asked) (told : Option (List Line)) → (step : IsStep old new name asked told)
    → IsPrefix step.posts (session_does old.settings name (old.session name) asked).posts
step_front old new name asked (Some lines) step = subst (IsPrefix step.posts) step.posted (front_same step.posts)
step_front old new name asked None step = step.front refl

-- what memory was refused for, also while it told a refusal
pub step_fails : (old middle new : Sessions) (name : List ℕ) (asked : Asked) (told : Option (List Line)) → IsStep old middle name asked told
    → Fails middle new name → IsStep old new name asked None
step_fails old middle new name asked told step fails = record {
  lines = λ found. absurd (both_ways _ found fails.memory);
  states = λ found. absurd (both_ways _ found fails.memory);
  tells = tt;
  leaves = tt;
  refused = λ refused. tt;
  posts = step.posts;
  posted = tt;
  front = λ none. step_front old middle name asked told step;
  others = λ other elsewhere. subst (ReceivesPosts old.settings.classes name step.posts (old.session other)) (sym (fails.others other elsewhere))
      (step.others other elsewhere);
  settings = fails.settings ∙ step.settings;
  kept = λ was. fails.memory;
  memory = λ none. fails.memory;
  blame = λ was now. inl refl;
  well = step.well;
  sound = fails.sound;
  named = λ is all other. ⊎_elim
      (λ same. subst (λ (session : Session). AreNamed session.state)
      (sym (ap new.session ((bytes_eq-Decides other name).0 same) ∙ fails.fails)) keeps_named.at_first)
      (λ elsewhere. subst (λ (session : Session). AreNamed session.state) (sym (fails.others other elsewhere)) (step.named is all other))
      (cases_Bool (bytes_eq other name));
}
