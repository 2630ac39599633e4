-- What a session does with a command, what it hears of others, and what holds of it between commands.
use Rattle.std.proofs.Common.{◌≡◌, ◌&&◌, ℕ, Bool, true, false, true≢false, cond, not, List, [], ◌∷◌, ◌++◌, Some, None, All, IsFalse, length-append, refl, sym}
use Rattle.std.proofs.Common.{ap, subst, ◌∙◌, inl, inr, arith}
use Rattle.std.specs.Prelude.{if◌then◌else◌}
use Rattle.std.proofs.lemmas.Bool.{and_parts, cond-false, cond_both}
use Rattle.std.proofs.lemmas.List.{get_or_append_left}
use Rattle.std.proofs.lemmas.List.Elements.{All-head, All-nil, All-tail}
use Rattle.session_engine.proofs.Common.{all_arrive, Class, Code, SessionFailed, Post, Asked, unless, AreSettings, IsFittingAsked, IsRightPost, machine, State}
use Rattle.session_engine.proofs.Common.{performs, Session, fresh, failed_session, ReceivesPosts, after_posts, IsPrefix, IsKept, is_reset, is_shut}
use Rattle.session_engine.proofs.Common.{session_after, session_does, session_refusal}
use Rattle.session_model.specs.Asked.{Reset}
use Rattle.session_model.specs.Fitting.{IsFitting}
use Rattle.session_model.specs.Named.{AreNamed, IsNamedAsked}
use Rattle.session_model.specs.Refusing.{refusal}
use Rattle.session_model.specs.State.{IsDeclared, IsSound}
use Rattle.session_model.specs.Thread.{Settings, arrive_all, arrives, does}
use Rattle.session_model.proofs.ForCallers.{arrive_all-is, keeps_declared, keeps_fitting, keeps_sound, keeps_named}
use Rattle.session_engine.specs.Sessions.{IsSoundSession}

some_none : {T : Type 0} (x : T) → Some x ≡ None → ⊥
some_none x e = cc

module _ (settings : Settings) (name : List ℕ) (session : Session) (asked : Asked) where
  -- a session that has not failed is not shut
  pub not_shut : session.failed ≡ false → is_shut session asked ≡ false
  not_shut fine = ap (λ failed. failed && not (is_reset asked)) fine

  -- and does the command
  pub does_fine : session.failed ≡ false → session_does settings name session asked ≡ does settings name session.state asked
  unfolding does
  does_fine fine = ap (λ b. unless (if b then Some SessionFailed else refusal settings name session.state asked) session.state
      (performs settings name session.state asked)) (not_shut fine)

  -- the one that begins anew is not refused
  mends : is_reset asked ≡ true → refusal settings name session.state asked ≡ None
  unfolding refusal
  mends reset = by asked reset
    where
      by : (asked : Asked) → is_reset asked ≡ true → refusal settings name session.state asked ≡ None
      by Reset reset = refl
      by _ reset = absurd (cc)

  -- a refused command leaves the session
  pub refused_after : (code : Code) → session_refusal settings name session asked ≡ Some code → session_after settings name session asked ≡ session
  refused_after code e =
      ap (λ refusal. record { state = (unless refusal session.state (performs settings name session.state asked)).state; failed = is_shut session asked }) e
      ∙ ap (λ failed. record { state = session.state; failed = failed }) (same session.failed (is_reset asked) refl refl)
    where
      same : (failed reset : Bool) → session.failed ≡ failed → is_reset asked ≡ reset → (failed && not reset) ≡ session.failed
      same true true was reset = absurd (some_none code
          (sym e ∙ ap (λ b. if b then Some SessionFailed else refusal settings name session.state asked)
          (ap (λ failed. failed && not (is_reset asked)) was ∙ ap not reset) ∙ mends reset))
      same true false was reset = sym was
      same false reset was is = sym was

  -- one that is shut is left
  shut_after : is_shut session asked ≡ true → session_after settings name session asked ≡ session
  shut_after shut = refused_after SessionFailed (ap (λ b. if b then Some SessionFailed else refusal settings name session.state asked) shut)

  module _ (are : AreSettings settings) (named : IsFittingAsked settings session.state asked) (sound : IsSoundSession settings session) where
    sound_state : IsSound (session_does settings name session asked).state
    unfolding does
    sound_state = by (is_shut session asked)
      where
        by : (shut : Bool) → IsSound (unless (if shut then Some SessionFailed else refusal settings name session.state asked) session.state
            (performs settings name session.state asked)).state
        by true = sound.sound
        by false = keeps_sound.by_command settings name session.state asked sound.sound

    declared_state : IsDeclared settings.classes (session_does settings name session asked).state
    unfolding does
    declared_state = by (is_shut session asked)
      where
        by : (shut : Bool) → IsDeclared settings.classes
            (unless (if shut then Some SessionFailed else refusal settings name session.state asked) session.state
            (performs settings name session.state asked)).state
        by true = sound.declared
        by false = keeps_declared.by_command settings name session.state asked sound.sound sound.declared

    fitting_state : IsFitting settings (session_does settings name session asked).state × All IsRightPost (session_does settings name session asked).posts
    unfolding does
    fitting_state = by (is_shut session asked)
      where
        by : (shut : Bool)
            → IsFitting settings (unless (if shut then Some SessionFailed else refusal settings name session.state asked) session.state
            (performs settings name session.state asked)).state
            × All IsRightPost (unless (if shut then Some SessionFailed else refusal settings name session.state asked) session.state
            (performs settings name session.state asked)).posts
        by true = (sound.fitting, All-nil IsRightPost)
        by false = keeps_fitting.by_command settings name session.state asked are named sound.sound sound.declared sound.fitting

    -- a command leaves its session sound
    pub sound_after : IsSoundSession settings (session_after settings name session asked)
    sound_after = record {
      sound = sound_state;
      declared = declared_state;
      fitting = fitting_state.0;
      empty = λ shut. shut_after shut ∙ sound.empty (and_parts _ _ shut).0;
    }

    -- and what it posts is right, also the first of that
    pub right_posts : All IsRightPost (session_does settings name session asked).posts
    right_posts = fitting_state.1

    pub right_front : (posts : List Post) → IsPrefix posts (session_does settings name session asked).posts → All IsRightPost posts
    right_front posts front = first_part posts front.0 (subst (All IsRightPost) front.1 right_posts)
      where
        first_part : (posts rest : List Post) → All IsRightPost (posts ++ rest) → All IsRightPost posts
        first_part posts rest right k d within = subst IsRightPost (get_or_append_left posts rest d k within)
            (right k d (omega (arith, length-append posts rest, within)))

-- a session is sound before its first command, and where it has failed
pub fresh_sound : (settings : Settings) → IsSoundSession settings fresh
fresh_sound settings = record {
  sound = keeps_sound.at_first;
  declared = keeps_declared.at_first settings.classes;
  fitting = keeps_fitting.at_first settings;
  empty = λ failed. absurd (true≢false (sym failed));
}

pub gone_sound : (settings : Settings) → IsSoundSession settings failed_session
gone_sound settings = record {
  sound = keeps_sound.at_first;
  declared = keeps_declared.at_first settings.classes;
  fitting = keeps_fitting.at_first settings;
  empty = λ failed. refl;
}

-- a session that has not failed is in the state that posts leave
pub after_posts_state : (settings : Settings) (from : List ℕ) (posts : List Post) (session : Session) → session.failed ≡ false
    → (after_posts settings.classes from posts session).state ≡ all_arrive (machine settings) session.state from posts
after_posts_state settings from posts session fine =
    ap (λ (session : Session). session.state)
    (cond-false session.failed session (record { state = arrive_all settings.classes session.state from posts; failed = false }) fine)
    ∙ sym (arrive_all-is settings session.state from posts)

-- a session is sound when it has heard right posts
after_posts_sound : (settings : Settings) (from : List ℕ) (posts : List Post) (session : Session) → All IsRightPost posts → IsSoundSession settings session
    → IsSoundSession settings (after_posts settings.classes from posts session)
after_posts_sound settings from posts session right sound = by session.failed refl
  where
    arrived : (state : State) (posts : List Post) → IsSound state → IsSound (arrive_all settings.classes state from posts)
    arrived state [] sound = sound
    arrived state (post ∷ posts) sound = arrived (arrives settings.classes state from post) posts (keeps_sound.by_post settings.classes state from post sound)

    declares : (state : State) (posts : List Post) → IsDeclared settings.classes state
        → IsDeclared settings.classes (arrive_all settings.classes state from posts)
    declares state [] declared = declared
    declares state (post ∷ posts) declared = declares (arrives settings.classes state from post) posts
        (keeps_declared.by_post settings.classes state from post declared)

    fits : (state : State) (posts : List Post) → All IsRightPost posts → IsFitting settings state
        → IsFitting settings (arrive_all settings.classes state from posts)
    fits state [] right fitting = fitting
    fits state (post ∷ posts) right fitting = fits (arrives settings.classes state from post) posts (All-tail IsRightPost post posts right)
        (keeps_fitting.by_post settings state from post fitting (All-head IsRightPost post posts right))

    by : (failed : Bool) → session.failed ≡ failed → IsSoundSession settings
        (cond failed session (record { state = arrive_all settings.classes session.state from posts; failed = false }))
    by true was = sound
    by false was = record {
      sound = arrived session.state posts sound.sound;
      declared = declares session.state posts sound.declared;
      fitting = fits session.state posts right sound.fitting;
      empty = λ failed. absurd (true≢false (sym failed));
    }

-- what a session holds stays called by names after a command that uses names for what it sets, publishes and joins
pub named_after : (settings : Settings) (name : List ℕ) (session : Session) (asked : Asked) → AreSettings settings → IsNamedAsked asked → AreNamed session.state
    → AreNamed (session_after settings name session asked).state
unfolding does
named_after settings name session asked are is named = by (is_shut session asked)
  where
    by : (shut : Bool) → AreNamed (unless (if shut then Some SessionFailed else refusal settings name session.state asked) session.state
        (performs settings name session.state asked)).state
    by true = named
    by false = keeps_named.by_command settings name session.state asked are is named

-- and so does what a session hears, or where it fails by it
pub named_hears : (classes : List Class) (from : List ℕ) (posts : List Post) (old new : Session) → ReceivesPosts classes from posts old new → AreNamed old.state
    → AreNamed new.state
named_hears classes from posts old new (inl is) named =
    subst (λ (session : Session). AreNamed session.state) (sym is)
    (cond_both old.failed old (record { state = arrive_all classes old.state from posts; failed = false }) (λ (session : Session). AreNamed session.state)
    (λ failed. named) (λ fine. arrived old.state posts named))
  where
    arrived : (state : State) (posts : List Post) → AreNamed state → AreNamed (arrive_all classes state from posts)
    arrived state [] named = named
    arrived state (post ∷ posts) named = arrived (arrives classes state from post) posts (keeps_named.by_post classes state from post named)
named_hears classes from posts old new (inr fails) named = subst (λ (session : Session). AreNamed session.state) (sym fails.2) keeps_named.at_first

-- what holds of every session holds of it then too
pub kept_after_posts : (settings : Settings) (was now : Bool) (from : List ℕ) (posts : List Post) (session : Session) → (IsFalse now → IsFalse was)
    → All IsRightPost posts → IsKept settings was session → IsKept settings now (after_posts settings.classes from posts session)
kept_after_posts settings was now from posts session less right kept =
    record { well = by session.failed refl; sound = after_posts_sound settings from posts session right kept.sound }
  where
    by : (failed : Bool) → session.failed ≡ failed → IsFalse now
        → IsFalse (cond failed session (record { state = arrive_all settings.classes session.state from posts; failed = false })).failed
    by true e = λ none. kept.well (less none)
    by false e = λ none. refl

-- and of one that has had no command, or has failed where memory was refused
pub kept_fresh : (settings : Settings) (refused : Bool) → IsKept settings refused fresh
kept_fresh settings refused = record { well = λ found. refl; sound = fresh_sound settings }

pub kept_gone : (settings : Settings) → IsKept settings true failed_session
kept_gone settings = record { well = λ none. absurd (true≢false none); sound = gone_sound settings }
