-- Sessions that were spared, in runs in which others ran out of memory.
use Rattle.std.proofs.Common.{◌≡◌, ◌⊎◌, inl, inr, ℕ, Bool, true, false, List, [], ◌∷◌, Option, Some, None, OnSome, IfSome, length, map, refl, sym, ap, ap₂}
use Rattle.std.proofs.Common.{subst, ◌∙◌, ⊎_elim, arith}
use Rattle.std.specs.Prelude.{if◌then◌else◌}
use Rattle.std.proofs.lemmas.Bool.{cases_Bool, false_from_ne_true}
use Rattle.isolation.specs.Machine.{Tagged}
use Rattle.isolation.specs.World.{at_session, entries_of, only, world_after, world_lines}
use Rattle.isolation.specs.Influence.{influences}
use Rattle.isolation.specs.Spared as theory
use Rattle.isolation.specs.Spared.{AreDone, AreLossy, AreSpared, BeginsAnew, EndIn, IsDone, IsLossy, Mortal, Told}
use Rattle.isolation.proofs.Worlds.{length-world_lines}
use Rattle.isolation.proofs.LeftOut.{entries_of-only}
use Rattle.isolation.proofs.ForCallers.{IsClosed-influences, influences-self, spared_law}
use Rattle.plain_types.specs.declared.code.Code.TheVariants.{SessionFailed}
use Rattle.session_model.specs.declared.line.Line.{Line}
use Rattle.session_model.specs.declared.line.Line.TheVariants.{Error}
use Rattle.session_model.specs.declared.post.Post.{Post}
use Rattle.session_model.specs.Asked.{Asked, Reset}
use Rattle.session_model.specs.Effects.{unless}
use Rattle.session_model.specs.Machine.{machine}
use Rattle.session_model.specs.Refusing.{refusal}
use Rattle.session_model.specs.State.{State}
use Rattle.session_model.specs.Thread.{Settings, does, performs}
use Rattle.session_model.proofs.ForCallers.{arrive_all-is, lawful}
use Rattle.session_tables.specs.Reaching.{ReceivesPosts, after_posts}
use Rattle.session_tables.specs.Session.{Session}
use Rattle.session_engine.specs.Sessions.{is_reset, is_shut, session_does}
use Rattle.server_world.specs.declared.report.Entry.{Entry}
use Rattle.server_world.specs.declared.report.Entry.TheVariants.{Lines, OutOfMemory}
use Rattle.server_world.specs.Runs.{AreSteps, IsApart, IsEntry, entry_lines}
use Rattle.server_world.specs.Spared.{AreFine, EndsIn, IsFine, IsSpared, mortal}
use Rattle.server_world.specs.Server.{Server, OnlyRefused, failed, names, sessions, settings, states}
use Rattle.server_world.proofs.ServerLemmas.{knows_all}
use Rattle.server_world.proofs.RunLemmas.{apart, entries_of-map, entry_is}

-- beginning anew asks for no state
pub begins_anew : (settings : Settings) → BeginsAnew (machine settings) is_reset
unfolding does refusal performs
begins_anew settings s one other Reset e = refl
begins_anew settings s one other _ e = absurd (cc)

abbrev mortal_of : Session → Mortal State
mortal_of session = record { state = session.state; failed = session.failed }

after_posts_is : (settings : Settings) (from : List ℕ) (posts : List Post) (state : State) (failed : Bool)
    → mortal_of (after_posts settings.classes from posts (record { state = state; failed = failed }))
    ≡ theory.heard (machine settings) is_reset from posts (record { state = state; failed = failed })
after_posts_is settings from posts state true = refl
after_posts_is settings from posts state false = ap (λ state. record { state = state; failed = false }) (sym (arrive_all-is settings state from posts))

after_posts_mortal : (settings : Settings) (from : List ℕ) (posts : List Post) (one other : Session) → ReceivesPosts settings.classes from posts one other
    → (mortal_of other ≡ theory.heard (machine settings) is_reset from posts (mortal_of one)) ⊎ ((mortal_of other).failed ≡ true)
after_posts_mortal settings from posts one other (inl after_posts) = inl (ap mortal_of after_posts ∙ after_posts_is settings from posts one.state one.failed)
after_posts_mortal settings from posts one other (inr fails) = inr (ap (λ (session : Session). session.failed) fails.2)

if_some : {T : Type 0} (value : Option T) (P : T → Type 0) (x : T) → value ≡ Some x → IfSome value P → P x
if_some (Some y) P x e h = subst P (some_is y x e) h
  where
    some_is : {T : Type 0} (y x : T) → Some y ≡ Some x → y ≡ x
    some_is y x e = cc
if_some None P x e h = absurd (cc e)

on_some : {T P : Type 0} (value : Option T) (x : T) → value ≡ Some x → OnSome value P → P
on_some (Some y) x e h = h
on_some None x e h = absurd (cc e)

does_ajar : (settings : Settings) (name : List ℕ) (session : Session) (asked : Asked) → is_shut session asked ≡ false
    → session_does settings name session asked ≡ does settings name session.state asked
unfolding does
does_ajar settings name session asked ajar =
    ap (λ b. unless (if b then Some SessionFailed else refusal settings name session.state asked) session.state (performs settings name session.state asked))
    ajar

does_shut : (settings : Settings) (name : List ℕ) (session : Session) (asked : Asked) → is_shut session asked ≡ true
    → (session_does settings name session asked).lines ≡ Error SessionFailed ∷ []
does_shut settings name session asked shut =
    ap (λ b. (unless (if b then Some SessionFailed else refusal settings name session.state asked) session.state
    (performs settings name session.state asked)).lines) shut

-- what is told of a command
abbrev pub told_of : Server → Tagged (List ℕ) Asked → Entry → Told Line
told_of server t entry = record { lines = entry_lines entry; shut = is_shut (sessions server t.session) t.command }

-- a command with its entry is such a step
pub is_lossy : (old new : Server) (t : Tagged (List ℕ) Asked) (entry : Entry) → IsEntry old new t entry
    → IsLossy (machine (settings old)) is_reset (mortal old) (mortal new) t (told_of old t entry)
is_lossy old new t entry is =
    let step = is.step in
    record {
      shut = refl;
      tells = λ lines some ajar. if_some (entry_lines entry) _ lines some step.tells
          ∙ ap (λ effect. effect.lines) (does_ajar (settings old) t.session (sessions old t.session) t.command ajar);
      leaves = λ lines some ajar. ap mortal_of (on_some (entry_lines entry) lines some step.leaves)
          ∙ ap₂ (λ (state : State) (failed : Bool). record { state = state; failed = failed })
          (ap (λ effect. effect.state) (does_ajar (settings old) t.session (sessions old t.session) t.command ajar)) ajar;
      posts = step.posts;
      posted = λ lines some ajar. on_some (entry_lines entry) lines some step.posted
          ∙ ap (λ effect. effect.posts) (does_ajar (settings old) t.session (sessions old t.session) t.command ajar);
      others = λ other elsewhere. after_posts_mortal (settings old) t.session step.posts (sessions old other) (sessions new other)
          (step.others other elsewhere);
    }

-- what is told along a run
abbrev tolds : (old new : Server) (ts : List (Tagged (List ℕ) Asked)) (entries : List Entry) → AreSteps old ts entries new → List (Told Line)
tolds old new [] entries steps = []
tolds old new (t ∷ ts) [] steps = []
tolds old new (t ∷ ts) (entry ∷ entries) steps = told_of old t entry ∷ tolds steps.0 new ts entries steps.2

are_lossy : (s : Settings) (old new : Server) (ts : List (Tagged (List ℕ) Asked)) (entries : List Entry) (steps : AreSteps old ts entries new)
    → settings old ≡ s
    → AreLossy (machine s) is_reset (mortal old) ts (tolds old new ts entries steps) (mortal new)
are_lossy s old new [] [] steps same = ap mortal steps
are_lossy s old new [] (entry ∷ entries) steps same = absurd steps
are_lossy s old new (t ∷ ts) [] steps same = absurd steps
are_lossy s old new (t ∷ ts) (entry ∷ entries) steps same = (
  mortal steps.0,
  subst (λ settings. IsLossy (machine settings) is_reset (mortal old) (mortal steps.0) t (told_of old t entry)) same (is_lossy old steps.0 t entry steps.1),
  are_lossy s steps.0 new ts entries steps.2 (steps.1.step.settings ∙ same),
)

told_lines : (keep : List ℕ → Bool) (old new : Server) (ts : List (Tagged (List ℕ) Asked)) (entries : List Entry) (steps : AreSteps old ts entries new)
    → map (λ (one : Told Line). one.lines) (entries_of keep ts (tolds old new ts entries steps)) ≡ map entry_lines (entries_of keep ts entries)
told_lines keep old new [] entries steps = refl
told_lines keep old new (t ∷ ts) [] steps = refl
told_lines keep old new (t ∷ ts) (entry ∷ entries) steps =
    let rest = told_lines keep steps.0 new ts entries steps.2 in
    by (keep t.session) refl rest
  where
    by : (passes : Bool) → keep t.session ≡ passes
        → map (λ (one : Told Line). one.lines) (entries_of keep ts (tolds steps.0 new ts entries steps.2)) ≡ map entry_lines (entries_of keep ts entries)
        → map (λ (one : Told Line). one.lines) (entries_of keep (t ∷ ts) (told_of old t entry ∷ tolds steps.0 new ts entries steps.2))
        ≡ map entry_lines (entries_of keep (t ∷ ts) (entry ∷ entries))
    by true e rest = rw e (ap (λ xs. entry_lines entry ∷ xs) rest)
    by false e rest = rw e rest

-- a command that was answered neither by `E20` nor by `E21` was done
pub is_done : (old new : Server) (t : Tagged (List ℕ) Asked) (entry : Entry) → IsEntry old new t entry → IsFine entry → IsDone (told_of old t entry)
is_done old new t (Lines lines) is fine = record {
  found = (lines, refl);
  ajar = false_from_ne_true _ (λ shut. fine (is.step.tells ∙ does_shut (settings old) t.session (sessions old t.session) t.command shut));
}
is_done old new t OutOfMemory is fine = absurd fine

are_done : (keep : List ℕ → Bool) (old new : Server) (ts : List (Tagged (List ℕ) Asked)) (entries : List Entry) (steps : AreSteps old ts entries new)
    → AreFine keep ts entries → AreDone keep ts (tolds old new ts entries steps)
are_done keep old new [] entries steps fine = tt
are_done keep old new (t ∷ ts) [] steps fine = absurd fine
are_done keep old new (t ∷ ts) (entry ∷ entries) steps fine =
    ((λ passes. is_done old steps.0 t entry steps.1 (fine.0 passes)), are_done keep steps.0 new ts entries steps.2 fine.1)

-- each session has failed, or is in its state
pub ends_first : (s : Settings) (keep : List ℕ → Bool) (old : Server) → EndIn (machine s) is_reset keep (states old) (mortal old)
ends_first s keep old = λ name passes. ⊎_elim
    (λ was. inl was)
    (λ well. inr (ap (λ failed. record { state = states old name; failed = failed }) well))
    (cases_Bool (failed old name))

pub ends_in : (new : Server) (name : List ℕ) (state : State) → theory.EndsIn (machine (settings new)) is_reset state (mortal new name) → EndsIn new name state
ends_in new name state (inl was) = inl was
ends_in new name state (inr is) = inr ((ap (λ session. session.failed) is, ap (λ session. session.state) is))

-- entries that tell these lines
entries_are : (entries : List Entry) (lines : List (List Line)) → map entry_lines entries ≡ map Some lines → entries ≡ map Lines lines
entries_are [] [] e = refl
entries_are [] (one ∷ lines) e = absurd (cc e)
entries_are (entry ∷ entries) [] e = absurd (cc e)
entries_are (entry ∷ entries) (one ∷ lines) e =
    let here : entry_lines entry ≡ Some one = cc in
    let rest : map entry_lines entries ≡ map Some lines = cc in
    ap₂ (λ x xs. x ∷ xs) (entry_is entry one here) (entries_are entries lines rest)

length_steps : (old new : Server) (ts : List (Tagged (List ℕ) Asked)) (entries : List Entry) → AreSteps old ts entries new → length entries ≡ length ts
length_steps old new [] [] steps = refl
length_steps old new [] (entry ∷ entries) steps = absurd steps
length_steps old new (t ∷ ts) [] steps = absurd steps
length_steps old new (t ∷ ts) (entry ∷ entries) steps = let rest = length_steps steps.0 new ts entries steps.2 in omega arith

-- a session that was spared with all that influence it
pub spared : (old new : Server) (ts : List (Tagged (List ℕ) Asked)) (entries : List Entry) → AreSteps old ts entries new → (s : List ℕ)
    → IsSpared old ts entries s → IsApart old ts entries s (EndsIn new s)
spared old new ts entries steps s fine =
    let m = machine (settings old) in
    let law = lawful (settings old) in
    let keep = influences m (states old) (names old) ts s in
    let closed = IsClosed-influences m law (states old) (names old) ts (knows_all (settings old) old.engine) s in
    let itself = influences-self m law (states old) (names old) ts s in
    let wl = world_lines m (states old) ts in
    let run = spared_law m is_reset law (begins_anew (settings old)) keep (states old) (mortal old) (mortal new) ts (tolds old new ts entries steps)
    closed (ends_first (settings old) keep old) (are_lossy (settings old) old new ts entries steps refl) (are_done keep old new ts entries steps fine) in
    let kept_entries : entries_of keep ts entries ≡ map Lines (entries_of keep ts wl) =
    entries_are (entries_of keep ts entries) (entries_of keep ts wl) (sym (told_lines keep old new ts entries steps) ∙ run.lines) in
    let own = λ (name : List ℕ) (e : m.same s name ≡ true). ap keep (sym (law.equal s name e)) ∙ itself in
    let told : at_session m s ts entries ≡ map Lines (at_session m s ts wl) =
    sym (entries_of-only (m.same s) keep own ts entries (length_steps old new ts entries steps))
    ∙ ap (entries_of (m.same s) (only keep ts)) kept_entries
    ∙ entries_of-map Lines (m.same s) (only keep ts) (entries_of keep ts wl)
    ∙ ap (map Lines) (entries_of-only (m.same s) keep own ts wl (length-world_lines m (states old) ts)) in
    apart old ts entries s (EndsIn new s) told (ends_in new s (world_after m (states old) ts s) (run.states s itself))

-- where the report had no room, nobody is told anything, and no session has changed
pub spared_none : (old new : Server) (ts : List (Tagged (List ℕ) Asked)) (entries : List Entry) → entries ≡ [] → OnlyRefused old new → (s : List ℕ)
    → IsSpared old ts entries s → IsApart old ts entries s (EndsIn new s)
spared_none old new [] [] none only s fine =
    apart old [] [] s (EndsIn new s) refl (⊎_elim
    (λ was. inl was)
    (λ well. inr ((well, ap (λ sessions. (sessions s).state) only.sessions)))
    (cases_Bool (failed new s)))
spared_none old new (t ∷ ts) [] none only s fine = absurd fine
spared_none old new ts (entry ∷ entries) none only s fine = absurd (cc none)
