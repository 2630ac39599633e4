-- Runs in which some commands find no memory.
use Rattle.std.proofs.Common.{◌≡◌, ◌⊎◌, inl, inr, Bool, true, false, not, ◌&&◌, List, [], ◌∷◌, Some, refl, sym, ap, ap₂, ◌∙◌, ⊎_elim}
use Rattle.std.proofs.lemmas.Bool.{cases_Bool, cond-true}
use Rattle.isolation.specs.Machine.{Effect, Machine, IsLawful, Tagged}
use Rattle.isolation.specs.World.{after, all_arrive, effect}
use Rattle.isolation.specs.Spared.{AreSpared, BeginsAnew, EndIn, IsLossy, Mortal, SparedLaw, Told, heard}
use Rattle.isolation.proofs.Worlds.{after-other, after-own, all_arrive-stranger, other_session, strangers}
use Rattle.isolation.proofs.LeftOut.{IsClosed-after, unknown_to_kept}

module _ {Name State Command Line Post : Type 0} (m : Machine Name State Command Line Post) (anew : Command → Bool) (lawful : IsLawful m) where
  heard_failed : (from : Name) (posts : List Post) (session : Mortal State) → session.failed ≡ true → heard m anew from posts session ≡ session
  heard_failed from posts session e = cond-true session.failed session (record { state = all_arrive m session.state from posts; failed = false }) e

  -- another session after a command, where what it hears leads to the state of the world
  other_stands : (world : Name → State) (old new : Name → Mortal State) (t : Tagged Name Command) (posts : List Post) (r : Name)
      → ((new r ≡ heard m anew t.session posts (old r)) ⊎ ((new r).failed ≡ true))
      → all_arrive m (world r) t.session posts ≡ after m world t r
      → ((old r).failed ≡ true) ⊎ (old r ≡ record { state = world r; failed = false })
      → ((new r).failed ≡ true) ⊎ (new r ≡ record { state = after m world t r; failed = false })
  other_stands world old new t posts r (inr fails) arrive stood = inl fails
  other_stands world old new t posts r (inl hears) arrive (inl failed) =
      inl (ap (λ session. session.failed) (hears ∙ heard_failed t.session posts (old r) failed) ∙ failed)
  other_stands world old new t posts r (inl hears) arrive (inr stands) =
      inr (hears ∙ ap (heard m anew t.session posts) stands ∙ ap (λ state. record { state = state; failed = false }) arrive)

  -- what a session does that is not shut is what it does in the world
  does_same : BeginsAnew m anew → (world : Name → State) (old : Name → Mortal State) (t : Tagged Name Command)
      → ((old t.session).failed && not (anew t.command)) ≡ false
      → ((old t.session).failed ≡ true) ⊎ (old t.session ≡ record { state = world t.session; failed = false })
      → m.does t.session (old t.session).state t.command ≡ effect m world t
  does_same begins world old t ajar (inr stands) = ap (λ (session : Mortal State). m.does t.session session.state t.command) stands
  does_same begins world old t ajar (inl failed) = begins t.session (old t.session).state (world t.session) t.command
      (is_anew (old t.session).failed (anew t.command) failed ajar)
    where
      is_anew : (failed is : Bool) → failed ≡ true → (failed && not is) ≡ false → is ≡ true
      is_anew true true e h = refl
      is_anew true false e h = absurd (cc h)
      is_anew false is e h = absurd (cc e)

  stands_kept : (keep : Name → Bool) (world : Name → State) (old new : Name → Mortal State) (t : Tagged Name Command) (told : Told Line) (lines : List Line)
      → IsLossy m anew old new t told → told.lines ≡ Some lines → told.shut ≡ false
      → m.does t.session (old t.session).state t.command ≡ effect m world t
      → EndIn m anew keep world old → EndIn m anew keep (after m world t) new
  stands_kept keep world old new t told lines step some ajar does stood = λ name passes. ⊎_elim
      (λ own. inr (ap new (lawful.equal name t.session own) ∙ step.leaves lines some ajar
      ∙ ap (λ (e : Effect State Line Post). record { state = e.state; failed = false }) does
      ∙ ap (λ state. record { state = state; failed = false }) (sym (after-own m lawful world t name own))))
      (λ other. other_stands world old new t step.posts name (step.others name other)
      (ap (all_arrive m (world name) t.session) (step.posted lines some ajar ∙ ap (λ (e : Effect State Line Post). e.posts) does)
      ∙ sym (after-other m world t name other))
      (stood name passes))
      (cases_Bool (m.same name t.session))

  stands_left_out : (keep : Name → Bool) (world : Name → State) (old new : Name → Mortal State) (t : Tagged Name Command) (told : Told Line)
      → IsLossy m anew old new t told → keep t.session ≡ false → ((r : Name) → keep r ≡ true → m.names (world r) t.session ≡ false)
      → EndIn m anew keep world old → EndIn m anew keep (after m world t) new
  stands_left_out keep world old new t told step left_out unknown stood = λ name passes.
      let differs = other_session m lawful keep name t.session passes left_out in
      other_stands world old new t step.posts name (step.others name differs)
      (all_arrive-stranger m lawful (world name) t.session step.posts (unknown name passes)
      ∙ sym (strangers m lawful world t name differs (unknown name passes)))
      (stood name passes)

  -- one more command of a session that passes the test,
  spared_step : (keep : Name → Bool) (world : Name → State) (new : Name → Mortal State) (t : Tagged Name Command) (ts : List (Tagged Name Command))
      (told : Told Line) (rest : List (Told Line))
      → keep t.session ≡ true → told.lines ≡ Some (effect m world t).lines
      → AreSpared m anew keep (after m world t) ts rest new → AreSpared m anew keep world (t ∷ ts) (told ∷ rest) new
  spared_step keep world new t ts told rest passes said later = record {
    lines = rw passes (ap₂ (λ x xs. x ∷ xs) said later.lines);
    states = later.states;
  }

  -- and of one that does not
  left_out_step : (keep : Name → Bool) (world : Name → State) (new : Name → Mortal State) (t : Tagged Name Command) (ts : List (Tagged Name Command))
      (told : Told Line) (rest : List (Told Line))
      → keep t.session ≡ false
      → AreSpared m anew keep (after m world t) ts rest new → AreSpared m anew keep world (t ∷ ts) (told ∷ rest) new
  left_out_step keep world new t ts told rest left_out later = record { lines = rw left_out later.lines; states = later.states }

  pub spared_law : SparedLaw m anew
  spared_law begins keep world old new [] [] closed stood steps done = record { lines = refl; states = rw steps stood }
  spared_law begins keep world old new [] (told ∷ rest) closed stood steps done = absurd steps
  spared_law begins keep world old new (t ∷ ts) [] closed stood steps done = absurd steps
  spared_law begins keep world old new (t ∷ ts) (told ∷ rest) closed stood steps done =
      let later = IsClosed-after m lawful keep world t ts closed in
      let between = steps.0 in
      let step = steps.1 in
      ⊎_elim
      (λ passes.
      let fine = done.0 passes in
      let lines = fine.found.0 in
      let does = does_same begins world old t (sym step.shut ∙ fine.ajar) (stood t.session passes) in
      let said : told.lines ≡ Some (effect m world t).lines = fine.found.1
      ∙ ap Some (step.tells lines fine.found.1 fine.ajar ∙ ap (λ (e : Effect State Line Post). e.lines) does) in
      spared_step keep world new t ts told rest passes said
      (spared_law begins keep (after m world t) between new ts rest later
      (stands_kept keep world old between t told lines step fine.found.1 fine.ajar does stood) steps.2 done.1))
      (λ left_out.
      left_out_step keep world new t ts told rest left_out
      (spared_law begins keep (after m world t) between new ts rest later
      (stands_left_out keep world old between t told step left_out (unknown_to_kept m lawful keep world t ts closed left_out) stood) steps.2 done.1))
      (cases_Bool (keep t.session))
