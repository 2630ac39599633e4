-- Leaving out the commands of sessions that no kept session joins.
use Rattle.std.proofs.Common.{◌≡◌, ◌⊎◌, Bool, true, false, ◌&&◌, List, [], ◌∷◌, length, refl, sym, ap, ap₂, cond, ◌∙◌, ⊎_elim, inl, inr, arith}
use Rattle.std.proofs.lemmas.Bool.{cases_Bool, both_ways, false_from_ne_true, or_cases, or_left, or_right, and_from}
use Rattle.isolation.specs.Machine.{Effect, Machine, IsLawful, Tagged}
use Rattle.isolation.specs.World.{world_after, entries_of, only, effect, all_arrive, after, world_lines, at_session}
use Rattle.isolation.specs.Influence.{joined, IsClosed, Agree}
use Rattle.isolation.specs.Laws.{InterleavingLaw, SameForAll, FinalStates, LeavingOut}
use Rattle.isolation.proofs.Worlds.{after-other, after-own, strangers, names-all_arrive, length-world_lines, other_session}

-- of the kept entries, those that pass a narrower test
pub entries_of-only : {Name Command Entry : Type 0} (test keep : Name → Bool) → ((name : Name) → test name ≡ true → keep name ≡ true)
    → (ts : List (Tagged Name Command)) (entries : List Entry) → length entries ≡ length ts
    → entries_of test (only keep ts) (entries_of keep ts entries) ≡ entries_of test ts entries
entries_of-only test keep within [] entries h = refl
entries_of-only test keep within (t ∷ ts) [] h = absurd (omega arith)
entries_of-only test keep within (t ∷ ts) (entry ∷ entries) h =
    let rest : entries_of test (only keep ts) (entries_of keep ts entries) ≡ entries_of test ts entries =
    entries_of-only test keep within ts entries (omega arith) in
    let here = within t.session in
    ⊎_elim (λ e. grind (arith, rest, here, e)) (λ e. grind (arith, rest, here, e)) (cases_Bool (keep t.session))

module _ {Name State Command Line Post : Type 0} (m : Machine Name State Command Line Post) (lawful : IsLawful m) where
  -- a join that stands after a command stood before it or was accepted by it
  pub names-after : (world : Name → State) (t : Tagged Name Command) (r name : Name) → m.names (after m world t r) name ≡ true
      → (m.names (world r) name ≡ true) ⊎ ((m.same r t.session && m.accepts r (world r) t.command name) ≡ true)
  names-after world t r name h = ⊎_elim own other (cases_Bool (m.same r t.session))
    where
      own : m.same r t.session ≡ true → (m.names (world r) name ≡ true) ⊎ ((m.same r t.session && m.accepts r (world r) t.command name) ≡ true)
      own e =
          let one = lawful.equal r t.session e in
          let now : m.names (effect m world t).state name ≡ true = ap (λ state. m.names state name) (sym (after-own m lawful world t r e)) ∙ h in
          ⊎_elim
          (λ stood. inl (ap (λ n. m.names (world n) name) one ∙ stood))
          (λ made. inr (and_from _ _ e (ap (λ n. m.accepts n (world n) t.command name) one ∙ made)))
          (lawful.made t.session (world t.session) t.command name now)

      other : m.same r t.session ≡ false → (m.names (world r) name ≡ true) ⊎ ((m.same r t.session && m.accepts r (world r) t.command name) ≡ true)
      other e = inl (names-all_arrive m lawful (world r) t.session (effect m world t).posts name
          (ap (λ state. m.names state name) (sym (after-other m world t r e)) ∙ h))

  -- whatever is joined after a command is joined in the run from before it
  pub joined-after : (world : Name → State) (t : Tagged Name Command) (ts : List (Tagged Name Command)) (r name : Name)
      → joined m (after m world t) ts r name ≡ true → joined m world (t ∷ ts) r name ≡ true
  joined-after world t ts r name h =
      let stands = names-after world t r name in
      ⊎_elim
      (λ after_it. ⊎_elim
      (λ before. or_left _ _ before)
      (λ by_it. or_right _ _ (or_left _ _ by_it))
      (stands after_it))
      (λ later. or_right _ _ (or_right _ _ later))
      (or_cases (m.names (after m world t r) name) _ h)

  pub IsClosed-after : (keep : Name → Bool) (world : Name → State) (t : Tagged Name Command) (ts : List (Tagged Name Command)) → IsClosed m keep world (t ∷ ts)
      → IsClosed m keep (after m world t) ts
  IsClosed-after keep world t ts closed = λ r name kept h. closed r name kept (joined-after world t ts r name h)

  -- a kept command does the same in both worlds
  pub effect-kept : (keep : Name → Bool) (world other : Name → State) (t : Tagged Name Command) → Agree keep world other → keep t.session ≡ true
      → effect m other t ≡ effect m world t
  effect-kept keep world other t agree kept = ap (λ state. m.does t.session state t.command) (agree t.session kept)

  pub Agree-kept : (keep : Name → Bool) (world other : Name → State) (t : Tagged Name Command) → Agree keep world other → keep t.session ≡ true
      → Agree keep (after m world t) (after m other t)
  Agree-kept keep world other t agree kept = λ name passes.
      let does_same = effect-kept keep world other t agree kept in
      let stood = agree name passes in
      ap₂ (λ (e : Effect State Line Post) (state : State). cond (m.same name t.session) e.state (all_arrive m state t.session e.posts)) does_same stood

  -- a command that is left out changes no kept session
  pub Agree-left_out : (keep : Name → Bool) (world other : Name → State) (t : Tagged Name Command) → Agree keep world other → keep t.session ≡ false
      → ((r : Name) → keep r ≡ true → m.names (world r) t.session ≡ false) → Agree keep (after m world t) other
  Agree-left_out keep world other t agree left_out unknown = λ name passes.
      agree name passes ∙ sym (strangers m lawful world t name (other_session m lawful keep name t.session passes left_out) (unknown name passes))

  -- what no kept session joins
  pub unknown_to_kept : (keep : Name → Bool) (world : Name → State) (t : Tagged Name Command) (ts : List (Tagged Name Command)) → IsClosed m keep world (t ∷ ts)
      → keep t.session ≡ false → (r : Name) → keep r ≡ true → m.names (world r) t.session ≡ false
  unknown_to_kept keep world t ts closed left_out = λ r passes. false_from_ne_true _
      (λ joins. both_ways (keep t.session) left_out (closed r t.session passes (or_left _ _ joins)))

  -- one more command, kept
  kept_step : (keep : Name → Bool) (world other : Name → State) (t : Tagged Name Command) (ts : List (Tagged Name Command)) → keep t.session ≡ true
      → effect m other t ≡ effect m world t → SameForAll m keep (after m world t) ts (after m other t) (only keep ts)
      → SameForAll m keep world (t ∷ ts) other (only keep (t ∷ ts))
  kept_step keep world other t ts passes does_same rest = record {
    lines = rw (passes, ← rest.lines) (ap (λ (e : Effect State Line Post). e.lines ∷ world_lines m (after m other t) (only keep ts)) does_same);
    states = rw passes rest.states;
  }

  -- or left out
  left_out_step : (keep : Name → Bool) (world other : Name → State) (t : Tagged Name Command) (ts : List (Tagged Name Command)) → keep t.session ≡ false
      → SameForAll m keep (after m world t) ts other (only keep ts) → SameForAll m keep world (t ∷ ts) other (only keep (t ∷ ts))
  left_out_step keep world other t ts left_out rest = record {
    lines = rw left_out rest.lines;
    states = rw left_out rest.states;
  }

  pub final_states : FinalStates m
  final_states keep world other [] closed agree = record { lines = refl; states = agree }
  final_states keep world other (t ∷ ts) closed agree =
      let later = IsClosed-after keep world t ts closed in
      ⊎_elim
      (λ passes.
      let rest = final_states keep (after m world t) (after m other t) ts later (Agree-kept keep world other t agree passes) in
      let does_same = effect-kept keep world other t agree passes in
      kept_step keep world other t ts passes does_same rest)
      (λ left_out.
      let rest = final_states keep (after m world t) other ts later
      (Agree-left_out keep world other t agree left_out (unknown_to_kept keep world t ts closed left_out)) in
      left_out_step keep world other t ts left_out rest)
      (cases_Bool (keep t.session))

  pub leaving_out : LeavingOut m
  leaving_out keep world other ts closed agree s passes =
      let all = final_states keep world other ts closed agree in
      let own = λ (name : Name) (e : m.same s name ≡ true). ap keep (sym (lawful.equal s name e)) ∙ passes in
      record {
        lines = ap (at_session m s (only keep ts)) all.lines ∙ entries_of-only (m.same s) keep own ts (world_lines m world ts) (length-world_lines m world ts);
        state = all.states s passes;
      }

  pub interleaving : InterleavingLaw m
  interleaving keep world ts us closed too same =
      let one = final_states keep world world ts closed (λ name passes. refl) in
      let other = final_states keep world world us too (λ name passes. refl) in
      record {
        lines = sym one.lines ∙ ap (world_lines m world) same ∙ other.lines;
        states = λ name passes. sym (other.states name passes) ∙ ap (λ cs. world_after m world cs name) (sym same) ∙ one.states name passes;
      }
