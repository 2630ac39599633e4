-- Lists between a slice and the whole.
use Rattle.std.proofs.Common.{◌≡◌, Bool, true, false, cond, List, [], ◌∷◌, refl, sym, ap, ap₂, ◌∙◌}
use Rattle.std.proofs.lemmas.Bool.{or_left, or_right, or_parts}
use Rattle.isolation.specs.Machine.{Effect, Machine, IsLawful, Tagged}
use Rattle.isolation.specs.World.{after, is_in}
use Rattle.isolation.specs.Influence.{Agree}
use Rattle.isolation.specs.Slice.{KeepsAtLeast, Slice, kept, matters, slice, with_mark}
use Rattle.isolation.specs.Laws.{BetweenLaw, SameFor, SliceFromMembers, SliceLaw}
use Rattle.isolation.proofs.Worlds.{other_session, strangers}
use Rattle.isolation.proofs.LeftOut.{Agree-kept, Agree-left_out, effect-kept}
use Rattle.isolation.proofs.Sliced.{is_in-members, unknown_to_members}

-- marks keep at least what they keep themselves
KeepsAtLeast-self : (marks : List Bool) → KeepsAtLeast marks marks
KeepsAtLeast-self [] = tt
KeepsAtLeast-self (mark ∷ marks) = (λ keeps. keeps, KeepsAtLeast-self marks)

module _ {Name State Command Line Post : Type 0} (m : Machine Name State Command Line Post) (lawful : IsLawful m) where
  -- a command of a session that no member joins changes no member, whether it is done in the other world or not
  Agree-extra : (keep : Name → Bool) (world other : Name → State) (t : Tagged Name Command) → Agree keep world other → keep t.session ≡ false
      → ((r : Name) → keep r ≡ true → m.names (world r) t.session ≡ false) → Agree keep (after m world t) (after m other t)
  Agree-extra keep world other t agree left_out unknown = λ name passes.
      let here : m.names (other name) t.session ≡ false = ap (λ state. m.names state t.session) (agree name passes) ∙ unknown name passes in
      strangers m lawful other t name (other_session m lawful keep name t.session passes left_out) here
      ∙ Agree-left_out m lawful keep world other t agree left_out unknown name passes

  -- one more command before lists that give the session the same lines
  between_step : (s : Name) (world other : Name → State) (t : Tagged Name Command) (ts : List (Tagged Name Command)) (rest : Slice Name) (mark : Bool)
      (more : List Bool)
      → mark ≡ matters m world rest.members t.session → is_in m s rest.members ≡ true
      → KeepsAtLeast (with_mark mark t.session rest).marks more
      → Agree (λ name. is_in m name (with_mark mark t.session rest).members) world other
      → ((next : Name → State) (mores : List Bool) → KeepsAtLeast rest.marks mores → Agree (λ name. is_in m name rest.members) (after m world t) next
      → SameFor m s (after m world t) ts next (kept mores ts))
      → SameFor m s world (t ∷ ts) other (kept more (t ∷ ts))
  between_step s world other t ts rest true [] is listed within agree later = absurd within
  between_step s world other t ts rest false [] is listed within agree later = absurd within
  between_step s world other t ts rest true (false ∷ mores) is listed within agree later = absurd (cc (within.0 refl))
  between_step s world other t ts rest true (true ∷ mores) is listed within agree later =
      let keep = λ (name : Name). is_in m name (t.session ∷ rest.members) in
      let self = or_left _ _ (lawful.itself t.session) in
      let agrees = Agree-kept m lawful keep world other t agree self in
      let same = later (after m other t) mores within.1 (λ name in_rest. agrees name (or_right (m.same name t.session) _ in_rest)) in
      record {
        lines = ap₂ (λ (e : Effect State Line Post) (entries : List (List Line)). cond (m.same s t.session) (e.lines ∷ entries) entries)
            (effect-kept m lawful keep world other t agree self) same.lines;
        state = same.state;
      }
  between_step s world other t ts rest false (more ∷ mores) is listed within agree later =
      let keep = λ (name : Name). is_in m name rest.members in
      let parts = or_parts (is_in m t.session rest.members) _ (sym is) in
      let unknown = λ (r : Name) (in_rest : keep r ≡ true). unknown_to_members m world rest.members t.session parts.1 r lawful in_rest in
      either more (later (after m other t) mores within.1 (Agree-extra keep world other t agree parts.0 unknown))
      (later other mores within.1 (Agree-left_out m lawful keep world other t agree parts.0 unknown))
      (other_session m lawful keep s t.session listed parts.0)
    where
      either : (more : Bool) → SameFor m s (after m world t) ts (after m other t) (kept mores ts) → SameFor m s (after m world t) ts other (kept mores ts)
          → m.same s t.session ≡ false → SameFor m s world (t ∷ ts) other (kept (more ∷ mores) (t ∷ ts))
      either true done left differs = record { lines = rw differs done.lines; state = done.state }
      either false done left differs = record { lines = rw differs left.lines; state = left.state }

  between_members : (s : Name) (world other : Name → State) (ts : List (Tagged Name Command)) (more : List Bool) → KeepsAtLeast (slice m s world ts).marks more
      → Agree (λ name. is_in m name (slice m s world ts).members) world other → SameFor m s world ts other (kept more ts)
  between_members s world other [] [] within agree = record { lines = refl; state = agree s (or_left _ _ (lawful.itself s)) }
  between_members s world other [] (more ∷ mores) within agree = absurd within
  between_members s world other (t ∷ ts) more within agree =
      between_step s world other t ts (slice m s (after m world t) ts) (matters m world (slice m s (after m world t) ts).members t.session) more refl
      (is_in-members m lawful s (after m world t) ts) within agree (λ next mores less agrees. between_members s (after m world t) next ts mores less agrees)

  pub between_law : BetweenLaw m
  between_law s world ts more within = between_members s world world ts more within (λ name listed. refl)

  pub slice_from_members : SliceFromMembers m
  slice_from_members s world other ts agree = between_members s world other ts (slice m s world ts).marks (KeepsAtLeast-self _) agree

  pub slice_law : SliceLaw m
  slice_law s world ts = slice_from_members s world world ts (λ name listed. refl)
