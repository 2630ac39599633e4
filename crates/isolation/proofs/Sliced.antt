-- The members of a slice, and the notes that give it.
use Rattle.std.proofs.Common.{◌≡◌, Bool, true, false, ◌||◌, ◌&&◌, List, [], ◌∷◌, ◌++◌, length, map, filter, refl, sym, ap, ap₂, subst, ◌∙◌, ⊎_elim, arith}
use Rattle.std.proofs.Common.{suc}
use Rattle.std.specs.List.{list_any}
use Rattle.std.proofs.lemmas.Bool.{or_cases, or_left, or_right, or_parts, and_parts}
use Rattle.isolation.specs.Machine.{Machine, IsLawful, Tagged}
use Rattle.isolation.specs.World.{after, world_after, is_in}
use Rattle.isolation.specs.Influence.{Self, Joined, joined, Influences, KnowsAll}
use Rattle.isolation.specs.Slice.{Slice, Note, kept, with_mark, matters, slice, IsNote, AreNotes, notes_of, back}
use Rattle.isolation.specs.Laws.{SliceWithinInfluence, NotesGiveSlice, NotesAreRight}
use Rattle.isolation.proofs.LeftOut.{names-after, joined-after}
use Rattle.isolation.proofs.Reaching.{Reached-more, is_in-front, is_in-back}

-- what is kept of entries made one by one
pub kept-map : {A B : Type 0} (f : A → B) (marks : List Bool) (xs : List A) → kept marks (map f xs) ≡ map f (kept marks xs)
kept-map f [] xs = refl
kept-map f (mark ∷ marks) [] = refl
kept-map f (true ∷ marks) (x ∷ xs) = ap (λ ys. f x ∷ ys) (kept-map f marks xs)
kept-map f (false ∷ marks) (x ∷ xs) = kept-map f marks xs

-- one mark for each command
pub length-with_mark : {Name : Type 0} (mark : Bool) (name : Name) (rest : Slice Name) → length (with_mark mark name rest).marks ≡ suc (length rest.marks)
length-with_mark true name rest = refl
length-with_mark false name rest = refl

module _ {Name State Command Line Post : Type 0} (m : Machine Name State Command Line Post) where
  pub length-marks : (s : Name) (world : Name → State) (ts : List (Tagged Name Command)) → length (slice m s world ts).marks ≡ length ts
  length-marks s world [] = refl
  length-marks s world (t ∷ ts) =
      let rest = slice m s (after m world t) ts in
      let one_more = length-with_mark (matters m world rest.members t.session) t.session rest in
      one_more ∙ ap suc (length-marks s (after m world t) ts)

  -- no member joins a session that does not matter
  pub unknown_to_members : (world : Name → State) (members : List Name) (t : Name) → list_any (λ r. m.names (world r) t) members ≡ false → (r : Name)
      → IsLawful m → is_in m r members ≡ true → m.names (world r) t ≡ false
  unknown_to_members world [] t none r lawful listed = absurd cc
  unknown_to_members world (member ∷ members) t none r lawful listed =
      let both = or_parts (m.names (world member) t) _ none in
      ⊎_elim
      (λ here. ap (λ n. m.names (world n) t) (lawful.equal r member here) ∙ both.0)
      (λ later. unknown_to_members world members t both.1 r lawful later)
      (or_cases (m.same r member) _ listed)

  -- a member stays one before another command
  is_in-with_mark : (mark : Bool) (name : Name) (rest : Slice Name) (r : Name) → is_in m r rest.members ≡ true
      → is_in m r (with_mark mark name rest).members ≡ true
  is_in-with_mark true name rest r listed = or_right (m.same r name) _ listed
  is_in-with_mark false name rest r listed = listed

  module _ (lawful : IsLawful m) where
    -- the member that joins a session
    joining_member : (world : Name → State) (members : List Name) (t : Name) → list_any (λ r. m.names (world r) t) members ≡ true
        → (r : Name) × (is_in m r members ≡ true) × (m.names (world r) t ≡ true)
    joining_member world [] t h = absurd cc
    joining_member world (member ∷ members) t h = ⊎_elim
        (λ here. (member, or_left _ _ (lawful.itself member), here))
        (λ later. let found = joining_member world members t later in (found.0, or_right (m.same found.0 member) _ found.1, found.2))
        (or_cases (m.names (world member) t) _ h)

    -- the session of a slice is a member
    pub is_in-members : (s : Name) (world : Name → State) (ts : List (Tagged Name Command)) → is_in m s (slice m s world ts).members ≡ true
    is_in-members s world [] = or_left _ _ (lawful.itself s)
    is_in-members s world (t ∷ ts) =
        let rest = slice m s (after m world t) ts in
        let listed = is_in-members s (after m world t) ts in
        is_in-with_mark (matters m world rest.members t.session) t.session rest s listed

    -- of one more member, which is one already or which a member joins
    within_step : (s : Name) (world : Name → State) (t : Tagged Name Command) (ts : List (Tagged Name Command)) (rest : Slice Name) (mark : Bool)
        → mark ≡ matters m world rest.members t.session → ((r : Name) → is_in m r rest.members ≡ true → Influences m world (t ∷ ts) s r) → (name : Name)
        → is_in m name (with_mark mark t.session rest).members ≡ true → Influences m world (t ∷ ts) s name
    within_step s world t ts rest false is members name listed = members name listed
    within_step s world t ts rest true is members name listed = ⊎_elim
        (λ here. subst (λ n. Influences m world (t ∷ ts) s n) (sym (lawful.equal name t.session here)) (⊎_elim
        (λ already. members t.session already)
        (λ by_one.
        let joiner = joining_member world rest.members t.session by_one in
        Joined t.session (members joiner.0 joiner.1) (or_left _ _ joiner.2))
        (or_cases (is_in m t.session rest.members) _ (sym is))))
        (λ later. members name later)
        (or_cases (m.same name t.session) _ listed)

    -- a member of the slice influences s
    pub slice_within_influence : SliceWithinInfluence m
    slice_within_influence s world [] name listed = ⊎_elim
        (λ here. subst (λ n. Influences m world [] s n) (sym (lawful.equal name s here)) Self)
        (λ later. absurd (cc later))
        (or_cases (m.same name s) _ listed)
    slice_within_influence s world (t ∷ ts) name listed =
        within_step s world t ts (slice m s (after m world t) ts) (matters m world (slice m s (after m world t) ts).members t.session) refl
        (λ r in_rest. Reached-more (joined m (after m world t) ts) (joined m world (t ∷ ts)) (joined-after m lawful world t ts) s r
        (slice_within_influence s (after m world t) ts r in_rest))
        name listed

    -- a note and the state before its command tell alike whether the command matters
    matters-note : (world : Name → State) (t : Tagged Name Command) (note : Note Name) → IsNote m world t note → (members : List Name)
        → list_any (λ r. is_in m r note.joiners) members ≡ list_any (λ r. m.names (world r) t.session) members
    matters-note world t note right [] = refl
    matters-note world t note right (member ∷ members) = ap₂ (λ a b. a || b) (right.joiners member) (matters-note world t note right members)

    pub notes_give_slice : NotesGiveSlice m
    notes_give_slice s world [] [] right = refl
    notes_give_slice s world [] (note ∷ notes) right = absurd (cc right)
    notes_give_slice s world (t ∷ ts) [] right = absurd right
    notes_give_slice s world (t ∷ ts) (note ∷ notes) right =
        let rest : back m s notes ≡ slice m s (after m world t) ts = notes_give_slice s (after m world t) ts notes right.1 in
        let here = matters-note world t note right.0 (slice m s (after m world t) ts).members in
        let session = right.0.session in
        grind (arith, rest, here, session)

    -- the note of one more command at the end
    pub AreNotes-push : (world : Name → State) (ts : List (Tagged Name Command)) (notes : List (Note Name)) (t : Tagged Name Command) (note : Note Name)
        → AreNotes m world ts notes → IsNote m (world_after m world ts) t note → AreNotes m world (ts ++ t ∷ []) (notes ++ note ∷ [])
    AreNotes-push world [] [] t note right here = (here, refl)
    AreNotes-push world [] (other ∷ notes) t note right here = absurd (cc right)
    AreNotes-push world (u ∷ ts) [] t note right here = absurd right
    AreNotes-push world (u ∷ ts) (other ∷ notes) t note right here = (right.0, AreNotes-push (after m world u) ts notes t note right.1 here)

    -- the joiners among the known names are all, where all with a join are known
    is_in-joiners : (world : Name → State) (known : List Name) (t r : Name)
        → is_in m r (filter (λ r. m.names (world r) t) known) ≡ (is_in m r known && m.names (world r) t)
    is_in-joiners world [] t r = refl
    is_in-joiners world (name ∷ known) t r =
        let rest : is_in m r (filter (λ r. m.names (world r) t) known) ≡ (is_in m r known && m.names (world r) t) = is_in-joiners world known t r in
        let one = λ (e : m.same r name ≡ true). ap (λ n. m.names (world n) t) (lawful.equal r name e) in
        grind (arith, rest, one)

    pub IsNote-known : (world : Name → State) (known : List Name) (t : Tagged Name Command) → KnowsAll m world known
        → IsNote m world t (record { session = t.session; joiners = filter (λ r. m.names (world r) t.session) known })
    IsNote-known world known t knows = record {
      session = refl;
      joiners = λ r.
          let listed = is_in-joiners world known t.session r in
          let all = knows r t.session in
          grind (arith, listed, all);
    }

    -- the names stay all that is known, where the session of the command is one of them
    pub KnowsAll-after : (world : Name → State) (known : List Name) (t : Tagged Name Command) → KnowsAll m world known → is_in m t.session known ≡ true
        → KnowsAll m (after m world t) known
    KnowsAll-after world known t knows listed = λ name joined h. ⊎_elim
        (λ stood. knows name joined stood)
        (λ made.
        let both = and_parts (m.same name t.session) _ made in
        ap (λ n. is_in m n known) (lawful.equal name t.session both.0) ∙ listed)
        (names-after m lawful world t name joined h)

    -- the notes over names that are all that is known and hold the sessions of the run
    pub AreNotes-notes_of : (world : Name → State) (names : List Name) (ts : List (Tagged Name Command)) → KnowsAll m world names
        → ((name : Name) → is_in m name (map (λ t. t.session) ts) ≡ true → is_in m name names ≡ true) → AreNotes m world ts (notes_of m names world ts)
    AreNotes-notes_of world names [] knows within = refl
    AreNotes-notes_of world names (t ∷ ts) knows within =
        let listed = within t.session (or_left _ _ (lawful.itself t.session)) in (
          IsNote-known world names t knows,
          AreNotes-notes_of (after m world t) names ts (KnowsAll-after world names t knows listed)
              (λ name h. within name (or_right (m.same name t.session) _ h)),
        )

    pub notes_are_right : NotesAreRight m
    notes_are_right world known ts knows =
        let sessions = map (λ t. t.session) ts in
        AreNotes-notes_of world (known ++ sessions) ts
        (λ name joined h. is_in-front m name known sessions (knows name joined h))
        (λ name h. is_in-back m name known sessions h)
