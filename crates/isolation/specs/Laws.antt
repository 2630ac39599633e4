-- The laws that hold for every lawful machine.
use Rattle.std.specs.Prelude.{◌≡◌, ◌↔◌, Bool, true, List, ◌++◌, map}
use Rattle.std.specs.List.{flat_map}
use Rattle.isolation.specs.Machine.{Machine, Tagged}
use Rattle.isolation.specs.World.{entries_of, only, world_after, world_lines, world_posts, at_session, is_in}
use Rattle.isolation.specs.Alone.{items, alone_after, alone_lines, alone_posts}
use Rattle.isolation.specs.Influence.{Reached, joined, stood, Influences, influences, KnowsAll, IsClosed, Agree}
use Rattle.isolation.specs.Slice.{KeepsAtLeast, Note, kept, slice, AreNotes, notes_of, back}
use Rattle.isolation.specs.Pieces.{Piece, commands_of, only_pieces, only_answers, piece_answers, said, told}

module _ {Name State Command Line Post : Type 0} (m : Machine Name State Command Line Post) where
  -- In a run, `s` receives the lines, sends the posts and ends in the state that it would alone, with its own commands
  -- and the posts that reach it.
  pub record IsAlone (s : Name) (world : Name → State) (ts : List (Tagged Name Command)) : Type 0 where
    pub lines : at_session m s ts (world_lines m world ts) ≡ alone_lines m s (world s) (items m s world ts)
    pub posts : flat_map (λ posts. posts) (at_session m s ts (world_posts m world ts)) ≡ alone_posts m s (world s) (items m s world ts)
    pub state : world_after m world ts s ≡ alone_after m s (world s) (items m s world ts)

  -- `s` receives the same lines in both runs, and ends in the same state.
  pub record SameFor (s : Name) (world : Name → State)
      (ts : List (Tagged Name Command)) (other : Name → State) (fewer : List (Tagged Name Command)) : Type 0 where
    pub lines : at_session m s fewer (world_lines m other fewer) ≡ at_session m s ts (world_lines m world ts)
    pub state : world_after m other fewer s ≡ world_after m world ts s

  -- All sessions that pass the test receive the same lines in both runs, in the same order, and end in the same states.
  pub record SameForAll (keep : Name → Bool) (world : Name → State)
      (ts : List (Tagged Name Command)) (other : Name → State) (fewer : List (Tagged Name Command)) : Type 0 where
    pub lines : world_lines m other fewer ≡ entries_of keep ts (world_lines m world ts)
    pub states : Agree keep (world_after m world ts) (world_after m other fewer)

  -- Every session is as it would be alone.
  abbrev pub FirstHalf : Type 0
  FirstHalf = (s : Name) (world : Name → State) (ts : List (Tagged Name Command)) → IsAlone s world ts

  -- A kept session does not notice if the commands of sessions that no kept session joins are left out, not even if the
  -- run begins in another world that agrees about the kept sessions.
  abbrev pub LeavingOut : Type 0
  LeavingOut =
      (keep : Name → Bool) (world other : Name → State) (ts : List (Tagged Name Command)) →
      IsClosed m keep world ts → Agree keep world other →
      (s : Name) → keep s ≡ true → SameFor s world ts other (only keep ts)

  -- All kept sessions together do not notice it either.
  abbrev pub FinalStates : Type 0
  FinalStates =
      (keep : Name → Bool) (world other : Name → State) (ts : List (Tagged Name Command)) →
      IsClosed m keep world ts → Agree keep world other →
      SameForAll keep world ts other (only keep ts)

  -- Sessions that pass the test receive the same lines in two runs from one world, and end in the same states.
  pub record AreAlike (keep : Name → Bool) (world : Name → State) (ts us : List (Tagged Name Command)) : Type 0 where
    pub lines : entries_of keep ts (world_lines m world ts) ≡ entries_of keep us (world_lines m world us)
    pub states : Agree keep (world_after m world ts) (world_after m world us)

  -- Sessions that are closed under joins do not notice where the commands of others are placed among theirs, as long as
  -- their own stay in order.
  abbrev pub InterleavingLaw : Type 0
  InterleavingLaw =
      (keep : Name → Bool) (world : Name → State) (ts us : List (Tagged Name Command)) →
      IsClosed m keep world ts → IsClosed m keep world us → only keep ts ≡ only keep us → AreAlike keep world ts us

  -- A session does not notice the commands of sessions to which no chain of joins leads from it.
  abbrev pub SecondHalf : Type 0
  SecondHalf =
      (world : Name → State) (known : List Name) (ts : List (Tagged Name Command)) → KnowsAll m world known →
      (s : Name) → SameFor s world ts world (only (influences m world known ts s) ts)

  -- The sessions that influence it do not notice them either, not even from another world that agrees about them.
  abbrev pub InfluencedStates : Type 0
  InfluencedStates =
      (world other : Name → State) (known : List Name) (ts : List (Tagged Name Command)) → KnowsAll m world known →
      (s : Name) → Agree (influences m world known ts s) world other →
      SameForAll (influences m world known ts s) world ts other (only (influences m world known ts s) ts)

  -- The test of influence passes exactly what influences `s`. It is closed under joins, and every closed test that
  -- passes `s` passes all of it.
  pub record IsLeast (world : Name → State) (known : List Name) (ts : List (Tagged Name Command)) (s : Name) : Type 0 where
    pub exact : (t : Name) → (influences m world known ts s t ≡ true) ↔ Influences m world ts s t
    pub closed : IsClosed m (influences m world known ts s) world ts
    pub least : (keep : Name → Bool) → keep s ≡ true → IsClosed m keep world ts → (t : Name) → influences m world known ts s t ≡ true → keep t ≡ true

  abbrev pub InfluenceIsLeast : Type 0
  InfluenceIsLeast =
      (world : Name → State) (known : List Name) (ts : List (Tagged Name Command)) → KnowsAll m world known →
      (s : Name) → IsLeast world known ts s

  -- A join counts in a run exactly if it exists at the start or after a command.
  abbrev pub JoinsStood : Type 0
  JoinsStood = (world : Name → State) (ts : List (Tagged Name Command)) (r t : Name) → joined m world ts r t ≡ stood m world ts r t

  -- `t` influences `s` exactly if a chain of joins leads from `s` to `t`. Each join existed at the start or after a
  -- command.
  abbrev pub InfluenceOfStanding : Type 0
  InfluenceOfStanding = (world : Name → State) (ts : List (Tagged Name Command)) (s t : Name) → Influences m world ts s t ↔ Reached (stood m world ts) s t

  -- A session does not notice that the commands outside its slice are left out.
  abbrev pub SliceLaw : Type 0
  SliceLaw =
      (s : Name) (world : Name → State) (ts : List (Tagged Name Command)) →
      SameFor s world ts world (kept (slice m s world ts).marks ts)

  -- It receives the same lines from each list between its slice and the whole, whichever other commands the list keeps.
  abbrev pub BetweenLaw : Type 0
  BetweenLaw =
      (s : Name) (world : Name → State) (ts : List (Tagged Name Command)) (more : List Bool) →
      KeepsAtLeast (slice m s world ts).marks more → SameFor s world ts world (kept more ts)

  -- The slice gives it the same lines from another world, if that agrees about the members of the slice.
  abbrev pub SliceFromMembers : Type 0
  SliceFromMembers =
      (s : Name) (world other : Name → State) (ts : List (Tagged Name Command)) →
      Agree (λ name. is_in m name (slice m s world ts).members) world other →
      SameFor s world ts other (kept (slice m s world ts).marks ts)

  -- Every member of the slice influences `s`.
  abbrev pub SliceWithinInfluence : Type 0
  SliceWithinInfluence =
      (s : Name) (world : Name → State) (ts : List (Tagged Name Command)) →
      (name : Name) → is_in m name (slice m s world ts).members ≡ true → Influences m world ts s name

  -- The slice that is computed from right notes is the slice.
  abbrev pub NotesGiveSlice : Type 0
  NotesGiveSlice =
      (s : Name) (world : Name → State) (ts : List (Tagged Name Command)) (notes : List (Note Name)) →
      AreNotes m world ts notes → back m s notes ≡ slice m s world ts

  -- The notes over the known names and those in the run are right.
  abbrev pub NotesAreRight : Type 0
  NotesAreRight =
      (world : Name → State) (known : List Name) (ts : List (Tagged Name Command)) → KnowsAll m world known →
      AreNotes m world ts (notes_of m (known ++ map (λ t. t.session) ts) world ts)

module _ {Name State Command Line Post : Type 0} (Fault : Type 0) (m : Machine Name State Command Line Post) where
  -- If the kept sessions are closed under joins, leaving out pieces removes their answers and changes no other.
  abbrev pub LeavingOutPieces : Type 0
  LeavingOutPieces =
      (keep : Name → Bool) (passes : Fault → Bool) (world other : Name → State) (pieces : List (Piece Name Command Fault)) →
      IsClosed m keep world (commands_of pieces) → Agree keep world other →
      piece_answers m other (only_pieces keep passes pieces) ≡ only_answers keep passes (piece_answers m world pieces)

  -- A kept session receives the same answers, its own faults included if they are kept.
  abbrev pub SaidStays : Type 0
  SaidStays =
      (keep : Name → Bool) (passes its_own : Fault → Bool) (world other : Name → State) (pieces : List (Piece Name Command Fault)) →
      IsClosed m keep world (commands_of pieces) → Agree keep world other →
      (s : Name) → keep s ≡ true → ((fault : Fault) → its_own fault ≡ true → passes fault ≡ true) →
      said m s its_own (piece_answers m other (only_pieces keep passes pieces)) ≡ said m s its_own (piece_answers m world pieces)

  -- `s` receives the same answers if the commands of all sessions that do not influence it are left out.
  abbrev pub SaidByInfluence : Type 0
  SaidByInfluence =
      (its_own : Fault → Bool) (world : Name → State) (known : List Name) (pieces : List (Piece Name Command Fault)) →
      KnowsAll m world known → (s : Name) →
      let fewer = only_pieces (influences m world known (commands_of pieces) s) (λ fault. true) pieces in
      said m s its_own (piece_answers m world fewer) ≡ said m s its_own (piece_answers m world pieces)

  -- The commands of `s` have the lines that they would have if `s` were alone.
  abbrev pub ToldAlone : Type 0
  ToldAlone =
      (s : Name) (world : Name → State) (pieces : List (Piece Name Command Fault)) →
      told m s (piece_answers m world pieces) ≡ alone_lines m s (world s) (items m s world (commands_of pieces))
