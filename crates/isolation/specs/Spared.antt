-- Runs in which memory runs out for some commands and posts.
use Rattle.std.specs.Prelude.{◌≡◌, ◌⊎◌, ◌&&◌, Bool, true, false, not, if◌then◌else◌, List, [], ◌∷◌, map, Option, Some}
use Rattle.isolation.specs.Machine.{Machine, Tagged}
use Rattle.isolation.specs.World.{all_arrive, entries_of, world_after, world_lines}
use Rattle.isolation.specs.Influence.{IsClosed}

-- A session that may have failed.
pub record Mortal (State : Type 0) : Type 0 where
  pub state : State
  pub failed : Bool

-- What a command returns: its lines, or nothing if it ran out of memory, and whether it was refused because its session
-- had failed.
pub record Told (Line : Type 0) : Type 0 where
  pub lines : Option (List Line)
  pub shut : Bool

-- A command was done: it found memory, and its session had not failed.
pub record IsDone {Line : Type 0} (told : Told Line) : Type 0 where
  pub found : (lines : List Line) × (told.lines ≡ Some lines)
  pub ajar : told.shut ≡ false

-- Each command has an entry, and the commands of the sessions that pass the test were done.
abbrev pub AreDone : {Name Command Line : Type 0} → (Name → Bool) → List (Tagged Name Command) → List (Told Line) → Type 0
AreDone keep [] told = Unit {0}
AreDone keep (t ∷ ts) [] = ⊥
AreDone keep (t ∷ ts) (one ∷ rest) = (keep t.session ≡ true → IsDone one) × AreDone keep ts rest

module _ {Name State Command Line Post : Type 0} (m : Machine Name State Command Line Post) (anew : Command → Bool) where
  -- A command that restarts a session has the same effect in every state.
  abbrev pub BeginsAnew : Type 0
  BeginsAnew = (s : Name) (one other : State) (command : Command) → anew command ≡ true → m.does s one command ≡ m.does s other command

  -- A session after posts of another one. A failed session ignores them.
  abbrev pub heard : Name → List Post → Mortal State → Mortal State
  heard from posts session = if session.failed then session else record { state = all_arrive m session.state from posts; failed = false }

  -- One command, which may run out of memory.
  pub record IsLossy (old new : Name → Mortal State) (t : Tagged Name Command) (told : Told Line) : Type 0 where
    -- A failed session refuses everything but a restart.
    pub shut : told.shut ≡ ((old t.session).failed && not (anew t.command))
    -- A command that is done has the lines of the machine and leaves the state of the machine.
    pub tells : (lines : List Line) → told.lines ≡ Some lines → told.shut ≡ false → lines ≡ (m.does t.session (old t.session).state t.command).lines
    pub leaves : (lines : List Line) → told.lines ≡ Some lines → told.shut ≡ false
        → new t.session ≡ record { state = (m.does t.session (old t.session).state t.command).state; failed = false }
    -- It posts what the machine posts. A command that ran out of memory may have posted anything.
    pub posts : List Post
    pub posted : (lines : List Line) → told.lines ≡ Some lines → told.shut ≡ false → posts ≡ (m.does t.session (old t.session).state t.command).posts
    -- These posts reach every other session, unless that session has failed.
    pub others : (other : Name) → m.same other t.session ≡ false → (new other ≡ heard t.session posts (old other)) ⊎ ((new other).failed ≡ true)

  -- Several commands, each in the states that the previous one left.
  abbrev pub AreLossy : (Name → Mortal State) → List (Tagged Name Command) → List (Told Line) → (Name → Mortal State) → Type 0
  AreLossy old [] [] new = new ≡ old
  AreLossy old (t ∷ ts) (told ∷ rest) new = (between : Name → Mortal State) × IsLossy old between t told × AreLossy between ts rest new
  AreLossy old [] (told ∷ rest) new = ⊥
  AreLossy old (t ∷ ts) [] new = ⊥

  -- The session has failed, or has this state.
  abbrev pub EndsIn : State → Mortal State → Type 0
  EndsIn state session = (session.failed ≡ true) ⊎ (session ≡ record { state = state; failed = false })

  -- Each session that passes the test has failed, or has its state in this world.
  abbrev pub EndIn : (Name → Bool) → (Name → State) → (Name → Mortal State) → Type 0
  EndIn keep world sessions = (name : Name) → keep name ≡ true → EndsIn (world name) (sessions name)

  -- The sessions that pass the test receive the lines of the world, and each has failed or has its state in the world.
  pub record AreSpared (keep : Name → Bool) (world : Name → State) (ts : List (Tagged Name Command))
      (told : List (Told Line)) (new : Name → Mortal State) : Type 0 where
    pub lines : map (λ one. one.lines) (entries_of keep ts told) ≡ map Some (entries_of keep ts (world_lines m world ts))
    pub states : EndIn keep (world_after m world ts) new

  -- The law: sessions that are closed under joins, and whose commands were all done, are spared, even if others ran out
  -- of memory.
  abbrev pub SparedLaw : Type 0
  SparedLaw = BeginsAnew
      → (keep : Name → Bool) (world : Name → State) (old new : Name → Mortal State) (ts : List (Tagged Name Command)) (told : List (Told Line))
      → IsClosed m keep world ts → EndIn keep world old → AreLossy old ts told new → AreDone keep ts told → AreSpared keep world ts told new
