-- The sessions that influence a session: those to which a chain of joins leads from it.
use Rattle.std.specs.Prelude.{◌≡◌, Bool, true, false, ◌&&◌, ◌||◌, List, [], ◌∷◌, ◌++◌, map}
use Rattle.isolation.specs.Machine.{Machine, Tagged}
use Rattle.isolation.specs.World.{after, is_in}

-- The least set that contains `s`, and contains `t` if a member joins `t`.
pub data Reached {Name : Type 0} (joins : Name → Name → Bool) (s : Name) : Name → Type 0 where
  Self : Reached joins s s
  Joined : {r : Name} (t : Name) → Reached joins s r → joins r t ≡ true → Reached joins s t

-- Whether a chain of joins leads from `r` to `t` by way of these sessions.
abbrev pub reaches : {Name : Type 0} → (Name → Name → Bool) → List Name → Name → Name → Bool
reaches joins [] r t = joins r t
reaches joins (by ∷ others) r t = reaches joins others r t || (reaches joins others r by && reaches joins others by t)

module _ {Name State Command Line Post : Type 0} (m : Machine Name State Command Line Post) where
  -- Whether a join of `r` that names `t` is accepted in the run.
  abbrev pub accepted : (Name → State) → List (Tagged Name Command) → Name → Name → Bool
  accepted world [] r t = false
  accepted world (c ∷ cs) r t = (m.same r c.session && m.accepts r (world r) c.command t) || accepted (after m world c) cs r t

  -- Whether a join of `r` that names `t` exists at the start or is accepted in the run.
  abbrev pub joined : (Name → State) → List (Tagged Name Command) → Name → Name → Bool
  joined world cs r t = m.names (world r) t || accepted world cs r t

  -- Whether a join of `r` that names `t` exists at the start or after a command of the run.
  abbrev pub stood : (Name → State) → List (Tagged Name Command) → Name → Name → Bool
  stood world [] r t = m.names (world r) t
  stood world (c ∷ cs) r t = m.names (world r) t || stood (after m world c) cs r t

  -- `t` influences `s` if it is `s`, or a chain of joins leads from `s` to `t`.
  abbrev pub Influences : (Name → State) → List (Tagged Name Command) → Name → Name → Type 0
  Influences world cs s t = Reached (joined world cs) s t

  -- The test of influence, over the known names and those in the run.
  abbrev pub influences : (Name → State) → List Name → List (Tagged Name Command) → Name → Name → Bool
  influences world known cs s t = m.same s t || reaches (joined world cs) (known ++ map (λ c. c.session) cs) s t

  -- Every session that has a join is known.
  abbrev pub KnowsAll : (Name → State) → List Name → Type 0
  KnowsAll world known = (name t : Name) → m.names (world name) t ≡ true → is_in m name known ≡ true

  -- A closed test: if a session passes it, so does every session that it joins.
  abbrev pub IsClosed : (Name → Bool) → (Name → State) → List (Tagged Name Command) → Type 0
  IsClosed keep world cs = (r t : Name) → keep r ≡ true → joined world cs r t ≡ true → keep t ≡ true

-- Two worlds agree about the sessions that pass the test.
abbrev pub Agree : {Name State : Type 0} → (Name → Bool) → (Name → State) → (Name → State) → Type 0
Agree {Name} keep world other = (name : Name) → keep name ≡ true → other name ≡ world name
