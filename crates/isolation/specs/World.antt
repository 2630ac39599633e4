-- All sessions side by side: a state for each name, and what commands make of them.
use Rattle.std.specs.Prelude.{Bool, if◌then◌else◌, List, [], ◌∷◌, filter}
use Rattle.std.specs.List.{list_any}
use Rattle.isolation.specs.Machine.{Effect, Machine, Tagged}

-- In a list with one entry per command: the entries of the commands whose sessions pass the test.
abbrev pub entries_of : {Name Command Entry : Type 0} → (Name → Bool) → List (Tagged Name Command) → List Entry → List Entry
entries_of keep [] entries = []
entries_of keep (t ∷ ts) [] = []
entries_of keep (t ∷ ts) (entry ∷ entries) = if keep t.session then entry ∷ entries_of keep ts entries else entries_of keep ts entries

-- The commands whose sessions pass the test.
abbrev pub only : {Name Command : Type 0} → (Name → Bool) → List (Tagged Name Command) → List (Tagged Name Command)
only keep ts = filter (λ t. keep t.session) ts

module _ {Name State Command Line Post : Type 0} (m : Machine Name State Command Line Post) where
  -- The effect of a command in the current world.
  abbrev pub effect : (Name → State) → Tagged Name Command → Effect State Line Post
  effect world t = m.does t.session (world t.session) t.command

  -- The state after several posts of one session, in order.
  abbrev pub all_arrive : State → Name → List Post → State
  all_arrive state from [] = state
  all_arrive state from (post ∷ posts) = all_arrive (m.arrives state from post) from posts

  -- The world after a command: its session has the new state, and its posts have arrived at all others.
  abbrev pub after : (Name → State) → Tagged Name Command → Name → State
  after world t name = if m.same name t.session then (effect world t).state else all_arrive (world name) t.session (effect world t).posts

  -- The world after commands of any sessions, in order.
  abbrev pub world_after : (Name → State) → List (Tagged Name Command) → Name → State
  world_after world [] = world
  world_after world (t ∷ ts) = world_after (after world t) ts

  -- The lines of each command.
  abbrev pub world_lines : (Name → State) → List (Tagged Name Command) → List (List Line)
  world_lines world [] = []
  world_lines world (t ∷ ts) = (effect world t).lines ∷ world_lines (after world t) ts

  -- The posts of each command.
  abbrev pub world_posts : (Name → State) → List (Tagged Name Command) → List (List Post)
  world_posts world [] = []
  world_posts world (t ∷ ts) = (effect world t).posts ∷ world_posts (after world t) ts

  -- The entries of one session's commands.
  abbrev pub at_session : {Entry : Type 0} → Name → List (Tagged Name Command) → List Entry → List Entry
  at_session s ts entries = entries_of (m.same s) ts entries

  -- Whether the name is in the list.
  abbrev pub is_in : Name → List Name → Bool
  is_in name names = list_any (m.same name) names
