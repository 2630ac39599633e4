-- A machine: what the sessions of a server do, each with a state of its own.
use Rattle.std.specs.Prelude.{◌≡◌, ◌⊎◌, Bool, true, false, List}

-- The effect of a command: the new state of its session, the lines that the session receives, and the posts to the
-- others.
pub record Effect (State Line Post : Type 0) : Type 0 where
  pub state : State
  pub lines : List Line
  pub posts : List Post

-- How a session handles a command and a post of another session, which sessions its joins name, and which joins it
-- accepts.
pub record Machine (Name State Command Line Post : Type 0) : Type 0 where
  -- Whether two names are the same.
  pub same : Name → Name → Bool
  -- The effect of a command in the session with this name and state.
  pub does : Name → State → Command → Effect State Line Post
  -- The state after a post of this session.
  pub arrives : State → Name → Post → State
  -- Whether a join that exists in this state names this session.
  pub names : State → Name → Bool
  -- Whether the command, in the session with this name and state, is accepted as a join that names this session.
  pub accepts : Name → State → Command → Name → Bool

-- Names can be compared; a session ignores posts of sessions that none of its joins names; an accepted join adds its
-- name, and nothing else adds one.
pub record IsLawful {Name State Command Line Post : Type 0} (m : Machine Name State Command Line Post) : Type 0 where
  pub equal : (a b : Name) → m.same a b ≡ true → a ≡ b
  pub itself : (a : Name) → m.same a a ≡ true
  pub stranger : (state : State) (from : Name) (post : Post) → m.names state from ≡ false → m.arrives state from post ≡ state
  pub made : (self : Name) (state : State) (command : Command) (name : Name) → m.names (m.does self state command).state name ≡ true
      → (m.names state name ≡ true) ⊎ (m.accepts self state command name ≡ true)
  pub stands : (self : Name) (state : State) (command : Command) (name : Name)
      → m.accepts self state command name ≡ true → m.names (m.does self state command).state name ≡ true
  pub arrived : (state : State) (from : Name) (post : Post) (name : Name) → m.names (m.arrives state from post) name ≡ true → m.names state name ≡ true

-- A command, and the session that gives it.
pub record Tagged (Name Command : Type 0) : Type 0 where
  pub session : Name
  pub command : Command
