-- A session alone: its own commands, and the posts that reach it.
use Rattle.std.specs.Prelude.{if◌then◌else◌, List, [], ◌∷◌, ◌++◌, map}
use Rattle.isolation.specs.Machine.{Machine, Tagged}
use Rattle.isolation.specs.World.{effect, after}

-- The input of a session: its own commands, and posts of other sessions.
pub data Item (Name Command Post : Type 0) : Type 0 where
  Own : (command : Command) → Item Name Command Post
  Arrival : (from : Name) (post : Post) → Item Name Command Post

module _ {Name State Command Line Post : Type 0} (m : Machine Name State Command Line Post) where
  -- The input that a command gives to `s`: itself if `s` gave it, otherwise its posts.
  abbrev pub given : Name → (Name → State) → Tagged Name Command → List (Item Name Command Post)
  given s world t = if m.same s t.session then Own t.command ∷ [] else map (Arrival t.session) (effect m world t).posts

  -- The input of `s` in a run.
  abbrev pub items : Name → (Name → State) → List (Tagged Name Command) → List (Item Name Command Post)
  items s world [] = []
  items s world (t ∷ ts) = given s world t ++ items s (after m world t) ts

  -- The state of a session alone after its input.
  abbrev pub alone_after : Name → State → List (Item Name Command Post) → State
  alone_after s state [] = state
  alone_after s state (Own command ∷ rest) = alone_after s (m.does s state command).state rest
  alone_after s state (Arrival from post ∷ rest) = alone_after s (m.arrives state from post) rest

  -- The lines of each of its commands.
  abbrev pub alone_lines : Name → State → List (Item Name Command Post) → List (List Line)
  alone_lines s state [] = []
  alone_lines s state (Own command ∷ rest) = (m.does s state command).lines ∷ alone_lines s (m.does s state command).state rest
  alone_lines s state (Arrival from post ∷ rest) = alone_lines s (m.arrives state from post) rest

  -- All its posts to other sessions.
  abbrev pub alone_posts : Name → State → List (Item Name Command Post) → List Post
  alone_posts s state [] = []
  alone_posts s state (Own command ∷ rest) = (m.does s state command).posts ++ alone_posts s (m.does s state command).state rest
  alone_posts s state (Arrival from post ∷ rest) = alone_posts s (m.arrives state from post) rest
