-- The inputs of a session, one after another, and what they do to it and to all other sessions.
use Rattle.std.specs.Prelude.{◌≡◌, ◌⊎◌, ℕ, false, List, [], ◌∷◌, ◌++◌, Option, Some, None, IfNone, IfSome, OnSome, IsTrue, IsFalse, bytes_eq, option_map}
use Rattle.isolation.specs.Alone as theory
use Rattle.isolation.specs.Alone.{alone_after, alone_lines, alone_posts}
use Rattle.isolation.specs.World.{all_arrive}
use Rattle.session_model.specs.declared.line.Line.{Line}
use Rattle.session_model.specs.declared.post.Post.{Post}
use Rattle.session_model.specs.Asked.{Asked, asked}
use Rattle.session_model.specs.Fitting.{IsRightPost}
use Rattle.session_model.specs.Machine.{machine}
use Rattle.session_model.specs.Thread.{arrives}
use Rattle.session_tables.specs.Reaching.{FailsBy, after_posts}
use Rattle.session_tables.specs.Session.{fresh}
use Rattle.session_engine.specs.declared.item.Item.{Item}
use Rattle.session_engine.specs.declared.item.Item.TheVariants as code
use Rattle.session_engine.specs.Sessions.{AnotherFails, AreSound, IsStep, OthersStay, Sessions, states_of}

abbrev pub Coming : Type 0
Coming = theory.Item (List ℕ) Asked Post

-- An input, as definitions see it.
abbrev pub item_of : Item → Coming
item_of (code.Own command) = theory.Own (asked command)
item_of (code.Arrival from post) = theory.Arrival from post

-- The lines of all commands, in one list.
abbrev pub all_lines : List (List Line) → List Line
all_lines [] = []
all_lines (lines ∷ rest) = lines ++ all_lines rest

-- If the input is a post, it is right.
abbrev pub IsRightItem : Item → Type 0
IsRightItem (code.Own command) = Unit {0}
IsRightItem (code.Arrival from post) = IsRightPost post

-- A post of the session `from` has reached the session with this name, unless memory ran out for it.
pub record HasArrived {T : Type 0} (old new : Sessions) (name from : List ℕ) (post : Post) (done : Option T) : Type 0 where
  -- If memory was never refused, the post has had its effect.
  pub state : IsFalse new.memory_refused → states_of new name ≡ arrives old.settings.classes (states_of old name) from post
  -- In any case the session has received it, or has ignored it because it had failed.
  pub hears : OnSome done (new.session name ≡ after_posts old.settings.classes from (post ∷ []) (old.session name))
  -- If memory ran out for it, only this session has failed, which has a join that takes the post.
  pub fails : IfNone done (FailsBy from (post ∷ []) (old.session name) (new.session name))
  pub others : OthersStay old new name
  pub settings : new.settings ≡ old.settings
  pub found : OnSome done (new.memory_refused ≡ old.memory_refused)
  pub memory : IfNone done (IsTrue new.memory_refused)
  pub sound : AreSound new

-- The session with this name has had one input: the step of a command, or the arrival of a post. The lines are what it
-- received, unless memory ran out.
abbrev pub HasCome : Sessions → Sessions → List ℕ → Coming → Option (List Line) → Type 0
HasCome old new name (theory.Own command) told = IsStep old new name command told
HasCome old new name (theory.Arrival from post) told = HasArrived old new name from post told × IfSome told (λ lines. lines ≡ [])

-- The session has had one input, whose lines are appended to the earlier ones.
abbrev pub HasAdded : Sessions → Sessions → List ℕ → Coming → List Line → List Line → Type 0
HasAdded old new name item before after = (lines : List Line) × HasCome old new name item (Some lines) × (after ≡ before ++ lines)

-- The session has had its inputs in order, each from the sessions that the previous one left, up to the first one for
-- which memory ran out. The result is the lines of all, in order, or nothing if memory ran out.
abbrev pub HaveCome : Sessions → Sessions → List ℕ → List Coming → Option (List Line) → Type 0
HaveCome old new name [] told = (new ≡ old) × (told ≡ Some [])
HaveCome old new name (item ∷ items) told =
    (HasCome old new name item None × (told ≡ None))
    ⊎ ((between : Sessions) × (lines : List Line) × (rest : Option (List Line)) × HasCome old between name item (Some lines)
    × HaveCome between new name items rest × (told ≡ option_map (λ more. lines ++ more) rest))

-- The inputs of a session that had not failed and found memory for each of them, even if other sessions ran out of
-- memory. It receives what a session alone receives and ends as that does, and its posts have reached every other
-- session, unless that has failed.
pub record SparesItsSession (old new : Sessions) (name : List ℕ) (items : List Coming) (told : List Line) : Type 0 where
  pub lines : told ≡ all_lines (alone_lines (machine old.settings) name (states_of old name) items)
  pub own : new.session name ≡ record { state = alone_after (machine old.settings) name (states_of old name) items; failed = false }
  pub others : (other : List ℕ) → IsFalse (bytes_eq other name)
      → (new.session other ≡ after_posts old.settings.classes name (alone_posts (machine old.settings) name (states_of old name) items) (old.session other))
      ⊎ IsTrue (new.session other).failed

-- What its inputs do to a session and to all others.
pub record RunsAlone (old new : Sessions) (name : List ℕ) (items : List Coming) (told : Option (List Line)) : Type 0 where
  -- Even if memory was refused, before them or during them.
  pub come : HaveCome old new name items told
  -- If memory was never refused, it receives what a session alone receives, and ends as that does.
  pub lines : IsFalse new.memory_refused → told ≡ Some (all_lines (alone_lines (machine old.settings) name (states_of old name) items))
  pub own : IsFalse new.memory_refused → states_of new name ≡ alone_after (machine old.settings) name (states_of old name) items
  -- Its posts have reached every other session.
  pub others : IsFalse new.memory_refused → (other : List ℕ) → IsFalse (bytes_eq other name) → states_of new other
      ≡ all_arrive (machine old.settings) (states_of old other) name (alone_posts (machine old.settings) name (states_of old name) items)
  -- The same holds, even if memory was refused before or to others, if the session found memory for each input.
  pub spared : IsFalse (old.session name).failed → IfSome told (SparesItsSession old new name items)
  -- Memory is first refused only for an input, or for another session that has failed by a post.
  pub blame : IsFalse old.memory_refused → IsTrue new.memory_refused → (told ≡ None) ⊎ AnotherFails old new name
  pub sound : AreSound new

-- The session with this name has the state from before its first command.
pub record BeginsAnew (old new : Sessions) (name : List ℕ) : Type 0 where
  pub fresh : new.session name ≡ fresh
  pub others : OthersStay old new name
  pub settings : new.settings ≡ old.settings
  pub memory : new.memory_refused ≡ old.memory_refused
  pub sound : AreSound new
