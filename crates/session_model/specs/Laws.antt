-- What commands, posts and items preserve in every session.
use Rattle.std.specs.Prelude.{◌≡◌, ℕ, List, [], ◌∷◌, ◌++◌, IsFalse}
use Rattle.std.specs.List.{All, list_any}
use Rattle.variant_value.specs.declared.value.Value.{Value}
use Rattle.term_core.specs.Act.{Act}
use Rattle.term_evaluation.specs.Unfolding.{unfolded}
use Rattle.class_table.specs.declared.class.Class.{Class}
use Rattle.session_model.specs.declared.post.Post.{Post}
use Rattle.session_model.specs.Agenda.{step}
use Rattle.session_model.specs.Asked.{Asked}
use Rattle.session_model.specs.Execution.{Execution}
use Rattle.session_model.specs.Fitting.{AreSettings, IsFitting, IsFittingAsked, IsFittingUnderWay, IsRightPost}
use Rattle.session_model.specs.Items as to_do
use Rattle.session_model.specs.Items.{Item}
use Rattle.session_model.specs.Named.{AreNamed, IsNamedAsked, IsNamedItem}
use Rattle.session_model.specs.Run.{run}
use Rattle.session_model.specs.State.{IsDeclared, IsSound, State, empty}
use Rattle.session_model.specs.Thread.{Settings, arrives, does}
use Rattle.session_model.specs.UnderWay.{IsUnderWay, is_gone}

-- A session is sound before its first command, and stays sound during each command and after each post of another
-- session.
pub record KeepsSound : Type 0 where
  pub at_first : IsSound empty
  pub by_command : (settings : Settings) (self : List ℕ) (state : State) (asked : Asked) → IsSound state → IsSound (does settings self state asked).state
  pub by_post : (classes : List Class) (state : State) (from : List ℕ) (post : Post) → IsSound state → IsSound (arrives classes state from post)

-- While a session does an agenda, exactly the objects that the agenda will remove are dying, and their connections are
-- broken and their events dropped before that. So at the end no object is dying, both ends of each connection exist, and
-- so does the object of each event.
pub record KeepsUnderWay : Type 0 where
  pub at_first : (agenda : List Item) (state : State) → IsFalse (list_any is_gone agenda) → IsSound state → IsUnderWay agenda state
  pub by_item : (settings : Settings) (item : Item) (agenda : List Item) (doing : Execution) → IsUnderWay (item ∷ agenda) doing.state
      → IsUnderWay ((step settings item doing).items ++ agenda) (step settings item doing).doing.state
  pub at_end : (state : State) → IsUnderWay [] state → IsSound state

-- Each object has the properties that its class declares: before the first command, after each item of a command, after
-- the command, and after each post of another session.
pub record KeepsDeclared : Type 0 where
  pub at_first : (classes : List Class) → IsDeclared classes empty
  pub by_item : (settings : Settings) (item : Item) (doing : Execution)
      → IsDeclared settings.classes doing.state → IsDeclared settings.classes (step settings item doing).doing.state
  pub by_command : (settings : Settings) (self : List ℕ) (state : State) (asked : Asked)
      → IsSound state → IsDeclared settings.classes state → IsDeclared settings.classes (does settings self state asked).state
  pub by_post : (classes : List Class) (state : State) (from : List ℕ) (post : Post)
      → IsDeclared classes state → IsDeclared classes (arrives classes state from post)

-- The contents of a session fit the classes and the functors: before the first command, after each item of a command,
-- after the command, and after each right post of another session. The posts of a command are right.
pub record KeepsFitting : Type 0 where
  pub at_first : (settings : Settings) → IsFitting settings empty
  pub by_item : (settings : Settings) (item : Item) (agenda : List Item) (doing : Execution)
      → AreSettings settings → IsFittingUnderWay settings (item ∷ agenda) doing
      → IsFittingUnderWay settings ((step settings item doing).items ++ agenda) (step settings item doing).doing
  pub by_command : (settings : Settings) (self : List ℕ) (state : State) (asked : Asked) → AreSettings settings
      → IsFittingAsked settings state asked → IsSound state → IsDeclared settings.classes state → IsFitting settings state
      → IsFitting settings (does settings self state asked).state × All IsRightPost (does settings self state asked).posts
  pub by_post : (settings : Settings) (state : State) (from : List ℕ) (post : Post)
      → IsFitting settings state → IsRightPost post → IsFitting settings (arrives settings.classes state from post)

-- The contents of a session have valid names: before the first command, after each item of a command, after a command
-- that uses valid names for what it sets, publishes and joins, and after each post of another session.
pub record KeepsNamed : Type 0 where
  pub at_first : AreNamed empty
  pub by_item : (settings : Settings) (item : Item) (agenda : List Item) (doing : Execution)
      → AreSettings settings → All IsNamedItem (item ∷ agenda) → AreNamed doing.state
      → All IsNamedItem ((step settings item doing).items ++ agenda) × AreNamed (step settings item doing).doing.state
  pub by_command : (settings : Settings) (self : List ℕ) (state : State) (asked : Asked)
      → AreSettings settings → IsNamedAsked asked → AreNamed state → AreNamed (does settings self state asked).state
  pub by_post : (classes : List Class) (state : State) (from : List ℕ) (post : Post) → AreNamed state → AreNamed (arrives classes state from post)

-- An action with the arguments of its slot has the effect of the action in which they are put in.
abbrev pub ActsInPlace : Type 0
ActsInPlace = (settings : Settings) (action : Act) (args : List Value) (self sender depth : ℕ) (doing : Execution) →
    run settings (to_do.Act action args self sender depth ∷ []) doing ≡ run settings (to_do.Act (unfolded args action) [] self sender depth ∷ []) doing
