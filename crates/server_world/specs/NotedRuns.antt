-- Runs in which commands are noted.
use Rattle.std.specs.Prelude.{◌≡◌, ℕ, Bool, List, [], take, IsTrue, IsFalse}
use Rattle.isolation.specs.Machine.{Tagged}
use Rattle.session_model.specs.Asked.{Asked}
use Rattle.server_world.specs.declared.report.Entry.{Entry}
use Rattle.server_world.specs.declared.report.Report.{Report}
use Rattle.server_world.specs.Noting.{kept_places}
use Rattle.server_world.specs.Runs.{AreSteps}
use Rattle.server_world.specs.Server.{Server, settings, states, was_refused}

-- Exactly some first commands are done.
pub record Stops (old new : Server) (ts : List (Tagged (List ℕ) Asked)) : Type 0 where
  pub count : ℕ
  pub entries : List Entry
  pub steps : AreSteps old (take count ts) entries new

-- The places of the commands in the slice of `s`; none if memory was refused.
pub record AnswersPlaces (old : Server) (ts : List (Tagged (List ℕ) Asked)) (s : List ℕ) (memory_refused : Bool) (places : List ℕ) : Type 0 where
  pub found : IsFalse memory_refused → places ≡ kept_places (settings old) (states old) ts s
  pub none : IsTrue memory_refused → places ≡ []

-- All commands are done, and these places are returned.
pub record IsKeptRun (old new : Server) (ts : List (Tagged (List ℕ) Asked)) (session : List ℕ) (report : Report) (places : List ℕ) : Type 0 where
  pub refused : report.memory_refused ≡ was_refused new
  pub steps : AreSteps old ts report.lines new
  pub kept : AnswersPlaces old ts session report.memory_refused places
