-- The sessions that join another one.
use Rattle.std.specs.Prelude.{◌≡◌, ℕ, ◌==◌, List}
use Rattle.std.specs.List.{list_any}
use Rattle.std.specs.List.Sorted.{IsStrictlyIncreasing}
use Rattle.session_model.specs.Thread.{joins_name}
use Rattle.session_tables.specs.declared.tables.Tables.{Tables}
use Rattle.session_tables.specs.Tables.{state_at}

-- The places of the sessions with a join that names this one, in ascending order.
pub record AreJoiners (tables : Tables) (from : List ℕ) (places : List ℕ) : Type 0 where
  pub rising : IsStrictlyIncreasing places
  pub exact : (at : ℕ) → list_any (λ place. place == at) places ≡ joins_name (state_at tables at) from
