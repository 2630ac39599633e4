-- What contracts see of the desks of all places.
use Rattle.std.specs.Prelude.{ℕ, Bool, ◌<◌, ◌≤◌, Option, Some, None, IsFalse, IsTrue, List, slice_index_or}
use Rattle.shared_rows.specs.Table.{IsPlace, Table, with_place}
use Rattle.publish_board.specs.Desk.{Desk, listens_to, names_session, no_desk}

-- The desk of a place.
abbrev pub desk_at : Table Desk → ℕ → Desk
desk_at table place = slice_index_or table.places place no_desk

-- The table with a different desk at a place.
abbrev pub with_desk : Table Desk → ℕ → Desk → Table Desk
with_desk table place desk = with_place table place desk

-- A place joins the session.
abbrev pub names_at : Table Desk → List ℕ → ℕ → Type 0
names_at table from place = IsTrue (names_session from (desk_at table place))

-- The desk of this place passes a test, and it is the first from `least` on that does.
pub record IsFirstWith (test : Desk → Bool) (table : Table Desk) (least place : ℕ) : Type 0 where
  pub is_place : IsPlace table place
  pub from_least : least ≤ place
  pub joins : IsTrue (test (desk_at table place))
  pub before : (other : ℕ) → least ≤ other → other < place → IsFalse (test (desk_at table other))

-- The first place from `least` on whose desk passes a test; `None` if there is none.
abbrev pub IsNextWith : (Desk → Bool) → Table Desk → ℕ → Option ℕ → Type 0
IsNextWith test table least (Some place) = IsFirstWith test table least place
IsNextWith test table least None = (other : ℕ) → least ≤ other → IsPlace table other → IsFalse (test (desk_at table other))

-- This place joins the session, and it is the first from `least` on that does.
abbrev pub IsFirstJoiner : Table Desk → List ℕ → ℕ → ℕ → Type 0
IsFirstJoiner table from = IsFirstWith (names_session from) table

-- The first place from `least` on that joins the session; `None` if there is none.
abbrev pub IsNextJoiner : Table Desk → List ℕ → ℕ → Option ℕ → Type 0
IsNextJoiner table from = IsNextWith (names_session from) table

-- The first place from `least` on that joins what the session publishes under the name; `None` if there is none.
abbrev pub IsNextListener : Table Desk → List ℕ → List ℕ → ℕ → Option ℕ → Type 0
IsNextListener table from name = IsNextWith (listens_to from name) table
