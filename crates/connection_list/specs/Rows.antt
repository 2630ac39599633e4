-- What contracts see of the connections of a place.
use Rattle.std.specs.Prelude.{ℕ, ◌+◌, ◌-◌, ◌^◌, ◌<◌, ◌≤◌, Bool, not, nat_lt, nat_le, ◌==◌, ◌&&◌, if◌then◌else◌, List, [], ◌∷◌}
use Rattle.std.specs.Prelude.{◌++◌, true, length, filter, find, map, take, All, AllPairs, Option, Some, None, option_and_then}
use Rattle.std.specs.List.{list_any}
use Rattle.std.specs.Option.{option_map_or}
use Rattle.plain_types.specs.declared.code.Code.{Code}
use Rattle.plain_types.specs.declared.code.Code.TheVariants.{ConnectedAlready, Limit, NumbersUsedUp}
use Rattle.connection_list.specs.declared.connection.Connection.{Connection}
use Rattle.connection_list.specs.declared.connection.NewConnection.{NewConnection}
use Rattle.connection_list.specs.declared.limit.TheConstants.{CONNECTIONS, LISTED}
use Rattle.connection_list.specs.Ends.{same_ends, calls, calls_functor, touches}

pub record Rows : Type 0 where
  -- The connections that exist, by ascending number.
  pub rows : List Connection
  -- The number that was given last, or 0.
  pub last_number : ℕ

-- No connection was ever made.
abbrev pub no_rows : Rows
no_rows = record { rows = []; last_number = 0 }

-- Each number is below all later ones.
abbrev pub IsRising : List Connection → Type 0
IsRising rows = AllPairs (λ earlier later. earlier.number < later.number) rows

-- What holds for the connections of every place.
pub record IsSound (place : Rows) : Type 0 where
  pub rising : IsRising place.rows
  pub from_one : All (λ row. 1 ≤ row.number) place.rows
  pub given : All (λ row. row.number ≤ place.last_number) place.rows
  pub fits : place.last_number < 2 ^ 32
  pub few : length place.rows ≤ CONNECTIONS

-- Why a new connection is refused: the first reason that applies.
abbrev pub connect_refusal : Rows → NewConnection → Bool → Option Code
connect_refusal place new unique =
    if unique && list_any (same_ends new) place.rows then Some ConnectedAlready
    else (if nat_le CONNECTIONS (length place.rows) then Some Limit
    else (if nat_le (2 ^ 32 - 1) place.last_number then Some NumbersUsedUp
    else None))

-- The new connection with its number. Its functor has the state 0.
abbrev pub numbered : ℕ → NewConnection → Connection
numbered number new = record {
  number = number;
  sender = new.sender;
  signal = new.signal;
  receiver = new.receiver;
  callee = new.callee;
  mode = new.mode;
  single = new.single;
  state = 0;
}

-- The place with another connection, which has the next number.
abbrev pub connected : Rows → NewConnection → Rows
connected place new = record { rows = place.rows ++ numbered (place.last_number + 1) new ∷ []; last_number = place.last_number + 1 }

-- The place without the connections that pass a test. No number is given again.
abbrev pub without : (Connection → Bool) → Rows → Rows
without test place = record { rows = filter (λ row. not (test row)) place.rows; last_number = place.last_number }

-- Whether this is the connection's number.
abbrev pub has_number : ℕ → Connection → Bool
has_number number row = row.number == number

-- Whether this is the connection's number, and it calls a functor.
abbrev pub is_of_functor : ℕ → Connection → Bool
is_of_functor number row = has_number number row && calls_functor row.callee

-- The place in which the functor of the connection with this number has another state, if there is such a connection.
abbrev pub with_state : ℕ → ℕ → Rows → Rows
with_state number state place = record place { rows = map (λ row. if is_of_functor number row then record row { state = state } else row) place.rows }

-- The state of the functor that the connection with this number calls; `None` if there is no such connection.
abbrev pub state_of : ℕ → Rows → Option ℕ
state_of number place = option_and_then (λ row. if calls_functor row.callee then Some row.state else None) (find (has_number number) place.rows)

-- Whether a connection is listed: it has a greater number, and the object, if one is named, at either end.
abbrev pub is_listed : Option ℕ → ℕ → Connection → Bool
is_listed object after row = nat_lt after row.number && option_map_or (λ named. touches named row) object true

-- The first of these connections that are listed.
abbrev pub listed : Option ℕ → ℕ → List Connection → List Connection
listed object after rows = take LISTED (filter (is_listed object after) rows)

-- Whether this signal of this object calls the connection's callee, and its number is at most `up_to`.
abbrev pub is_sent : ℕ → ℕ → ℕ → Connection → Bool
is_sent sender signal up_to row = nat_le row.number up_to && calls sender signal row

-- Whether this signal of this object calls the connection's callee, and its number is above `after` and at most `up_to`.
abbrev pub is_next : ℕ → ℕ → ℕ → ℕ → Connection → Bool
is_next sender signal after up_to row = nat_lt after row.number && is_sent sender signal up_to row
