-- How the notes about commands are stored.
use Rattle.std.specs.Prelude.{◌==◌, ◌≤◌, ℕ, false, List, [], ◌∷◌, All, length, map, slice_index_or}
use Rattle.isolation.specs.Machine.{Machine}
use Rattle.isolation.specs.Slice.{Note}
use Rattle.server_world.specs.declared.notes.Row.{Row}

-- A machine whose names are places. Nothing but the comparison of places is used.
abbrev pub by_place : Machine ℕ (Unit {0}) (Unit {0}) (Unit {0}) (Unit {0})
by_place = record {
  same = λ a b. a == b;
  does = λ place state command. record { state = state; lines = []; posts = [] };
  arrives = λ state from post. state;
  names = λ state name. false;
  accepts = λ place state command name. false;
}

-- The joiners with this number: number 0 is the empty list, and number n the list at index n - 1.
abbrev pub joiners_at : List (List ℕ) → ℕ → List ℕ
joiners_at lists number = slice_index_or ([] ∷ lists) number []

abbrev pub note_at : List (List ℕ) → Row → Note ℕ
note_at lists row = record { session = row.session; joiners = joiners_at lists row.list }

abbrev pub noted : List Row → List (List ℕ) → List (Note ℕ)
noted rows lists = map (note_at lists) rows

-- Each number is 0 or the number of a list.
pub record AreNumbered (rows : List Row) (lists : List (List ℕ)) (latest : List ℕ) : Type 0 where
  pub noted : All (λ row. row.list ≤ length lists) rows
  pub known : All (λ number. number ≤ length lists) latest
