-- What contracts see of a place: its rows, each with its key.
use Rattle.std.specs.Prelude.{◌≡◌, ◌≢◌, ℕ, ◌<◌, ◌==◌, nat_lt, not, List, [], ◌∷◌, ◌++◌, Option, if◌then◌else◌, filter, find, map, slice_index_or, refl}
use Rattle.std.specs.Coded.{Coded, code_by, coded×, coded_ℕ}
use Rattle.std.specs.List.{AllPairs}
use Rattle.std.specs.Option.{option_map}
use Rattle.shared_rows.specs.Table.{Table}

pub record Keyed (R : Type 0) : Type 0 where
  pub key : ℕ
  pub row : R

-- A row with its key is stored as the pair of its fields.
abbrev pub keyed_code : {R : Type 0} → Coded R → Coded (Keyed R)
keyed_code {R} code = code_by (ℕ × R) (coded× coded_ℕ code) (λ k. (k.key, k.row)) (λ p. record { key = p.0; row = p.1 }) (λ _. refl)

module _ {R : Type 0} where
  -- The rows of a place.
  abbrev pub rows_at : Table (List (Keyed R)) → ℕ → List (Keyed R)
  rows_at table place = slice_index_or table.places place []

  -- The row under a key.
  abbrev pub row_under : List (Keyed R) → ℕ → Option R
  row_under rows key = option_map (λ keyed. keyed.row) (find (λ keyed. keyed.key == key) rows)

  -- The key of the row with a number.
  abbrev pub key_of : (R → ℕ) → List (Keyed R) → ℕ → Option ℕ
  key_of number rows wanted = option_map (λ keyed. keyed.key) (find (λ keyed. number keyed.row == wanted) rows)

  -- Each number is below all later ones.
  abbrev pub IsRising : (R → ℕ) → List (Keyed R) → Type 0
  IsRising number = AllPairs (λ earlier later. number earlier.row < number later.row)

  -- What holds for the rows of every place: numbers ascend, and no two rows have the same key.
  pub record IsSound (number : R → ℕ) (rows : List (Keyed R)) : Type 0 where
    pub rising : IsRising number rows
    pub apart : AllPairs (λ earlier later. earlier.key ≢ later.key) rows

  -- This row is at the position, under this key.
  abbrev pub IsAtPosition : List (Keyed R) → ℕ → ℕ → R → Type 0
  IsAtPosition rows position key row = (default : Keyed R) → slice_index_or rows position default ≡ record { key = key; row = row }

  -- The rows with another one at the end.
  abbrev pub added : List (Keyed R) → ℕ → R → List (Keyed R)
  added rows key row = rows ++ record { key = key; row = row } ∷ []

  -- The rows with another one, between those with lower numbers and those with higher ones.
  abbrev pub inserted : (R → ℕ) → List (Keyed R) → ℕ → R → List (Keyed R)
  inserted number rows key row = filter (λ keyed. nat_lt (number keyed.row) (number row)) rows
      ++ record { key = key; row = row } ∷ filter (λ keyed. nat_lt (number row) (number keyed.row)) rows

  -- The rows with a different row under a key.
  abbrev pub with_row : List (Keyed R) → ℕ → R → List (Keyed R)
  with_row rows key row = map (λ keyed. if keyed.key == key then record { key = key; row = row } else keyed) rows

  -- The rows without the row under a key.
  abbrev pub without : List (Keyed R) → ℕ → List (Keyed R)
  without rows key = filter (λ keyed. not (keyed.key == key)) rows
