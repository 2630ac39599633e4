-- How the rows of all places are stored in one slab. No public clause cites this module.
use Rattle.std.specs.Prelude.{◌≡◌, ◌≢◌, ℕ, ◌<◌, ◌≤◌, List, length, Option, None, Some, count_by, is_some, slice_index_or}
use Rattle.shared_rows.specs.Gapped.{Gapped}
use Rattle.std.specs.List.{All, AllPairs, AllWithin, filter_map, sum_by}
use Rattle.std.specs.Option.{option_map}
use Rattle.shared_rows.specs.Rows.{Keyed}
use Rattle.shared_rows.specs.declared.index.Entry.{Entry}
use Rattle.shared_rows.specs.declared.index.Slot.{Slot}
use Rattle.shared_rows.specs.declared.index.Window.{Window}

module _ {R N : Type 0} where
  -- The rows of an index: for each entry the row in its slot, with its key.
  abbrev pub keyed_by : List (Option (Slot R)) → Entry N → Option (Keyed R)
  keyed_by slots entry = option_map (λ slot. record { key = entry.key; row = slot.row }) (slice_index_or slots entry.key None)

  abbrev pub rows_of : List (Option (Slot R)) → List (Entry N) → List (Keyed R)
  rows_of slots entries = filter_map (keyed_by slots) entries

module _ {N : Type 0} (value : N → ℕ) where
  abbrev pub IsRisingIndex : List (Entry N) → Type 0
  IsRisingIndex = AllPairs (λ earlier later. value earlier.number < value later.number)

  -- The entry at this position has the number.
  pub record IsAt (entries : List (Entry N)) (number at : ℕ) : Type 0 where
    pub in_range : at < length entries
    pub is : (default : Entry N) → value (slice_index_or entries at default).number ≡ number

  -- No entry has the number.
  abbrev pub HasNot : List (Entry N) → ℕ → Type 0
  HasNot entries number = All (λ entry. value entry.number ≢ number) entries

  -- An entry with the number can only be in this window, and the guess is in it.
  pub record IsWindow (entries : List (Entry N)) (number : ℕ) (window : Window) : Type 0 where
    pub in_range : window.high ≤ length entries
    pub guess : window.low < window.high → (window.low ≤ window.guess) × (window.guess < window.high)
    pub only : (k : ℕ) (default : Entry N)
        → k < length entries → value (slice_index_or entries k default).number ≡ number → (window.low ≤ k) × (k < window.high)

  -- This many entries, the first ones, are below a number.
  pub record IsCountBelow (entries : List (Entry N)) (number count : ℕ) : Type 0 where
    pub in_range : count ≤ length entries
    pub below : AllWithin (λ entry. value entry.number < number) entries 0 count
    pub above : AllWithin (λ entry. number ≤ value entry.number) entries count (length entries)

module _ {R N : Type 0} (number : R → ℕ) (value : N → ℕ) where
  -- The slot of an entry holds a row of this place and of the entry's number.
  pub record IsEntry (slots : List (Option (Slot R))) (place : ℕ) (entry : Entry N) : Type 0 where
    pub row : R
    pub stands : slice_index_or slots entry.key None ≡ Some (record { place = place; row = row })
    pub numbered : number row ≡ value entry.number

  -- The index of a place: its entries, by ascending number.
  pub record IsIndex (slots : List (Option (Slot R))) (place : ℕ) (entries : List (Entry N)) : Type 0 where
    pub rising : IsRisingIndex value entries
    pub stand : All (IsEntry slots place) entries

  -- Each place has its index, and no slot holds a row that is in none.
  pub record IsKept (slots : List (Option (Slot R))) (indexes : List (Gapped (Entry N))) : Type 0 where
    pub each : (place : ℕ) (default : Gapped (Entry N)) → place < length indexes → IsIndex slots place (slice_index_or indexes place default).items
    pub total : count_by is_some slots ≡ sum_by (λ index. length index.items) indexes
