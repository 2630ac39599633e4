-- Rows of properties, by ascending object and number.
use Rattle.std.specs.Prelude.{◌≡◌, ◌<◌, ◌≤◌, ◌==◌, ◌&&◌, ◌||◌, ℕ, Bool, true, false, List, length, nat_lt, slice_index_or}
use Rattle.std.specs.List.{AllPairs, AllWithin}
use Rattle.property_store.specs.declared.property.Property.{Property}

-- Whether the first property comes before the second.
abbrev pub is_before : Property → Property → Bool
is_before p q = nat_lt p.object q.object || (p.object == q.object && nat_lt p.number q.number)

-- Rows of properties are sorted by ascending object and number.
abbrev pub IsRising : {X : Type 0} → (X → Property) → List X → Type 0
IsRising at_of = AllPairs (λ earlier later. is_before (at_of earlier) (at_of later) ≡ true)

-- This many rows, the first ones, come before those of a property.
pub record IsCountBefore {X : Type 0} (at_of : X → Property) (rows : List X) (at : Property) (count : ℕ) : Type 0 where
  pub within : count ≤ length rows
  pub before : AllWithin (λ row. is_before (at_of row) at ≡ true) rows 0 count
  pub behind : AllWithin (λ row. is_before (at_of row) at ≡ false) rows count (length rows)

-- The row of a property has this place.
pub record IsRowAt {X : Type 0} (at_of : X → Property) (rows : List X) (at : Property) (place : ℕ) : Type 0 where
  pub within : place < length rows
  pub is : (default : X) → at_of (slice_index_or rows place default) ≡ at

-- A property has no row; a row of it is to be inserted at this place.
pub record IsGapAt {X : Type 0} (at_of : X → Property) (rows : List X) (at : Property) (place : ℕ) : Type 0 where
  pub within : place ≤ length rows
  pub before : AllWithin (λ row. is_before (at_of row) at ≡ true) rows 0 place
  pub behind : AllWithin (λ row. is_before at (at_of row) ≡ true) rows place (length rows)
