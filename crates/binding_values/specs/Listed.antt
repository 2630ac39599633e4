-- An entry for a property.
use Rattle.std.specs.Prelude.{◌≡◌, ◌⊎◌, ℕ, List, Some, find}
use Rattle.std.specs.List.{insert}
use Rattle.binding_values.specs.declared.eval_cache.Entry.{Entry}
use Rattle.property_store.specs.declared.property.Property.{Property}
use Rattle.property_store.specs.Property.{is_property}
use Rattle.binding_values.specs.Sorted.{IsGapAt}

-- The entry was inserted in order.
pub record IsEntered (old new : List Entry) (at : Property) (row : ℕ) : Type 0 where
  pub position : ℕ
  pub absent : IsGapAt (λ entry. entry.at) old at position
  pub entered : new ≡ insert old position (record { at = at; row = row })

-- There was an entry already.
pub record HasStood (old new : List Entry) (at : Property) : Type 0 where
  pub entry : Entry
  pub found : find (λ entry. is_property at entry.at) old ≡ Some entry
  pub same : new ≡ old

abbrev pub IsListed : List Entry → List Entry → Property → ℕ → Type 0
IsListed old new at row = HasStood old new at ⊎ IsEntered old new at row
