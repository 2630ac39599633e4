-- How cached results are found.
use Rattle.std.specs.Prelude.{◌≡◌, ◌<◌, List, All, find, length, option_and_then, slice_get}
use Rattle.binding_values.specs.declared.eval_result.CacheEntry.{CacheEntry}
use Rattle.binding_values.specs.declared.eval_cache.Entry.{Entry}
use Rattle.property_store.specs.declared.property.Property.{Property}
use Rattle.property_store.specs.Property.{is_property}
use Rattle.binding_values.specs.Sorted.{IsRising}

-- Each property's entry names its first row.
pub record IsOrdered (rows : List CacheEntry) (order : List Entry) : Type 0 where
  pub rising : IsRising (λ entry. entry.at) order
  pub within : All (λ entry. entry.row < length rows) order
  pub first : (q : Property) → option_and_then (λ entry. slice_get rows entry.row) (find (λ entry. is_property q entry.at) order)
      ≡ find (λ row. is_property q row.at) rows
