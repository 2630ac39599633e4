-- The results that are kept from one change to the next.
use Rattle.std.specs.Prelude.{◌≡◌, List, Option, None, Some, false, filter_map, if◌then◌else◌, option_map}
use Rattle.binding_values.specs.declared.eval_result.CacheEntry.{CacheEntry}
use Rattle.binding_values.specs.declared.eval_result.EvalResult.{EvalResult}
use Rattle.binding_values.specs.declared.kept_rows.KeptRow.{KeptRow}
use Rattle.binding_values.specs.EvalResult.{kept_of}
use Rattle.property_store.specs.declared.property.Property.{Property}
use Rattle.property_store.specs.Property.{is_property}

-- A property's result, as an entry.
abbrev pub entry_of : Property → Option EvalResult → Option CacheEntry
entry_of at found = option_map (λ kept. record { at = at; kept = kept }) found

-- The entries of rows, by the result that is taken from each.
abbrev pub held_by : (KeptRow → Option EvalResult) → List KeptRow → List CacheEntry
held_by held rows = filter_map (λ row. entry_of row.at (held row)) rows

-- The result of a row that is not stale.
abbrev pub fresh : KeptRow → Option EvalResult
fresh row = if row.is_stale then None else row.kept

-- The row of a new result.
abbrev pub renewed : CacheEntry → KeptRow
renewed row = record { at = row.at; kept = Some row.kept; is_stale = false }

-- The results that are not stale.
abbrev pub standing : List KeptRow → List CacheEntry
standing rows = held_by fresh rows

-- The last results, stale or not.
abbrev pub entries : List KeptRow → List CacheEntry
entries rows = held_by (λ row. row.kept) rows

-- The last result of a row has read these properties.
pub record HasRead (row : KeptRow) (reads : List Property) : Type 0 where
  pub last : EvalResult
  pub found : row.kept ≡ Some last
  pub same : last.reads ≡ reads

-- The result is added for its property; the others are unchanged.
abbrev pub IsPut : CacheEntry → List CacheEntry → List CacheEntry → Type 0
IsPut row old new = (q : Property) → kept_of new q ≡ (if is_property q row.at then Some row.kept else kept_of old q)
