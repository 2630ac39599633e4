-- The cached results that a change reaches.
use Rattle.std.specs.Prelude.{◌≡◌, false, not, List, ◌++◌, All, Some, None, Contains, filter, if◌then◌else◌}
use Rattle.property_store.specs.declared.property.Property.{Property}
use Rattle.property_store.specs.Property.{among, is_property}
use Rattle.binding_values.specs.declared.eval_result.CacheEntry.{CacheEntry}
use Rattle.binding_values.specs.declared.eval_result.EvalResult.{EvalResult}
use Rattle.binding_values.specs.declared.readers.Edge.{Edge}
use Rattle.binding_values.specs.EvalResult.{Keeping, kept_of}
use Rattle.binding_values.specs.Readers.{edge_of}

-- Each property that a cached result has read has an edge to its reader.
abbrev pub HasReaders : List CacheEntry → List Edge → Type 0
HasReaders rows edges = (q : Property) (kept : EvalResult) → kept_of rows q ≡ Some kept → All (λ read. Contains edges (edge_of read q)) kept.reads

-- The results of the other properties.
abbrev pub without : Property → List CacheEntry → List CacheEntry
without at rows = filter (λ row. not (is_property at row.at)) rows

-- The results of these properties are dropped, and the others are unchanged.
abbrev pub AreLetGo : Keeping → List Property → List CacheEntry → Type 0
AreLetGo before touched rows = (q : Property) → kept_of rows q ≡ (if among q touched then None else before q)

-- No cached result has read one of the touched properties.
pub record IsReached (before : Keeping) (touched : List Property) (rows : List CacheEntry) : Type 0 where
  pub gone : AreLetGo before touched rows
  pub unread : (q : Property) (kept : EvalResult) → kept_of rows q ≡ Some kept → All (λ read. among read touched ≡ false) kept.reads

-- Nothing that has read this property has a cached result.
abbrev pub IsUnread : List Edge → List CacheEntry → Property → Type 0
IsUnread edges rows read = (reader : Property) → Contains edges (edge_of read reader) → kept_of rows reader ≡ None

-- Other properties were appended to these.
abbrev pub IsLonger : List Property → List Property → Type 0
IsLonger old new = (more : List Property) × (new ≡ old ++ more)

-- New results are kept of the properties that had none.
abbrev pub AreKeptToo : List CacheEntry → List CacheEntry → List CacheEntry → Type 0
AreKeptToo found old new = (q : Property) → kept_of new q ≡ kept_of (old ++ found) q
