-- The readers of each property. No public clause cites this module.
use Rattle.std.specs.Prelude.{◌≡◌, ◌<◌, ◌≤◌, ◌==◌, ◌&&◌, ◌||◌, ℕ, Bool, true, false, List, Contains, length, nat_lt, slice_index_or}
use Rattle.std.specs.List.Sorted.{IsPartitionPoint}
use Rattle.std.specs.Ordering.{nat_cmp, ordering_then}
use Rattle.std.specs.declared.cmp.Ordering.{Ordering}
use Rattle.property_store.specs.declared.property.Property.{Property}
use Rattle.property_store.specs.Property.{is_property}
use Rattle.binding_values.specs.declared.readers.Edge.{Edge}

abbrev pub edge_of : Property → Property → Edge
edge_of read reader = record { read_object = read.object; read_number = read.number; reader_object = reader.object; reader_number = reader.number }

-- Edges are ordered by the property that was read, then by the reader.
abbrev pub edge_cmp : Edge → Edge → Ordering
edge_cmp x y = ordering_then (nat_cmp x.read_object y.read_object) (ordering_then (nat_cmp x.read_number y.read_number)
    (ordering_then (nat_cmp x.reader_object y.reader_object) (nat_cmp x.reader_number y.reader_number)))

-- Each edge of the first list is in the second.
abbrev pub AreAmong : List Edge → List Edge → Type 0
AreAmong some more = (edge : Edge) → Contains some edge → Contains more edge

-- Whether an edge leads from a property that comes before this one.
abbrev pub is_ahead : Property → Edge → Bool
is_ahead read edge = nat_lt edge.read_object read.object || (edge.read_object == read.object && nat_lt edge.read_number read.number)

-- Whether an edge leads from this property.
abbrev pub leads_from : Property → Edge → Bool
leads_from read edge = edge.read_object == read.object && edge.read_number == read.number

-- The edges before this position lead from properties before this one, and the others do not.
abbrev pub IsStart : List Edge → Property → ℕ → Type 0
IsStart edges read = IsPartitionPoint (λ edge. is_ahead read edge ≡ true) (λ edge. is_ahead read edge ≡ false) edges

-- The edge at a position.
pub record IsEdgeAt (edges : List Edge) (at : ℕ) (edge : Edge) : Type 0 where
  pub within : at < length edges
  pub here : (default : Edge) → slice_index_or edges at default ≡ edge

-- Only edges to one reader were removed.
pub record AreFewer (reader : Property) (old new : List Edge) : Type 0 where
  pub within : AreAmong new old
  pub others : (read q : Property) → is_property reader q ≡ false → Contains old (edge_of read q) → Contains new (edge_of read q)
  pub few : length new ≤ length old
