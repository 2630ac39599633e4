-- Two tables of the same places, seen as one.
use Rattle.std.specs.Prelude.{List, [], ◌∷◌, min}
use Rattle.shared_rows.specs.Table.{Table}

module _ {P Q T : Type 0} (join : P → Q → T) where
  -- The pairs of the values at each place.
  abbrev pub paired : List P → List Q → List T
  paired (first ∷ firsts) (second ∷ seconds) = join first second ∷ paired firsts seconds
  paired [] seconds = []
  paired (first ∷ firsts) [] = []

  -- The table of pairs. As many places can be opened without memory as in both tables.
  abbrev pub paired_tables : Table P → Table Q → Table T
  paired_tables first second = record { places = paired first.places second.places; room = min first.room second.room }
