-- Objects by number, and the children of an object.
use Rattle.std.specs.Prelude.{ℕ, ◌==◌, Bool, List, [], ◌∷◌, Option, map, filter, find, is_some, nat_lt, if◌then◌else◌}
use Rattle.std.specs.Option.{option_and_then, option_eq}
use Rattle.object_tree.specs.declared.row.Row.{Row}

abbrev pub has_number : ℕ → Row → Bool
has_number number row = row.number == number

-- The row of an object.
abbrev pub row_of : List Row → ℕ → Option Row
row_of rows number = find (has_number number) rows

-- Whether there is such an object.
abbrev pub is_there : List Row → ℕ → Bool
is_there rows number = is_some (row_of rows number)

-- The parent of an object, if it has one.
abbrev pub parent_of : List Row → ℕ → Option ℕ
parent_of rows number = option_and_then (λ row. row.parent) (row_of rows number)

-- Whether two parents are the same, or both absent.
abbrev pub is_same : Option ℕ → Option ℕ → Bool
is_same a b = option_eq (λ x y. x == y) a b

abbrev pub has_parent : Option ℕ → Row → Bool
has_parent parent row = is_same row.parent parent

abbrev pub numbers : List Row → List ℕ
numbers rows = map (λ row. row.number) rows

abbrev pub stamps : List Row → List ℕ
stamps rows = map (λ row. row.stamp) rows

-- The rows with another one, before those with greater stamps.
abbrev pub inserted : Row → List Row → List Row
inserted row [] = row ∷ []
inserted row (first ∷ rest) = if nat_lt row.stamp first.stamp then row ∷ first ∷ rest else first ∷ inserted row rest

-- The rows by ascending stamp.
abbrev pub by_stamp : List Row → List Row
by_stamp [] = []
by_stamp (row ∷ rest) = inserted row (by_stamp rest)

-- The children of a parent, by age. Without a parent, the roots.
unfoldable pub children : List Row → Option ℕ → List ℕ
children rows parent = numbers (by_stamp (filter (has_parent parent) rows))
