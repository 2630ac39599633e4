-- An object and its ancestors, and the levels below it.
use Rattle.std.specs.Prelude.{ℕ, suc, zero, ◌==◌, ◌+◌, Bool, List, [], ◌∷◌, Option, length, map, filter, max}
use Rattle.std.specs.List.{list_any}
use Rattle.std.specs.Option.{option_map_or}
use Rattle.object_tree.specs.declared.row.Row.{Row}
use Rattle.object_tree.specs.Rows.{has_parent, parent_of}
use Rattle.std.specs.Prelude.{Some}

-- A number, the one to which `up` leads from it, and so on, but at most this many.
abbrev pub walk : (ℕ → Option ℕ) → ℕ → ℕ → List ℕ
walk up zero number = []
walk up (suc most) number = number ∷ option_map_or (walk up most) (up number) []

-- The object and its ancestors up to a root, at most as many as there are objects.
unfoldable pub line : List Row → ℕ → List ℕ
line rows number = walk (parent_of rows) (length rows) number

-- The line of a parent; empty if there is none.
abbrev pub line_at : List Row → Option ℕ → List ℕ
line_at rows parent = option_map_or (line rows) parent []

-- The level of an object. A root has level 1.
abbrev pub depth : List Row → ℕ → ℕ
depth rows number = length (line rows number)

-- The level of a parent; 0 if there is none.
abbrev pub depth_at : List Row → Option ℕ → ℕ
depth_at rows parent = length (line_at rows parent)

-- Whether an object is another one or below it.
abbrev pub is_below : List Row → ℕ → ℕ → Bool
is_below rows base number = list_any (λ above. base == above) (line rows number)

-- The greatest of some numbers.
abbrev pub greatest : List ℕ → ℕ
greatest [] = 0
greatest (n ∷ rest) = max n (greatest rest)

-- The number of levels of an object and what is below it, counted up to this many.
abbrev pub levels_within : ℕ → List Row → ℕ → ℕ
levels_within zero rows number = 0
levels_within (suc most) rows number = 1 + greatest (map (λ row. levels_within most rows row.number) (filter (has_parent (Some number)) rows))

-- The number of levels of an object and what is below it: 1 for an object without children.
unfoldable pub height : List Row → ℕ → ℕ
height rows number = levels_within (length rows) rows number
