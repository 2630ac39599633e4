-- Changes of a forest.
use Rattle.std.specs.Prelude.{ℕ, ◌+◌, Bool, true, false, not, List, [], ◌∷◌, ◌++◌, Option, Some, None, map, filter, if◌then◌else◌}
use Rattle.object_tree.specs.declared.row.Row.{Row}
use Rattle.object_tree.specs.Rows.{has_number, has_parent}
use Rattle.object_tree.specs.Forest.{Forest}
use Rattle.object_tree.specs.Refusing.{keeps_parent}

-- The rows, with the row of one object changed.
abbrev pub changed : (Row → Row) → ℕ → List Row → List Row
changed change number rows = map (λ row. if has_number number row then change row else row) rows

-- The forest with another object, which has the greatest number and is the youngest.
unfoldable pub added : Forest → Option ℕ → ℕ → Forest
added forest parent class = record {
  rows = forest.rows
      ++ record { number = forest.last_number + 1; class = class; parent = parent; stamp = forest.last_stamp + 1; dying = false; blocked = false } ∷
      [];
  last_number = forest.last_number + 1;
  last_stamp = forest.last_stamp + 1;
}

-- The forest in which an object is the last child of another parent.
unfoldable pub moved : Forest → ℕ → Option ℕ → Forest
moved forest object parent = record {
  rows = changed (λ row. record row { parent = parent; stamp = forest.last_stamp + 1 }) object forest.rows;
  last_number = forest.last_number;
  last_stamp = forest.last_stamp + 1;
}

-- The forest in which an object has this parent. Nothing changes if it has it already.
abbrev pub reparented : Forest → ℕ → Option ℕ → Forest
reparented forest object parent = if keeps_parent forest.rows object parent then forest else moved forest object parent

-- The forest in which an object is dying.
unfoldable pub marked : Forest → ℕ → Forest
marked forest object = record forest { rows = changed (λ row. record row { dying = true }) object forest.rows }

-- The forest in which an object's signals are blocked, or not.
unfoldable pub with_blocked : Forest → ℕ → Bool → Forest
with_blocked forest object on = record forest { rows = changed (λ row. record row { blocked = on }) object forest.rows }

-- The row of an object after the removal of another one: a child of that becomes a root, and keeps its stamp.
abbrev pub orphaned : ℕ → Row → Row
orphaned object row = if has_parent (Some object) row then record row { parent = None } else row

-- The forest without an object.
unfoldable pub removed : Forest → ℕ → Forest
removed forest object = record forest { rows = map (orphaned object) (filter (λ row. not (has_number object row)) forest.rows) }
