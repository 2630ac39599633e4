-- How the desks are stored and found. No public clause cites this module.
use Rattle.std.specs.Prelude.{ℕ, ◌==◌, not, filter, remove, Option, Some, None}
use Rattle.std.specs.declared.alloc.Global.{Global}
use Rattle.std.specs.declared.boxed.Box.{Box}
use Rattle.publish_board.specs.declared.rows.Rows.{Rows}
use Rattle.publish_board.specs.Desk.{Desk, no_desk}

abbrev pub desk_in : Rows → Desk
desk_in rows = record { publications = rows.publications.items; joins = rows.joins.items }

-- The desk of these rows; an empty one if there are none.
abbrev pub desk_of : Option (Box Rows Global) → Desk
desk_of None = no_desk
desk_of (Some rows) = desk_in rows.value

-- The desk without the join at a position.
abbrev pub without_join : ℕ → Desk → Desk
without_join position desk = record desk { joins = remove desk.joins position }

-- The desk without what an object publishes.
abbrev pub without_publications : ℕ → Desk → Desk
without_publications object desk = record desk { publications = filter (λ row. not (row.object == object)) desk.publications }
