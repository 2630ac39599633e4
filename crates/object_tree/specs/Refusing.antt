-- Why a new object, or a new parent, is refused: the first reason that applies.
use Rattle.std.specs.Prelude.{ℕ, ◌+◌, ◌-◌, ◌^◌, ◌||◌, Bool, Option, Some, None, List, length, nat_le, nat_lt, if◌then◌else◌}
use Rattle.std.specs.Option.{option_map_or, option_or}
use Rattle.plain_types.specs.declared.code.Code.{Code}
use Rattle.plain_types.specs.declared.code.Code.TheVariants.{NoSuchObject, Dying, Cycle, Limit, NumbersUsedUp}
use Rattle.object_tree.specs.declared.row.Row.{Row}
use Rattle.object_tree.specs.declared.row.TheConstants.{OBJECTS, DEPTH}
use Rattle.object_tree.specs.Rows.{row_of, parent_of, is_same}
use Rattle.object_tree.specs.Lines.{depth_at, height, is_below}
use Rattle.object_tree.specs.Forest.{Forest}

-- The object does not exist, or is dying.
abbrev pub object_refusal : List Row → ℕ → Option Code
object_refusal rows number = option_map_or (λ row. if row.dying then Some Dying else None) (row_of rows number) (Some NoSuchObject)

-- The parent, if one is given, does not exist, or is dying.
abbrev pub parent_refusal : List Row → Option ℕ → Option Code
parent_refusal rows parent = option_map_or (object_refusal rows) parent None

-- There is no room for another object, or none below this parent.
abbrev pub room_refusal : List Row → Option ℕ → Option Code
room_refusal rows parent = if nat_le OBJECTS (length rows) || nat_le DEPTH (depth_at rows parent) then Some Limit else None

abbrev pub number_refusal : ℕ → Option Code
number_refusal last = if nat_le (2 ^ 32 - 1) last then Some NumbersUsedUp else None

abbrev pub stamp_refusal : ℕ → Option Code
stamp_refusal last = if nat_le (2 ^ 64 - 1) last then Some NumbersUsedUp else None

-- Why no object can be added below this parent.
unfoldable pub add_refusal : Forest → Option ℕ → Option Code
add_refusal forest parent =
    option_or (parent_refusal forest.rows parent) (
    option_or (room_refusal forest.rows parent) (
    option_or (number_refusal forest.last_number)
    (stamp_refusal forest.last_stamp)))

-- The parent is the object or below it.
abbrev pub cycle_refusal : List Row → ℕ → Option ℕ → Option Code
cycle_refusal rows object parent = option_map_or (λ number. if is_below rows object number then Some Cycle else None) parent None

-- What is below the object would be too deep below this parent.
abbrev pub depth_refusal : List Row → ℕ → Option ℕ → Option Code
depth_refusal rows object parent = if nat_lt DEPTH (depth_at rows parent + height rows object) then Some Limit else None

-- Why an object cannot move below another parent than it has.
unfoldable pub move_refusal : Forest → ℕ → Option ℕ → Option Code
move_refusal forest object parent =
    option_or (cycle_refusal forest.rows object parent) (
    option_or (depth_refusal forest.rows object parent)
    (stamp_refusal forest.last_stamp))

-- Whether the object has this parent.
abbrev pub keeps_parent : List Row → ℕ → Option ℕ → Bool
keeps_parent rows object parent = is_same (parent_of rows object) parent

-- Why an object cannot have this parent. Nothing is refused if it has it already.
unfoldable pub set_parent_refusal : Forest → ℕ → Option ℕ → Option Code
set_parent_refusal forest object parent =
    option_or (object_refusal forest.rows object) (
    option_or (parent_refusal forest.rows parent)
    (if keeps_parent forest.rows object parent then None else move_refusal forest object parent))
