-- Objects that do not exist.
use Rattle.std.specs.Prelude.{ℕ, Option, Some, None, if◌then◌else◌}
use Rattle.std.specs.Option.{option_map_or}
use Rattle.plain_types.specs.declared.code.Code.{Code}
use Rattle.plain_types.specs.declared.code.Code.TheVariants.{NoSuchObject}
use Rattle.object_tree.specs.Rows.{is_there}
use Rattle.session_model.specs.State.{State}

-- The refusal if the object does not exist.
abbrev pub absence : State → ℕ → Option Code
absence state target = if is_there state.forest.rows target then None else Some NoSuchObject

-- The refusal if an object is named and does not exist.
abbrev pub named_absence : State → Option ℕ → Option Code
named_absence state target = option_map_or (absence state) target None
