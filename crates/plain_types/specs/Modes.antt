-- Connection types by their names.
use Rattle.std.specs.Prelude.{ℕ, List, Option, Some, None, bytes_eq, codes, if◌then◌else◌}
use Rattle.plain_types.specs.declared.connection_type.ConnectionType.{ConnectionType}
use Rattle.plain_types.specs.declared.connection_type.ConnectionType.TheVariants.{Auto, Direct, Queued}

abbrev pub mode_named : List ℕ → Option ConnectionType
mode_named name =
    if bytes_eq name (codes "auto") then Some Auto
    else (if bytes_eq name (codes "direct") then Some Direct
    else (if bytes_eq name (codes "queued") then Some Queued else None))
