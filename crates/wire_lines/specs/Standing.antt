-- The point that the code of a run for a slice has reached.
use Rattle.wire_lines.specs.declared.slice.Slicing.{Slicing}
use Rattle.wire_lines.specs.Taking.{Noted}
use Rattle.server_world.specs.Server.{Server}

-- The notes so far, with the server.
abbrev pub noted : Slicing → Server → Noted
noted slicing server = record { server = server; notes = slicing.notes; starts = slicing.starts.items }
