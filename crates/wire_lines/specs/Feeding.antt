-- The point that the code of a run has reached.
use Rattle.std.specs.Prelude.{ℕ, List, Option}
use Rattle.wire_lines.specs.declared.lines.Lines.{Lines}
use Rattle.wire_lines.specs.Sending.{out}
use Rattle.wire_lines.specs.Stream.{Point}
use Rattle.server_world.specs.Server.{Server}

-- The point of a run, from what the sink has taken, the lines so far, the server, and the bytes that are not answered
-- yet.
abbrev pub at : Option (List ℕ) → Lines → Server → List ℕ → Point
at held lines server begun = record { server = server; out = out held lines.output.gathered; lines = lines.count; begun = begun }
