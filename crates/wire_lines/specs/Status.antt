-- How the end of a run is reported.
use Rattle.std.specs.Prelude.{ℕ, List, codes, Option, Some, None, Result, Ok, Err}
use Rattle.wire_lines.specs.declared.stream.Summary.{Summary}
use Rattle.wire_lines.specs.declared.fault.RunFault.{RunFault}
use Rattle.wire_lines.specs.declared.fault.RunFault.TheVariants.{Read, Write, Endless, Memory}

-- The exit status.
abbrev pub status_for : Result Summary RunFault → ℕ
status_for (Ok summary) = 0
status_for (Err Read) = 3
status_for (Err Endless) = 3
status_for (Err Write) = 4
status_for (Err Memory) = 5

-- The message on standard error.
abbrev pub complaint_for : Result Summary RunFault → Option (List ℕ)
complaint_for (Ok summary) = None
complaint_for (Err Read) = Some (codes "metad: read fault")
complaint_for (Err Endless) = Some (codes "metad: read fault")
complaint_for (Err Write) = Some (codes "metad: write fault")
complaint_for (Err Memory) = Some (codes "metad: out of memory")
