use Rattle.std.proofs.Common.{◌≡◌, ◌+◌, ◌-◌, ◌≤◌, length, drop}
use Rattle.std.specs.List.{prefix_len}
use Rattle.json.specs.Run.{is_plain}
use Rattle.json_reading.proofs.scalar.plain_end.Given as goal

abbrev pub invariant-chunks : goal.invariant-chunks
invariant-chunks l =
    (l.from + prefix_len is_plain (drop l.from l.bytes) ≡ l.end + prefix_len is_plain (drop l.end l.bytes)) × (l.from ≤ l.end) × (l.end ≤ length l.bytes)

abbrev pub decreases-chunks : goal.decreases-chunks
decreases-chunks l = length l.bytes - l.end
