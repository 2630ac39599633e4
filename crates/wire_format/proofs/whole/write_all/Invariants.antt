-- So far the sink took the bytes before `taken`, and did not fail.
use Rattle.std.proofs.Common.{◌≡◌, ◌≤◌, ◌-◌, length, take}
use Rattle.std.specs.Io.KnownBytes.{Appends}
use Rattle.wire_format.proofs.whole.write_all.Given as goal

abbrev pub invariant-loop-taken : goal.invariant-loop-taken
invariant-loop-taken g l = record {
  in_range : l.taken ≤ length l.bytes;
  bytes : Appends (g.W.Sink.held l.initial.sink) (g.W.Sink.held l.sink) (take l.taken l.bytes);
  failures : g.W.Sink.failures l.sink ≡ g.W.Sink.failures l.initial.sink;
}

abbrev pub decreases-loop-taken : goal.decreases-loop-taken
decreases-loop-taken g l = length l.bytes - l.taken
