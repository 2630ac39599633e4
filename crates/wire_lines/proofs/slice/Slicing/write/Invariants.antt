-- So far the lines before this number are sent.
use Rattle.std.proofs.Common.{◌≡◌, take}
use Rattle.std.specs.List.{flat_map}
use Rattle.wire_lines.specs.Sending.{Sent, out}
use Rattle.wire_lines.specs.Taking.{numbered}
use Rattle.wire_lines.proofs.slice.Slicing.write.Given as goal

abbrev pub invariant-loop-number : goal.invariant-loop-number
invariant-loop-number g l = record {
  sent : Sent (out (g.W.Sink.held l.initial.writer) l.initial.buffer) (out (g.W.Sink.held l.writer) l.buffer)
      (flat_map (numbered l.input l.self.starts.items) (take l.number-index l.numbers));
  counted : g.W.Sink.failures l.writer ≡ g.W.Sink.failures l.initial.writer;
}
