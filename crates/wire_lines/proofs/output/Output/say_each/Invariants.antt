-- So far the parts before this one are sent.
use Rattle.std.proofs.Common.{◌≡◌, take}
use Rattle.std.specs.List.{flat_map}
use Rattle.wire_lines.specs.Sending.{Sent, out}
use Rattle.wire_lines.proofs.output.Output.say_each.Given as goal

abbrev pub invariant-loop-part : goal.invariant-loop-part
invariant-loop-part g l = record {
  said : Sent (out (g.W.Sink.held l.initial.writer) l.initial.self.gathered) (out (g.W.Sink.held l.writer) l.self.gathered)
      (flat_map (λ part. part.now) (take l.part-index l.part-items));
  counted : g.W.Sink.failures l.writer ≡ g.W.Sink.failures l.initial.writer;
}
