-- So far the lines before this one are said.
use Rattle.std.proofs.Common.{◌≡◌, take}
use Rattle.std.specs.List.{flat_map}
use Rattle.wire_format.specs.Text.{text_of_line}
use Rattle.wire_lines.specs.Sending.{Sent, out}
use Rattle.wire_lines.proofs.output.Output.say_lines.Given as goal

abbrev pub invariant-loop-line : goal.invariant-loop-line
invariant-loop-line g l = record {
  said : Sent (out (g.W.Sink.held l.initial.writer) l.initial.self.gathered) (out (g.W.Sink.held l.writer) l.self.gathered)
      (flat_map (text_of_line l.session) (take l.line-index l.lines));
  failed : g.W.Sink.failures l.writer ≡ g.W.Sink.failures l.initial.writer;
}
