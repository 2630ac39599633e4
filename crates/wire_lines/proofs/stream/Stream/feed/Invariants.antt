-- So far the lines that ended are answered.
use Rattle.std.proofs.Common.{◌≡◌, ◌++◌, length}
use Rattle.wire_lines.specs.Stream.{Fed}
use Rattle.wire_lines.specs.Feeding.{at}
use Rattle.server_world.specs.Server.{seen_as}
use Rattle.wire_lines.proofs.stream.Stream.feed.Given as goal

abbrev pub invariant-lines : goal.invariant-lines
invariant-lines g l = record {
  fed : Fed (at (g.W.Sink.held l.initial.writer) l.initial.self.lines (seen_as l.initial.server) (l.initial.self.begun ++ l.chunk))
      (at (g.W.Sink.held l.writer) l.self.lines (seen_as l.server) (l.self.begun ++ l.rest));
  failed : g.W.Sink.failures l.writer ≡ g.W.Sink.failures l.initial.writer;
  most : l.self.lines.most ≡ l.initial.self.lines.most;
}

abbrev pub decreases-lines : goal.decreases-lines
decreases-lines g l = length l.rest
