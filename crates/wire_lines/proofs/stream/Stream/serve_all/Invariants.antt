-- So far each read gave some bytes, and the lines that ended in them are answered.
use Rattle.std.proofs.Common.{◌≡◌, ◌≤◌, ◌+◌, ◌++◌, ℕ, List, length, min}
use Rattle.std.specs.Io.KnownBytes.{Consumes}
use Rattle.wire_format.specs.Counts.{greatest_count}
use Rattle.wire_lines.specs.Stream.{Fed}
use Rattle.wire_lines.specs.Feeding.{at}
use Rattle.server_world.specs.Server.{seen_as}
use Rattle.wire_lines.proofs.stream.Stream.serve_all.Given as goal

abbrev pub invariant-reads : goal.invariant-reads
invariant-reads g l = (bytes : List ℕ) × record {
  consumed : Consumes (g.R.Source.left l.initial.reader) (g.R.Source.left l.reader) bytes;
  asked : g.R.Source.calls l.reader ≤ g.R.Source.calls l.initial.reader + l._reads;
  counted : min (g.R.Source.calls l.reader) greatest_count ≡ min (g.R.Source.calls l.initial.reader + l._reads) greatest_count;
  gave : min (g.R.Source.gave l.reader) greatest_count ≡ min (g.R.Source.gave l.initial.reader + l._reads) greatest_count;
  enough : l._reads ≤ length bytes;
  fed : Fed (at (g.W.Sink.held l.initial.writer) l.initial.self.lines (seen_as l.initial.server) (l.initial.self.begun ++ bytes))
      (at (g.W.Sink.held l.writer) l.self.lines (seen_as l.server) l.self.begun);
  most : l.self.lines.most ≡ l.initial.self.lines.most;
  read_fails : g.R.Source.failures l.reader ≡ g.R.Source.failures l.initial.reader;
  write_fails : g.W.Sink.failures l.writer ≡ g.W.Sink.failures l.initial.writer;
}
