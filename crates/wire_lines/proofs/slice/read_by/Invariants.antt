-- So far each read gave some bytes, which are kept.
use Rattle.std.proofs.Common.{◌≡◌, ◌<◌, ◌≤◌, ◌+◌, length, min}
use Rattle.std.specs.Io.KnownBytes.{Consumes}
use Rattle.wire_format.specs.Counts.{greatest_count}
use Rattle.wire_lines.proofs.slice.read_by.Given as goal

abbrev pub invariant-reads : goal.invariant-reads
invariant-reads g l = record {
  consumed : Consumes (g.R.Source.left l.initial.reader) (g.R.Source.left l.reader) l.bytes.items;
  asked : g.R.Source.calls l.reader ≤ g.R.Source.calls l.initial.reader + l._reads;
  counted : min (g.R.Source.calls l.reader) greatest_count ≡ min (g.R.Source.calls l.initial.reader + l._reads) greatest_count;
  gave : min (g.R.Source.gave l.reader) greatest_count ≡ min (g.R.Source.gave l.initial.reader + l._reads) greatest_count;
  enough : l._reads ≤ length l.bytes.items;
  room : 0 < length l.chunk;
  failed : g.R.Source.failures l.reader ≡ g.R.Source.failures l.initial.reader;
}
