-- So far the bytes are what the source gave, and it did not fail; if none of its reads fails, none will.
use Rattle.std.proofs.Common.{◌≡◌, ◌≤◌, ◌-◌, length, true}
use Rattle.std.specs.Io.KnownBytes.{Consumes}
use Rattle.command_line.proofs.class_file.read_at_most.Given as goal

abbrev pub invariant-chunks : goal.invariant-chunks
invariant-chunks g l = record {
  few : length l.bytes.items ≤ l.most;
  consumed : Consumes (g.S.Source.left l.initial.source) (g.S.Source.left l.source) l.bytes.items;
  failures : g.S.Source.failures l.source ≡ g.S.Source.failures l.initial.source;
  sure : g.S.Source.infallible l.initial.source ≡ true → g.S.Source.infallible l.source ≡ true;
}

abbrev pub decreases-chunks : goal.decreases-chunks
decreases-chunks g l = l.most - length l.bytes.items
