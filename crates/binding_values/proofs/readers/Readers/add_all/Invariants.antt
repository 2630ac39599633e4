use Rattle.std.proofs.Common.{All, Contains, take}
use Rattle.binding_values.specs.Readers.{AreAmong, edge_of}
use Rattle.binding_values.proofs.readers.Readers.add_all.Given as goal

abbrev pub invariant-loop-read : goal.invariant-loop-read
invariant-loop-read l = record {
  added : All (λ read. Contains l.self (edge_of read l.reader)) (take l.read-index l.reads);
  more : AreAmong l.initial.self l.self;
}
