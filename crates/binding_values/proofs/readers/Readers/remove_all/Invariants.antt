use Rattle.binding_values.specs.Readers.{AreFewer}
use Rattle.binding_values.proofs.readers.Readers.remove_all.Given as goal

abbrev pub invariant-loop-read : goal.invariant-loop-read
invariant-loop-read l = AreFewer l.reader l.initial.self l.self
