-- A write that failed appends nothing.
use Rattle.std.specs.Io.KnownBytes.{Keeps}
use Rattle.wire_format.proofs.adapter.write_again.Given as goal

abbrev pub invariant-again : goal.invariant-again
invariant-again g l = Keeps (g.W.Write.contents l.initial.device) (g.W.Write.contents l.device)
