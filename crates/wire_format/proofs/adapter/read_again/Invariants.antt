-- A read that failed consumes nothing.
use Rattle.std.specs.Io.KnownBytes.{Keeps}
use Rattle.wire_format.proofs.adapter.read_again.Given as goal

abbrev pub invariant-again : goal.invariant-again
invariant-again g l = Keeps (g.R.Read.remaining l.initial.device) (g.R.Read.remaining l.device)
