use Rattle.std.proofs.Common.{sym, subst}
use Rattle.binding_values.specs.Readers.{AreFewer}
use Rattle.binding_values.proofs.ReaderLemmas.{edge_gone, fewer_then}
use Rattle.binding_values.proofs.readers.Readers.remove_all.Goals as goal

pub loop-read-preserved : goal.loop-read-preserved
loop-read-preserved c = subst (AreFewer c.args.reader c.args.self.now) (sym c.remove.ensures)
    (fewer_then c.args.reader c.args.self.now c.loop-read.self _ c.loop-read.invariant (edge_gone c.loop-read.self _ c.args.reader))
