use Rattle.std.proofs.Common.{Bool, ◌+◌, ◌≤◌, ◌<◌, length}
use Rattle.std.specs.Fn.{ComputesKey}
use denote.Param.Always.{always_mut}
use Rattle.shared_rows.specs.Gap.{listed}
use Rattle.shared_rows.proofs.SearchLemmas.{Halved}
use Rattle.shared_rows.proofs.search.point.Given as goal

abbrev pub invariant-halves : goal.invariant-halves
invariant-halves g l = record {
  some : 0 < l.size;
  within : l.base + l.size ≤ length (listed l.places.items l.gap);
  callable : always_mut g.P.FnMut l.pred;
  halved : (p : g.row.T.Denot → Bool) → ComputesKey g.P.FnMut p l.initial.pred
      → ComputesKey g.P.FnMut p l.pred × Halved p (listed l.places.items l.gap) l.base l.size;
}

abbrev pub decreases-halves : goal.decreases-halves
decreases-halves g l = l.size
