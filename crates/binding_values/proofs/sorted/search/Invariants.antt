use Rattle.std.proofs.Common.{◌-◌}
use Rattle.binding_values.proofs.SortedLemmas.{IsSearched}
use Rattle.binding_values.proofs.sorted.search.Given as goal

abbrev pub invariant-loop-low : goal.invariant-loop-low
invariant-loop-low g l = IsSearched g.T.HasProperty.at l.rows l.at l.low l.high

abbrev pub decreases-loop-low : goal.decreases-loop-low
decreases-loop-low g l = l.high - l.low
