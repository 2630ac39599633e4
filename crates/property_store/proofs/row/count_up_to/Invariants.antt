use Rattle.std.proofs.Common.{◌-◌}
use Rattle.shared_rows.specs.Rows.{rows_at}
use Rattle.property_store.proofs.SearchLemmas.{IsSearched}
use Rattle.property_store.proofs.row.count_up_to.Given as goal

abbrev pub invariant-loop-low : goal.invariant-loop-low
invariant-loop-low l = IsSearched (rows_at l.rows l.place) l.last l.low l.high

abbrev pub decreases-loop-low : goal.decreases-loop-low
decreases-loop-low l = l.high - l.low
