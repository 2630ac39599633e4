use Rattle.binding_values.proofs.SortedLemmas.{counted, gap_counted}
use Rattle.binding_values.proofs.sorted.count_before.Goals as goal

pub returns-in-Ok : goal.returns-in-Ok
returns-in-Ok g c = counted c.in-Ok.ensures.row c.requires

pub returns-in-Err : goal.returns-in-Err
returns-in-Err g c = gap_counted c.in-Err.ensures.gap
