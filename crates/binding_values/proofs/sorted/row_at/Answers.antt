use Rattle.std.proofs.Common.{◌∙◌, Some, ap, sym}
use Rattle.binding_values.proofs.SortedLemmas.{found_none, found_row}
use Rattle.binding_values.proofs.sorted.row_at.Goals as goal

pub returns-in-Ok : goal.returns-in-Ok
returns-in-Ok g c = ap Some c.index-rows-place.is ∙ sym (found_row c.in-Ok.ensures.row c.requires c.index-rows-place.result)

pub returns-in-Err : goal.returns-in-Err
returns-in-Err g c = sym (found_none c.in-Err.ensures.gap)
