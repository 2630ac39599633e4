use Rattle.std.proofs.Common.{arith}
use Rattle.std.proofs.lemmas.Grind.{common_steps}
use Rattle.json_reading.proofs.scalar.scan_scalar.Goals as goal

pub slice_bounds-scan_word-count : goal.slice_bounds-scan_word-count
slice_bounds-scan_word-count c = grind (arith, common_steps)

pub slice_bounds-scan_word-start : goal.slice_bounds-scan_word-start
slice_bounds-scan_word-start c = grind (arith, common_steps)

pub slice_bounds-scan_number-count : goal.slice_bounds-scan_number-count
slice_bounds-scan_number-count c = grind (arith, common_steps)

pub slice_bounds-scan_number-start : goal.slice_bounds-scan_number-start
slice_bounds-scan_number-start c = grind (arith, common_steps)

pub returns-in_ok-word-in-116 : goal.returns-in_ok-word-in-116
returns-in_ok-word-in-116 c = grind (arith, common_steps)

pub returns-in_ok-number-in-48-to-57 : goal.returns-in_ok-number-in-48-to-57
returns-in_ok-number-in-48-to-57 c = grind (arith, common_steps)
