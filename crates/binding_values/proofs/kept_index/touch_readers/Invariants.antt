use Rattle.std.proofs.Common.{◌-◌, length}
use Rattle.binding_values.proofs.ReachedLemmas.{AreTouched}
use Rattle.binding_values.proofs.kept_index.touch_readers.Given as goal

abbrev pub invariant-readers : goal.invariant-readers
invariant-readers l = AreTouched l.readers l.read l.initial.rows l.rows l.initial.touched.items l.touched.items l.at

abbrev pub decreases-readers : goal.decreases-readers
decreases-readers l = length l.readers - l.at
