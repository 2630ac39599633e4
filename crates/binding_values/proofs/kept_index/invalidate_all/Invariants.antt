use Rattle.std.proofs.Common.{◌≡◌, take}
use Rattle.binding_values.specs.EvalResult.{kept_of}
use Rattle.binding_values.specs.Keeping.{entries, standing}
use Rattle.binding_values.specs.Reached.{AreLetGo}
use Rattle.binding_values.proofs.kept_index.invalidate_all.Given as goal

abbrev pub invariant-loop-at : goal.invariant-loop-at
invariant-loop-at l = record {
  gone : AreLetGo (kept_of (standing l.initial.rows)) (take l.at-index l.touched) (standing l.rows);
  same : entries l.rows ≡ entries l.initial.rows;
}
