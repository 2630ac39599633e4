use Rattle.std.proofs.Common.{◌≡◌, ◌+◌, ◌-◌, ◌≤◌, All, length, take}
use Rattle.binding_values.specs.EvalResult.{kept_of}
use Rattle.binding_values.specs.Keeping.{entries, standing}
use Rattle.binding_values.specs.Reached.{AreLetGo, IsLonger, IsUnread}
use Rattle.binding_values.proofs.kept_index.spread.Given as goal

abbrev pub invariant-loop-at : goal.invariant-loop-at
invariant-loop-at l = record {
  within : l.at ≤ length l.touched.items;
  gone : AreLetGo (kept_of (standing l.fn.rows)) l.touched.items (standing l.rows);
  same : entries l.rows ≡ entries l.fn.rows;
  unread : All (IsUnread l.readers (standing l.rows)) (take l.at l.touched.items);
  longer : IsLonger l.fn.touched.items l.touched.items;
}

abbrev pub decreases-loop-at : goal.decreases-loop-at
decreases-loop-at l = length (standing l.rows) + (length l.touched.items - l.at)
