use Rattle.property_store.specs.Marks.{marks_at}
use Rattle.property_store.specs.Pending.{AreMore, IsDrained, both}
use Rattle.property_store.proofs.PendingLemmas.{left}
use Rattle.property_store.proofs.pending.Pending.drain.Given as goal

abbrev pub invariant-marks : goal.invariant-marks
invariant-marks l = record {
  stores : IsDrained l.place l.initial.stores l.stores;
  more : AreMore (both (marks_at l.initial.stores.marks l.place) l.initial.self) (both (marks_at l.stores.marks l.place) l.self);
}

abbrev pub decreases-marks : goal.decreases-marks
decreases-marks l = left (marks_at l.stores.marks l.place)
