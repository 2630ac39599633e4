use Rattle.std.proofs.Common.{◌≡◌, ◌≢◌, ℕ, length}
use Rattle.property_store.specs.Marks.{marks_at}
use Rattle.property_store.proofs.stores.Stores.take_all.Given as goal

abbrev pub invariant-marks : goal.invariant-marks
invariant-marks l = record {
  shelves : l.self.shelves ≡ l.initial.self.shelves;
  others : (other : ℕ) → other ≢ l.place
      → marks_at l.self.marks other ≡ marks_at l.initial.self.marks other;
}

abbrev pub decreases-marks : goal.decreases-marks
decreases-marks l = length (marks_at l.self.marks l.place).each
