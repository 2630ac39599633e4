use Rattle.std.proofs.Common.{◌≡◌, ◌+◌, length, take}
use Rattle.std.specs.Vec.{vec_capacity}
use Rattle.shared_rows.proofs.gap.opened.Given as goal

abbrev pub invariant-copies : goal.invariant-copies
invariant-copies g l = record {
  items : take l.len l.places.items ≡ l.initial.places.items;
  count : length l.places.items ≡ l.len + l.copy;
  capacity : vec_capacity l.places ≡ vec_capacity l.initial.places;
}
