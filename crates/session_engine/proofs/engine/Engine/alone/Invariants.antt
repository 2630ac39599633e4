use Rattle.std.proofs.Common.{◌≡◌, ℕ, List, Some, map, take}
use Rattle.session_engine.proofs.Common.{place, seen_by_name, HaveCome, item_of}
use Rattle.session_engine.specs.Core.{KeepsPlaces}
use Rattle.session_engine.proofs.engine.Engine.alone.Given as goal

abbrev pub invariant-items : goal.invariant-items
invariant-items g l = record {
  come : (name : List ℕ) → place l.initial.self.core name ≡ Some l.at
      → HaveCome (seen_by_name l.initial.self.core) (seen_by_name l.self.core) name (map item_of (take l.item-index l.items)) (Some l.told);
  places : KeepsPlaces l.initial.self.core l.self.core l.at;
}
