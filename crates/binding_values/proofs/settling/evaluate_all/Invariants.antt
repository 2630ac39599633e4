use Rattle.std.proofs.Common.{All, take}
use Rattle.property_store.specs.Table.{store_at}
use Rattle.binding_values.specs.EvalResult.{IsClosed, IsRight, IsWithin, kept_of}
use Rattle.binding_values.specs.Run.{IsSettled}
use Rattle.binding_values.specs.Stored.{scene_of}
use Rattle.binding_values.proofs.settling.evaluate_all.Given as goal

abbrev pub invariant-loop-at : goal.invariant-loop-at
invariant-loop-at l = record {
  right : IsRight (scene_of (store_at l.stores.shelves l.place) l.bindings) (kept_of l.memory);
  closed : IsClosed (scene_of (store_at l.stores.shelves l.place) l.bindings) (kept_of l.memory);
  within : IsWithin (kept_of l.initial.memory) (kept_of l.memory);
  settled : All (IsSettled (scene_of (store_at l.stores.shelves l.place) l.bindings) (kept_of l.memory)) (take l.at-index l.touched);
}
