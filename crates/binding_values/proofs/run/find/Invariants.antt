use Rattle.std.proofs.Common.{◌≡◌, IsSome}
use Rattle.property_store.specs.Table.{store_at}
use Rattle.binding_values.specs.EvalResult.{IsClosed, IsRight, IsUnbound, IsWithin, kept_of}
use Rattle.binding_values.specs.Run.{IsRunning, bottom, work}
use Rattle.binding_values.specs.Scene.{term_at}
use Rattle.binding_values.specs.Stored.{scene_of}
use Rattle.binding_values.proofs.run.find.Given as goal

abbrev pub invariant-steps : goal.invariant-steps
invariant-steps l = record {
  right : IsRight (scene_of (store_at l.stores.shelves l.place) l.bindings) (kept_of l.done);
  closed : IsClosed (scene_of (store_at l.stores.shelves l.place) l.bindings) (kept_of l.done);
  running : IsSome (term_at (scene_of (store_at l.stores.shelves l.place) l.bindings).bindings l.top)
      → IsRunning (scene_of (store_at l.stores.shelves l.place) l.bindings) l.done l.below.items l.top;
  unbound : IsUnbound (scene_of (store_at l.stores.shelves l.place) l.bindings) l.top → l.top ≡ l.fn.start;
  within : IsWithin (kept_of l.initial.done) (kept_of l.done);
  start : bottom l.below.items l.top ≡ l.fn.start;
}

abbrev pub decreases-steps : goal.decreases-steps
decreases-steps l = work (scene_of (store_at l.stores.shelves l.place) l.bindings) l.done l.below.items l.top
