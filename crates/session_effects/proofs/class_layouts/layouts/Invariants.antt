use Rattle.std.proofs.Common.{◌≡◌, ◌<◌, ℕ, length}
use Rattle.property_store.specs.Store.{fields_in}
use Rattle.session_model.specs.State.{fields_of}
use Rattle.session_effects.proofs.class_layouts.layouts.Given as goal

abbrev pub invariant-loop-class : goal.invariant-loop-class
invariant-loop-class l = record {
  length : length l.layouts ≡ l.class;
  each : (class : ℕ) → class < l.class → fields_in l.layouts class ≡ fields_of l.classes class;
}
