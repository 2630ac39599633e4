use Rattle.std.proofs.Common.{◌≡◌, ◌<◌, ℕ, true}
use Rattle.property_store.specs.Marks.{is_marked}
use Rattle.binding_graph.specs.GraphAndCache.{StaysKept}
use Rattle.binding_graph.proofs.removal.forget_object.Given as goal

abbrev pub invariant-loop-number : goal.invariant-loop-number
invariant-loop-number l = record {
  last : is_marked l.pending (record { object = l.object; number = l.count }) ≡ true;
  marked : (number : ℕ) → number < l.number → is_marked l.pending (record { object = l.object; number = number }) ≡ true;
  step : StaysKept l.fn.pending l.fn.kept l.pending l.kept;
}
