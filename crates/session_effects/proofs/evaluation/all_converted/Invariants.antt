use Rattle.std.proofs.Common.{◌≡◌, ◌≤◌, drop, length}
use Rattle.session_model.specs.Targets.{all_converted}
use Rattle.session_effects.proofs.FoundLemmas.{behind}
use Rattle.session_effects.proofs.evaluation.all_converted.Given as goal

abbrev pub invariant-loop-value : goal.invariant-loop-value
invariant-loop-value l = record {
  can_next : (goal.iterator-loop-value).can_next l.value-iterator;
  is_finite : (goal.iterator-loop-value).is_finite l.value-iterator;
  within : l.at ≤ length l.kinds;
  rest : behind l.converted (all_converted (drop l.at l.kinds) l.value-iterator.rest.items) ≡ all_converted l.kinds l.fn.values;
}
