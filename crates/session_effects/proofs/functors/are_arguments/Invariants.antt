use Rattle.std.proofs.Common.{◌≡◌, ◌≤◌, ◌↔◌, drop, length}
use Rattle.stored_slots.specs.Functors.{AreArguments}
use Rattle.session_effects.proofs.functors.are_arguments.Given as goal

-- the values so far are of their kinds
abbrev pub invariant-values : goal.invariant-values
invariant-values l = record {
  together : l.at ≡ l.value-index;
  within : l.at ≤ length l.kinds;
  rest : AreArguments (drop l.at l.kinds) (drop l.value-index l.values) ↔ AreArguments l.kinds l.values;
}
