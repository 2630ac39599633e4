use Rattle.std.proofs.Common.{◌≡◌, ◌++◌}
use Rattle.session_engine.proofs.commands.append.Given as goal

abbrev pub invariant-loop-line : goal.invariant-loop-line
invariant-loop-line l = record {
  can_next : (goal.iterator-loop-line).can_next l.line-iterator;
  is_finite : (goal.iterator-loop-line).is_finite l.line-iterator;
  told : l.told ++ l.line-iterator.rest.items ≡ l.initial.told ++ l.fn.lines;
}
