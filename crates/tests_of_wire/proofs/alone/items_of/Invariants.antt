use Rattle.std.proofs.Common.{All}
use Rattle.session_engine.specs.Items.{IsRightItem}
use Rattle.tests_of_wire.proofs.alone.items_of.Given as goal

abbrev pub invariant-loop-coming : goal.invariant-loop-coming
invariant-loop-coming l = All IsRightItem l.items.items
