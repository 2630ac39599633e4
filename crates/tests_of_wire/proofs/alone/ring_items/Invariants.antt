use Rattle.std.proofs.Common.{All}
use Rattle.session_engine.specs.Items.{IsRightItem}
use Rattle.tests_of_wire.proofs.alone.ring_items.Given as goal

abbrev pub invariant-loop-step : goal.invariant-loop-step
invariant-loop-step l = All IsRightItem l.items.items
