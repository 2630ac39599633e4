use Rattle.std.proofs.Common.{◌-◌, ◌+◌, length}
use Rattle.binding_graph.specs.LastShown.{HasMoreSlots}
use Rattle.binding_graph.proofs.shown_object.ShownObject.make_slots.Given as goal

abbrev pub invariant-slots : goal.invariant-slots
invariant-slots l = HasMoreSlots l.initial.self l.self

abbrev pub decreases-slots : goal.decreases-slots
decreases-slots l = l.number + 1 - length l.self.slots.items
