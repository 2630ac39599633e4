use Rattle.std.proofs.Common.{◌≡◌, ◌++◌, drop, filter, filter_map}
use Rattle.binding_values.specs.Graph.{has_turn, notice}
use Rattle.binding_graph.proofs.changes.notify.Given as goal

abbrev pub invariant-loop-shown : goal.invariant-loop-shown
invariant-loop-shown l = l.told.items ++ filter_map (notice l.last) (filter (has_turn l.written l.first) (drop l.shown-index l.now)) ≡ l.initial.told.items
    ++ filter_map (notice l.last) (filter (has_turn l.written l.first) l.now)
