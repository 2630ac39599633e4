use Rattle.std.proofs.Common.{◌≡◌, ◌+◌, ◌*◌, drop}
use Rattle.serde_json.specs.Data.{depth, items_depth}
use Rattle.serde_json.specs.View.{view, items_view}
use Rattle.term_core.specs.Bodies.{acts_in}
use Rattle.term_core.proofs.Concatenated.{concatenated}
use Rattle.term_core.proofs.body.+bodies.Given as goal

-- Each call reads JSON that nests less deep, or the items of what the caller reads.
abbrev pub decreases-action : goal.decreases-action
decreases-action l = 2 * depth (view l.json.now)

abbrev pub decreases-actions : goal.decreases-actions
decreases-actions l = 2 * depth (view l.json.now)

abbrev pub decreases-actions_of : goal.decreases-actions_of
decreases-actions_of l = 2 * items_depth (items_view l.list.now) + 1

-- What was read so far, and what is left of the list.
abbrev pub invariant-actions_of-loop-json : goal.invariant-actions_of-loop-json
invariant-actions_of-loop-json l = concatenated l.found.items (acts_in l.scope (items_view (drop l.json-index l.list))) ≡ acts_in l.scope (items_view l.list)
