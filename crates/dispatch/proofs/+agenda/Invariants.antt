use Rattle.std.proofs.Common.{◌≤◌, ◌+◌, ◌-◌, ◌*◌, ◌∷◌, [], drop, map}
use Rattle.term_core.specs.Act.{acts_of, count, counts}
use Rattle.session_model.specs.Acts as model
use Rattle.session_model.specs.Items.{DeleteChild, Detach, Emit}
use Rattle.session_model.proofs.ForCallers.{calls_to, remaining}
use Rattle.session_tables.specs.Tables.{state_at}
use Rattle.session_effects.specs.Actions.{act_of}
use Rattle.session_effects.specs.Setup.{settings_of}
use Rattle.session_effects.specs.Writing.{announced, told_items}
use Rattle.dispatch.proofs.AgendaLemmas.{left_to_do, longest_of}
use Rattle.dispatch.proofs.ProgressLemmas.{Progress}
use Rattle.dispatch.proofs.RunsLemmas.{here}
use Rattle.dispatch.proofs.+agenda.Given as goal

-- with as much left to do, each function calls those of a lower rank

abbrev pub decreases-agenda::call : goal.decreases-agenda::call
decreases-agenda::call g l = left_to_do l.actor.now.caller l.tables.now l.output.now 0

abbrev pub decreases-agenda::emit : goal.decreases-agenda::emit
decreases-agenda::emit g l = left_to_do l.actor.now.caller l.tables.now l.output.now 1

abbrev pub decreases-notifying::announce : goal.decreases-notifying::announce
decreases-notifying::announce g l = left_to_do l.actor.now.caller l.tables.now l.output.now 2

abbrev pub decreases-notifying::notify_of : goal.decreases-notifying::notify_of
decreases-notifying::notify_of g l = left_to_do l.actor.now.caller l.tables.now l.output.now 2

abbrev pub decreases-notifying::tell : goal.decreases-notifying::tell
decreases-notifying::tell g l = left_to_do l.actor.now.caller l.tables.now l.output.now 3

abbrev pub decreases-notifying::notify : goal.decreases-notifying::notify
decreases-notifying::notify g l = left_to_do l.actor.now.caller l.tables.now l.output.now 4

abbrev pub decreases-deletion::delete : goal.decreases-deletion::delete
decreases-deletion::delete g l = left_to_do l.actor.now.caller l.tables.now l.output.now 4

abbrev pub decreases-deletion::delete_child : goal.decreases-deletion::delete_child
decreases-deletion::delete_child g l = left_to_do l.actor.now.caller l.tables.now l.output.now 5

abbrev pub decreases-agenda::single_action : goal.decreases-agenda::single_action
decreases-agenda::single_action g l = left_to_do l.actor.now.caller l.tables.now l.output.now 5

abbrev pub decreases-deletion::detach : goal.decreases-deletion::detach
decreases-deletion::detach g l = left_to_do l.actor.now.caller l.tables.now l.output.now 6

-- a body has at most 32 actions
abbrev pub decreases-agenda::run_method : goal.decreases-agenda::run_method
decreases-agenda::run_method g l = left_to_do l.actor.now.caller l.tables.now l.output.now 71

abbrev pub decreases-agenda::act : goal.decreases-agenda::act
decreases-agenda::act g l = left_to_do l.actor.now.caller l.tables.now l.output.now (2 * count l.action.now + 5)

abbrev pub decreases-agenda::acts : goal.decreases-agenda::acts
decreases-agenda::acts g l = left_to_do l.actor.now.caller l.tables.now l.output.now (2 * counts (acts_of l.actions.now) + 6)

-- nor is a functor's body longer than the longest one
abbrev pub decreases-agenda::run_functor : goal.decreases-agenda::run_functor
decreases-agenda::run_functor g l = left_to_do l.actor.now.caller l.tables.now l.output.now (2 * longest_of l.actor.now.caller + 7)

abbrev pub decreases-agenda::call_functor : goal.decreases-agenda::call_functor
decreases-agenda::call_functor g l = left_to_do l.actor.now.caller l.tables.now l.output.now (2 * longest_of l.actor.now.caller + 8)

abbrev pub decreases-agenda::emit-calls : goal.decreases-agenda::emit-calls
decreases-agenda::emit-calls g l = l.up_to - l.after

-- so far the announcements before this one were told
abbrev pub invariant-notifying::tell-told : goal.invariant-notifying::tell-told
invariant-notifying::tell-told g l = Progress 0 l.actor.caller
    (here l.actor.caller (told_items (settings_of l.actor.caller.setup.now) (state_at l.fn.tables l.actor.caller.place) l.depth l.fn.changes) l.fn.tables
    l.fn.output)
    (here l.actor.caller (map (announced l.depth) (drop l.announcement-index l.announcement-items)) l.tables l.output)
    l.fn.tables l.tables l.fn.output l.output

-- so far the actions before this one were done
abbrev pub invariant-agenda::acts-actions : goal.invariant-agenda::acts-actions
invariant-agenda::acts-actions g l = Progress 0 l.actor.caller
    (here l.actor.caller (model.acts (acts_of l.actions) l.slot.args.now l.slot.object l.slot.sender l.slot.depth) l.fn.tables l.fn.output)
    (here l.actor.caller (map (act_of l.slot) (drop l.action-index l.actions)) l.tables l.output)
    l.fn.tables l.tables l.fn.output l.output

-- so far the connections were broken, and the children before this one deleted
abbrev pub invariant-deletion::detach-children : goal.invariant-deletion::detach-children
invariant-deletion::detach-children g l = Progress 0 l.actor.caller (here l.actor.caller (Detach l.target l.depth ∷ []) l.fn.tables l.fn.output)
    (here l.actor.caller (map (λ child. DeleteChild l.target child l.depth) (drop l.child-index l.child-items)) l.tables l.output)
    l.fn.tables l.tables l.fn.output l.output

-- so far the connections up to the last one that was called were called, and those above it are left
abbrev pub invariant-agenda::emit-calls : goal.invariant-agenda::emit-calls
invariant-agenda::emit-calls g l = record {
  progress : Progress 0 l.actor.caller (here l.actor.caller (Emit l.target l.signal l.args l.depth ∷ []) l.fn.tables l.fn.output)
      (here l.actor.caller (calls_to (settings_of l.actor.caller.setup.now) l.args l.depth
      (remaining l.target l.signal l.up_to l.after (state_at l.tables l.actor.caller.place).connections.rows)) l.tables l.output)
      l.fn.tables l.tables l.fn.output l.output;
  last : l.up_to ≤ (state_at l.tables l.actor.caller.place).connections.last_number;
}
