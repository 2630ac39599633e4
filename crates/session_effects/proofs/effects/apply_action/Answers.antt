use Rattle.session_model.specs.Operations.{operation_done}
use Rattle.session_model.specs.Execution.{in_state}
use Rattle.std.proofs.Common.{◌∙◌}
use Rattle.session_model.proofs.ForCallers.{operation_is_done}
use Rattle.session_tables.specs.Tables.{state_at}
use Rattle.session_effects.specs.Setup.{settings_of}
use Rattle.session_effects.proofs.ActionLemmas.{put_at}
use Rattle.session_effects.proofs.effects.apply_action.Goals as goal

pub returns-clause-tries : goal.returns-clause-tries
unfolding operation_done
returns-clause-tries c = λ doing.
    let slot = c.args.slot.now in
    operation_is_done (settings_of c.args.caller.now.setup.now) slot.object slot.sender slot.args.now slot.depth
    (in_state doing (state_at c.args.tables.now c.args.caller.now.place)) c.args.effect.now c.in_ok-operation.operation
    c.in_ok-operation.ensures.0 c.in_ok-do_found.ensures.refusal
    ∙ put_at c.args.tables.now c.do_found.new.tables c.args.caller.now.place _ doing c.requires.placed c.in_ok-do_found.ensures.ok
