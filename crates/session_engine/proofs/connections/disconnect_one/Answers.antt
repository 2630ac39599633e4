use Rattle.std.proofs.Common.{ap, sym, ◌∙◌}
use Rattle.session_engine.proofs.Common.{replies, state_at}
use Rattle.session_model.specs.declared.line.Answer.TheVariants as a
use Rattle.session_model.specs.State.{without_connections}
use Rattle.session_model.proofs.ForCallers.{performs_disconnect_one, refusal_disconnect_one}
use Rattle.connection_list.specs.Rows.{has_number}
use Rattle.session_engine.proofs.CommandsLemmas.{replied}
use Rattle.session_engine.proofs.connections.disconnect_one.Goals as goal

pub returns : goal.returns
returns c = replied c.requires (refusal_disconnect_one _ _ _ _)
    (performs_disconnect_one _ _ _ _ ∙ ap (λ stood. replies
    (without_connections (state_at c.args.tables.now c.args.caller.now.place) (has_number c.args.connection)) (a.Truth stood))
    (sym c.disconnect_one.ensures.stood))
    c.disconnect_one.ensures.broken
