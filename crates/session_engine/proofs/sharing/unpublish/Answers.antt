use Rattle.std.proofs.Common.{ap, sym, ◌∙◌}
use Rattle.session_engine.proofs.Common.{replies, state_at}
use Rattle.session_model.specs.declared.line.Answer.TheVariants as a
use Rattle.publish_board.specs.Desk.{unpublished}
use Rattle.session_model.specs.State.{with_desk}
use Rattle.session_model.proofs.ForCallers.{performs_unpublish, refusal_unpublish}
use Rattle.session_engine.proofs.CommandsLemmas.{replied}
use Rattle.session_engine.proofs.sharing.unpublish.Goals as goal

pub returns : goal.returns
returns c =
    let state = state_at c.args.tables.now c.args.caller.now.place in
    replied c.requires (refusal_unpublish _ _ _ _)
    (performs_unpublish _ _ _ _ ∙ ap (λ stood. replies (with_desk state (unpublished state.desk c.args.name.now)) (a.Truth stood))
    (sym c.unpublish.ensures.was))
    c.unpublish.ensures.is
