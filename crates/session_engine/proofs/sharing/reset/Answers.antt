use Rattle.session_model.proofs.ForCallers.{performs_reset, refusal_reset}
use Rattle.session_engine.proofs.CommandsLemmas.{replied}
use Rattle.session_engine.proofs.sharing.reset.Goals as goal

pub returns : goal.returns
returns c = replied c.requires (refusal_reset _ _ _) (performs_reset _ _ _) c.clear.ensures
