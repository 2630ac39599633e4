use Rattle.session_model.proofs.InPlaceLemmas.{acts_in_place}
use Rattle.session_model.proofs.actions_run_in_place.Goals as goal

pub returns : goal.returns
returns c = acts_in_place
