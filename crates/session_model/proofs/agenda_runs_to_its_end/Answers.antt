use Rattle.session_model.proofs.RunLemmas.{runs_to_its_end}
use Rattle.session_model.proofs.agenda_runs_to_its_end.Goals as goal

pub returns : goal.returns
returns c = runs_to_its_end
