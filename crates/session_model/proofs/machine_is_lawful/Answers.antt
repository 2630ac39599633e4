use Rattle.session_model.proofs.Lawful.{lawful}
use Rattle.session_model.proofs.machine_is_lawful.Goals as goal

pub returns : goal.returns
returns c = lawful
