use Rattle.isolation.proofs.ForCallers as reaching
use Rattle.session_model.specs.Machine.{machine}
use Rattle.session_model.proofs.ForCallers.{lawful}
use Rattle.server_world.proofs.laws.influence_is_least.Goals as goal

pub returns : goal.returns
returns c = λ settings. reaching.influence_is_least (machine settings) (lawful settings)
