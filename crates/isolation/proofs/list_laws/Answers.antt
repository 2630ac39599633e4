use Rattle.isolation.proofs.list_laws.Goals as goal
use Rattle.isolation.proofs.Between.{between_law}
use Rattle.isolation.proofs.LeftOut.{interleaving}

pub returns : goal.returns
returns g c = record { between = λ m lawful. between_law m lawful; interleaving = λ m lawful. interleaving m lawful }
