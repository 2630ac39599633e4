use Rattle.isolation.proofs.spared_laws.Goals as goal
use Rattle.isolation.proofs.Spared.{spared_law}

pub returns : goal.returns
returns g c = record { spared = λ m anew lawful. spared_law m anew lawful }
