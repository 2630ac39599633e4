use Rattle.term_evaluation.proofs.MetLemmas.{same_met}
use Rattle.term_evaluation.proofs.laws.met_suffice.Goals as goal

pub returns : goal.returns
returns g c = λ term args one other agree. same_met term args one other agree
