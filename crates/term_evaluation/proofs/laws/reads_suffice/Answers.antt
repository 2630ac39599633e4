use Rattle.term_evaluation.proofs.EvaluationLemmas.{same_value}
use Rattle.term_evaluation.proofs.laws.reads_suffice.Goals as goal

pub returns : goal.returns
returns g c = λ term args one other agree. same_value term args one other agree
