use Rattle.term_evaluation.proofs.EvaluationLemmas.{short_value}
use Rattle.term_evaluation.proofs.laws.values_are_short.Goals as goal

pub returns : goal.returns
returns g c = λ term args read texts all reads. short_value term args read texts all reads
