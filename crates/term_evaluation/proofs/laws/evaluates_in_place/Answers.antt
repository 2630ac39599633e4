use Rattle.term_evaluation.proofs.EvaluationLemmas.{in_place}
use Rattle.term_evaluation.proofs.laws.evaluates_in_place.Goals as goal

pub returns : goal.returns
returns g c = λ term args read. in_place term args read
