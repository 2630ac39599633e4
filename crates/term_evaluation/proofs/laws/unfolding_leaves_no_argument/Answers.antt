use Rattle.term_evaluation.proofs.SubstitutionLemmas.{no_argument_left}
use Rattle.term_evaluation.proofs.laws.unfolding_leaves_no_argument.Goals as goal

pub returns : goal.returns
returns c = no_argument_left
