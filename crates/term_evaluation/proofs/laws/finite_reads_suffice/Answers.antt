use Rattle.term_evaluation.proofs.KnownLemmas.{same_over_known}
use Rattle.term_evaluation.proofs.laws.finite_reads_suffice.Goals as goal

pub returns : goal.returns
returns g c = λ term args read. same_over_known term args read
