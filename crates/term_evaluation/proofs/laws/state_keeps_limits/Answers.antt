use Rattle.term_evaluation.proofs.StatingLemmas.{state_takes, state_counts, state_limits}
use Rattle.term_evaluation.proofs.laws.state_keeps_limits.Goals as goal

pub returns : goal.returns
returns c = record { arguments = state_takes; actions = state_counts; limits = state_limits }
