use Rattle.term_evaluation.proofs.SubstitutionLemmas.{nodes_unfolded, actions_kept, limits_kept}
use Rattle.term_evaluation.proofs.laws.unfolding_keeps_limits.Goals as goal

pub returns : goal.returns
returns c = record { nodes = nodes_unfolded; actions = actions_kept; limits = limits_kept }
