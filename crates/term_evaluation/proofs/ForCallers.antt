-- What other crates prove by.
pub use Rattle.term_evaluation.proofs.Branches.{branch_changed}
pub use Rattle.term_evaluation.proofs.EvaluationLemmas.{in_place, short_value, stands}
pub use Rattle.term_evaluation.proofs.MetLemmas.{Ended, Follows, IsValue, Turn, fault_met, first_part, follows}
pub use Rattle.term_evaluation.proofs.MetLemmas.{follows_back, goes_on}
pub use Rattle.term_evaluation.proofs.StatingLemmas.{state_counts, state_limits, state_named}
pub use Rattle.term_evaluation.proofs.SubstitutionLemmas.{actions_kept}
