-- What other crates prove by.
pub use Rattle.session_tables.proofs.ForCallers.{keeps_same, keeps_twice, keeps_with, placed_kept}
pub use Rattle.session_effects.proofs.FoundLemmas.{behind, item_at}
pub use Rattle.session_effects.proofs.MethodLemmas.{methods_by_class}
