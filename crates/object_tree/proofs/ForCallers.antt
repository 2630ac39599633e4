-- What other crates prove by.
pub use Rattle.object_tree.proofs.LawLemmas.{keeps_numbers, keeps_sound}
pub use Rattle.object_tree.proofs.NumberLemmas.{at_place}
pub use Rattle.object_tree.proofs.RowLemmas.{there_among}
