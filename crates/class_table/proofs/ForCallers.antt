-- What other crates prove by.
pub use Rattle.class_table.proofs.ListLemmas.{map-taken, taken-whole}
pub use Rattle.class_table.proofs.TableLemmas.{of_class-none, told_behind}
