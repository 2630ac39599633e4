-- What other crates prove by.
pub use Rattle.shared_rows.proofs.KeptLemmas.{on_err}
pub use Rattle.shared_rows.proofs.LinkLemmas.{below_parted, first_at, parted_at, parted_by, remove_link, seat_found, then_equal}
pub use Rattle.shared_rows.proofs.PairedLemmas.{each_opened, each_with, length-paired, paired_at, paired_push, paired_set}
pub use Rattle.shared_rows.proofs.PairedLemmas.{pairs_at, pairs_length, pairs_opened, pairs_with}
pub use Rattle.shared_rows.proofs.TableLemmas.{changes_length, changes_open, changes_same, changes_twice, changes_with}
pub use Rattle.shared_rows.proofs.TableLemmas.{default_pushed, with_after, with_same, with_there, with_twice}
