-- What other crates prove by.
pub use Rattle.connection_list.proofs.RowsLemmas.{rising_head, rising_tail}
pub use Rattle.connection_list.proofs.StateLemmas.{IsUnseen, all_stepped, filter-changed, find-changed, sound_changed}
pub use Rattle.connection_list.proofs.StateLemmas.{sound_stepped, stepped-same, stepped_row}
pub use Rattle.connection_list.proofs.WithoutLemmas.{IsSound-without}
