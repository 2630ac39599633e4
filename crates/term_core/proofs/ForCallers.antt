-- What other crates prove by.
pub use Rattle.term_core.proofs.BodyLemmas.{IsReadFor, body_read}
pub use Rattle.term_core.proofs.Counts.{count_within}
