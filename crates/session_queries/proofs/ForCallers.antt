-- What other crates prove by.
pub use Rattle.session_queries.proofs.ReadingLemmas.{behind_first, behind_second}
