-- What other crates prove by.
pub use Rattle.signature_core.proofs.FitLemmas.{Decides-fits, Decides-is_same_kind}
pub use Rattle.signature_core.proofs.Normal.{normal_text_read}
