-- What other crates prove by.
pub use Rattle.json_reading.proofs.KeyLemmas.{all_keys_in}
pub use Rattle.json_reading.proofs.MemberLemmas.{found_at_last, found_before_last}
