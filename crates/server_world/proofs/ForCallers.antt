-- What other crates prove by.
pub use Rattle.server_world.proofs.NotingLemmas.{noted_step, notes_begin}
pub use Rattle.server_world.proofs.RunLemmas.{entry_is, steps_more, steps_settings, steps_world}
pub use Rattle.server_world.proofs.ServerLemmas.{knows_all}
pub use Rattle.server_world.proofs.SparedLemmas.{begins_anew, ends_first, ends_in, is_done, is_lossy, spared, told_of}
