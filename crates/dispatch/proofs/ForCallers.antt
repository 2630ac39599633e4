-- What other crates prove by.
pub use Rattle.dispatch.proofs.AgendaLemmas.{spent_is}
pub use Rattle.dispatch.proofs.RunsLemmas.{OnOk-map, SoFar, does_after, does_by, does_none, far_end, far_last}
pub use Rattle.dispatch.proofs.RunsLemmas.{far_next, far_none, far_wanting, here, next_none, placed_reached}
pub use Rattle.dispatch.proofs.RunsLemmas.{reaches_none}
pub use Rattle.dispatch.proofs.PrefixLemmas.{front_none, front_same, part_front}
