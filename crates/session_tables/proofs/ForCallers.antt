-- What other crates prove by.
pub use Rattle.session_tables.proofs.PostLemmas.{changes_session}
pub use Rattle.session_tables.proofs.ReachingLemmas.{after_posts-append, after_posts-none, after_posts_stranger, placed_shaped, reaches_changed}
pub use Rattle.session_tables.proofs.ReachingLemmas.{reaches_twice, session_unchanged, shaped_changed, shaped_twice}
pub use Rattle.session_tables.proofs.ReachingLemmas.{stays_failed}
pub use Rattle.session_tables.proofs.TablesLemmas.{changes_same, changes_twice, changes_with, even_opened, even_same}
pub use Rattle.session_tables.proofs.TablesLemmas.{keeps_same, keeps_twice, keeps_with, placed_kept}
pub use Rattle.session_tables.proofs.TablesLemmas.{placed_after, placed_by, session_opened, session_past, session_same}
pub use Rattle.session_tables.proofs.TablesLemmas.{session_there, state_with}
