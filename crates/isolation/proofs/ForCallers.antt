-- What other crates prove by.
pub use Rattle.isolation.proofs.Isolated.{alone_after-append, alone_lines-append, alone_posts-append, first_half}
pub use Rattle.isolation.proofs.LeftOut.{final_states, interleaving, leaving_out}
pub use Rattle.isolation.proofs.Piecewise.{commands_of-append, leaving_out_pieces, told-piece_answers, told_alone}
pub use Rattle.isolation.proofs.Reaching.{IsClosed-influences, influence_is_least, influenced_states, influences-self}
pub use Rattle.isolation.proofs.Reaching.{second_half}
pub use Rattle.isolation.proofs.Sliced.{AreNotes-push, kept-map, length-marks, notes_give_slice, slice_within_influence}
pub use Rattle.isolation.proofs.Between.{between_law, slice_from_members, slice_law}
pub use Rattle.isolation.proofs.Spared.{spared_law}
pub use Rattle.isolation.proofs.Worlds.{after-other, after-own, all_arrive-append}
