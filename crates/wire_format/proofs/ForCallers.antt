-- What other crates prove by.
pub use Rattle.wire_format.proofs.Cutting.{lines_of-empty, lines_of-last, lines_of-line, piece_of-blank}
pub use Rattle.wire_format.proofs.Cutting.{piece_of-faulty, piece_of-given, piece_of-too_long}
pub use Rattle.wire_format.proofs.LeftOutLines.{leaving_out_strangers, lines_of-kept, lines_said_to-append, nothing_said}
pub use Rattle.wire_format.proofs.Outputs.{by_pieces, text_of_pieces, text_of_pieces-cons, text_of_pieces-nothing}
pub use Rattle.wire_format.proofs.Outputs.{text_of_said-said_by}
pub use Rattle.wire_format.proofs.Outputs.{world_after_pieces, world_after_pieces-cons, world_after_pieces-nothing}
pub use Rattle.wire_format.proofs.Outputs.{world_by_pieces}
pub use Rattle.wire_format.proofs.Sessions.{IsNamedPiece, blamed_is_session_text, piece_named, read_named, session_is_name}
