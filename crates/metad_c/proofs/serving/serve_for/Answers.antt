use Rattle.std.proofs.Common.{sym}
use Rattle.metad_c.specs.Reading.{command_for, piece_for}
use Rattle.metad_c.specs.Answers.{seen}
use Rattle.metad_c.proofs.ServingLemmas.{blank_comes, piece_for_blank, piece_for_read, read_comes}
use Rattle.metad_c.proofs.serving.serve_for.Goals as goal

pub returns-then-is_blank : goal.returns-then-is_blank
returns-then-is_blank c =
    blank_comes (seen c.args.kept.now) (piece_for c.args.session.now c.args.line.now)
    (piece_for_blank c.args.session.now c.args.line.now (sym c.if-is_blank.ensures))

pub returns : goal.returns
returns c =
    let session = c.args.session.now in
    let line = c.args.line.now in
    read_comes (seen c.args.kept.now) (seen c.answer.new.kept) (piece_for session line) (command_for session line) c.answer.result
    (piece_for_read session line (sym c.if-is_blank.ensures)) (c.answer.ensures (command_for session line) c.read_line_for-read.ensures)
