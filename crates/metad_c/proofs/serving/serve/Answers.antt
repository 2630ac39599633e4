use Rattle.std.proofs.Common.{sym}
use Rattle.wire_format.specs.Command.{command_of}
use Rattle.wire_format.specs.Input.{piece_of}
use Rattle.wire_format.proofs.ForCallers.{piece_of-blank}
use Rattle.metad_c.specs.Answers.{seen}
use Rattle.metad_c.proofs.ServingLemmas.{blank_comes, piece_of_read, read_comes}
use Rattle.metad_c.proofs.serving.serve.Goals as goal

pub returns-then-is_blank : goal.returns-then-is_blank
returns-then-is_blank c =
    blank_comes (seen c.args.kept.now) (piece_of c.args.line.now) (piece_of-blank c.args.line.now (sym c.if-is_blank.ensures))

pub returns : goal.returns
returns c =
    read_comes (seen c.args.kept.now) (seen c.answer.new.kept) (piece_of c.args.line.now) (command_of c.args.line.now) c.answer.result
    (piece_of_read c.args.line.now (sym c.if-is_blank.ensures)) (c.answer.ensures (command_of c.args.line.now) c.read_line-read.ensures)
