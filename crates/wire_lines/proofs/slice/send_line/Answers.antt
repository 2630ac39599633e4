use Rattle.std.proofs.Common.{[], ◌∷◌}
use Rattle.wire_lines.specs.Sending.{out}
use Rattle.wire_lines.specs.Slicing.{ended}
use Rattle.wire_lines.proofs.Sent.{SentAll-after, SentAll-failed, SentFront-more}
use Rattle.wire_lines.proofs.slice.send_line.Goals as goal

pub returns-in_err-send-clause-sent : goal.returns-in_err-send-clause-sent
returns-in_err-send-clause-sent g c =
    let old = out (g.W.Sink.held c.args.writer.now) c.args.buffer.now in
    let new = out (g.W.Sink.held c.send.new.writer) c.send.new.self in
    SentAll-failed old new _ (ended c.args.line.now) c.from_residual.ensures.0 (SentFront-more old new c.args.line.now (10 ∷ []) c.in_err-send.ensures.bytes)

pub returns-clause-sent : goal.returns-clause-sent
returns-clause-sent g c =
    let old = out (g.W.Sink.held c.args.writer.now) c.args.buffer.now in
    let mid = out (g.W.Sink.held c.send.new.writer) c.send.new.self in
    let new = out (g.W.Sink.held c.send-2.new.writer) c.send-2.new.self in
    SentAll-after old mid new c.send-2.result c.args.line.now (10 ∷ []) c.in_ok-send.ensures.bytes c.send-2.ensures.bytes
